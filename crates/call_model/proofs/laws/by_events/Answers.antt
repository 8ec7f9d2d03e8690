use Rattle.call_model.proofs.ByEvents.{counts_by_events, arrived_by_events, exact_by_events, shown_by_events}
use Rattle.call_model.proofs.laws.by_events.Goals as goal

pub returns-clause-counts : goal.returns-clause-counts
returns-clause-counts g c pictures rules source = counts_by_events pictures rules source

pub returns-clause-arrived : goal.returns-clause-arrived
returns-clause-arrived g c pictures rules source = arrived_by_events pictures rules source

pub returns-clause-exact : goal.returns-clause-exact
returns-clause-exact g c pictures rules source = exact_by_events pictures rules source

pub returns-clause-stays : goal.returns-clause-stays
returns-clause-stays g c pictures rules source = shown_by_events pictures rules source
