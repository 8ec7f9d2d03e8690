use Rattle.call_model.specs.Coding.{pictures_of}
use Rattle.call_model.specs.IdealCall.{encoded}
use Rattle.call_model.proofs.ByEvents.{counts_are_those, arrived_by_events, exact_by_events, shown_by_events}
use Rattle.call_model.proofs.laws.frames_by_events.Goals as goal

pub returns-clause-counts : goal.returns-clause-counts
returns-clause-counts g c coding rules pace frames = counts_are_those coding rules pace frames

pub returns-clause-arrived : goal.returns-clause-arrived
returns-clause-arrived g c coding rules pace frames = arrived_by_events (pictures_of coding) rules
    (encoded coding rules pace frames)

pub returns-clause-exact : goal.returns-clause-exact
returns-clause-exact g c coding rules pace frames = exact_by_events (pictures_of coding) rules
    (encoded coding rules pace frames)

pub returns-clause-stays : goal.returns-clause-stays
returns-clause-stays g c coding rules pace frames = shown_by_events (pictures_of coding) rules
    (encoded coding rules pace frames)
