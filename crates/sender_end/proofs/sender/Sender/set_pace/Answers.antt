use Rattle.std.proofs.Common.{sym, subst}
use Rattle.sender_end.specs.Parts.{sender_state}
use Rattle.sender_end.specs.Stands.{Holds}
use Rattle.sender_end.specs.State.{SenderState}
use Rattle.sender_end.proofs.Beginning.{ready_as, seen_as}
use Rattle.sender_end.proofs.sender.Sender.set_pace.Goals as goal

pub invariant_of-self : goal.invariant_of-self
invariant_of-self g c = let i = c.self.inside in ready_as i c.args.pace i.since c.self.invariant

pub returns-clause-holds : goal.returns-clause-holds
returns-clause-holds g c = λ run held.
    let i = c.self.inside in
    let was = subst (λ (x : SenderState g.row.P.Denot). Holds x run) (sym c.self.view_is) held in
    record {
      s = was.s;
      seen = seen_as (sender_state i) c.args.pace i.since was.s was.seen;
      since = was.since;
      holds = was.holds;
    }
