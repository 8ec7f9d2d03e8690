use Rattle.std.proofs.Common.{◌≡◌, sym, subst}
use Rattle.call_decoding.specs.Rules.{rules_of}
use Rattle.sender_end.specs.Parts.{sender_state}
use Rattle.sender_end.specs.Known.{known_in}
use Rattle.sender_end.specs.Stands.{Holds}
use Rattle.sender_end.specs.State.{SenderState}
use Rattle.sender_end.proofs.Counted.{counted_is}
use Rattle.sender_end.proofs.sender.Sender.known.Goals as goal

pub returns : goal.returns
returns g c = λ run held.
    let i = c.self.inside in
    let was = subst (λ (x : SenderState g.row.P.Denot). Holds x run) (sym c.self.view_is) held in
    subst (λ (x : SenderState g.row.P.Denot). c.known_from.result ≡ known_in x.params run) c.self.view_is
    (counted_is (sender_state i) run c.saturating_sub-first.result c.known_from.result was
    c.saturating_sub-first.ensures
    (λ depth known stands low. c.known_from.ensures (rules_of i.params) depth known stands low))
