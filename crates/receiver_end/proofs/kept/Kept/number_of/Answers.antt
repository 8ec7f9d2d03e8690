use Rattle.std.proofs.Common.{refl, ◌∙◌}
use Rattle.receiver_end.proofs.Headers.{both}
use Rattle.receiver_end.proofs.Arrived.{of_other_clock, of_this_clock}
use Rattle.receiver_end.proofs.kept.Kept.number_of.Goals as goal

pub returns-then-not-is_same_clock : goal.returns-then-not-is_same_clock
returns-then-not-is_same_clock c p spells =
    of_other_clock c.args.self.now c.args.piece.now p spells
    (λ same. both _ (c.is_same_clock.ensures.1 same) c.if-not-is_same_clock.true)

pub returns : goal.returns
returns c p spells =
    let r = c.args.self.now in
    c.nearest.ensures.value r.params refl
    ∙ of_this_clock r c.args.piece.now p spells (c.is_same_clock.ensures.0 c.if-not-is_same_clock.false)
