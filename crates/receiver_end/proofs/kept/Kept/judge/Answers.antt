use Rattle.std.proofs.Common.{refl, sym, ◌∙◌, subst}
use Rattle.receiver_end.specs.Answers.{IsHeard}
use Rattle.receiver_end.specs.Steps.{IsJudged}
use Rattle.receiver_end.proofs.Headers.{both}
use Rattle.receiver_end.proofs.Numbered.{other_clock, no_number, too_late, too_early, is_open}
use Rattle.receiver_end.proofs.kept.Kept.judge.Goals as goal

pub returns-then-not-is_same_clock-clause-answer : goal.returns-then-not-is_same_clock-clause-answer
returns-then-not-is_same_clock-clause-answer c p spells =
    let r = c.args.self.now in
    subst (IsHeard r.params.clock c.refused.result)
    (sym (other_clock r c.args.piece.now p spells
    (λ same. both _ (c.is_same_clock.ensures.1 same) c.if-not-is_same_clock.true)))
    c.refused.ensures

pub returns-in_default-clause-answer : goal.returns-in_default-clause-answer
returns-in_default-clause-answer c p spells =
    let r = c.args.self.now in
    rw (no_number r c.args.piece.now p spells (c.is_same_clock.ensures.0 c.if-not-is_same_clock.false)
    (sym (c.nearest.ensures.value r.params refl) ∙ c.in_default.is)) refl

pub returns-then-number-self-clause-answer : goal.returns-then-number-self-clause-answer
returns-then-number-self-clause-answer c p spells =
    let r = c.args.self.now in
    rw (too_late r c.args.piece.now p spells (c.is_same_clock.ensures.0 c.if-not-is_same_clock.false) c.in-Some.number
    (sym (c.nearest.ensures.value r.params refl) ∙ c.in-Some.is) c.if-number-self.true) refl

pub returns-then-number-self-2-clause-answer : goal.returns-then-number-self-2-clause-answer
returns-then-number-self-2-clause-answer c p spells =
    let r = c.args.self.now in
    rw (too_early r c.args.piece.now p spells (c.is_same_clock.ensures.0 c.if-not-is_same_clock.false) c.in-Some.number
    (sym (c.nearest.ensures.value r.params refl) ∙ c.in-Some.is) c.if-number-self.false c.if-number-self-2.true)
    refl

pub returns-clause-answer : goal.returns-clause-answer
returns-clause-answer c p spells =
    let r = c.args.self.now in
    subst (IsJudged r c.judge_open.result p)
    (sym (is_open r c.args.piece.now p spells (c.is_same_clock.ensures.0 c.if-not-is_same_clock.false) c.in-Some.number
    (sym (c.nearest.ensures.value r.params refl) ∙ c.in-Some.is) c.if-number-self.false c.if-number-self-2.false))
    (c.judge_open.ensures.answer p spells)
