use Rattle.std.proofs.Common.{◌≡◌, ℕ, ◌+◌, ◌-◌, Bool, cond, ap, ◌∙◌, subst, arith}
use Rattle.call_model.specs.Numbers.{flags_of}
use Rattle.reference_selector.specs.Messages.{is_flagged}
use Rattle.receiver_end.specs.State.{slot_holds}
use Rattle.receiver_end.proofs.Flags.{doubled, one_more_at}
use Rattle.receiver_end.proofs.kept.Kept.flags.Goals as goal

pub loop-j-preserved : goal.loop-j-preserved
loop-j-preserved c =
    let p = c.args.self.now.params in let s = c.args.self.now.store in
    let b : c.bit.result ≡ cond (slot_holds p s (c.args.number + 14 - c.loop-j.j)) 1 0 =
    subst (λ (x : Bool). c.bit.result
    ≡ cond x 1 0) c.holds.ensures.value c.bit.ensures in (
      doubled c.loop-j.flags c.bit.result c.loop-j.j (slot_holds p s (c.args.number + 14 - c.loop-j.j)) b
          c.loop-j.invariant.0,
      one_more_at c.loop-j.j (c.args.number + 14) c.loop-j.flags c.bit.result (slot_holds p s)
          (omega (arith, c.loop-j-test.true)) b c.loop-j.invariant.1,
    )

pub returns-clause-flags : goal.returns-clause-flags
returns-clause-flags c =
    let p = c.args.self.now.params in let s = c.args.self.now.store in
    let all : c.loop-j.j ≡ 14 = omega (arith, c.loop-j-test.false, c.loop-j.auto.j-end) in
    let n : c.args.number + 14 - 14 ≡ c.args.number = omega arith in
    subst (λ (j : ℕ). flags_of j (is_flagged c.loop-j.flags) 0 ≡ flags_of j (slot_holds p s) (c.args.number + 14 - j))
    all
    c.loop-j.invariant.1
    ∙ ap (flags_of 14 (slot_holds p s)) n
