use Rattle.std.proofs.Common.{◌≢◌, ◌∙◌, ◌*◌, ◌%◌, ◌^◌, ap, arith, sym, subst, ℕ, ℤ, pos, to_z, of_z, w16}
use Rattle.std.specs.Prelude.{bit_or}
use Rattle.mode_choice.proofs.Levels.{level_kept}
use Rattle.mode_choice.proofs.Marked.{set_mark}
use Rattle.mode_choice.proofs.order.put_level.Goals as goal

pub returns-then-k-from-clause-marks : goal.returns-then-k-from-clause-marks
returns-then-k-from-clause-marks c =
    let v : ℤ = to_z w16 (of_z w16 c.args.level) in
    let some : v ≢ pos 0 = subst (λ (z : ℤ). z ≢ pos 0) (sym (level_kept c.args.level c.requires.level)) c.requires.some
    in
    ap (λ (n : ℕ). bit_or n (1 * 2 ^ c.args.k % 2 ^ 64)) c.requires.marks
    ∙ set_mark c.marks.ensures c.args.out.now c.args.k v c.requires.place (omega (
      arith,
      c.requires.place,
      c.requires.long,
    )) some
