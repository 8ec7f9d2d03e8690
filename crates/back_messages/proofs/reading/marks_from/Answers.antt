use Rattle.std.proofs.Common.{◌≡◌, ℕ, ◌+◌, ◌*◌, ◌/◌, ◌%◌, ◌^◌, Some, refl, sym, ap, ◌∙◌, arith, eq-eqb}
use Rattle.back_messages.specs.Text.{marked, marks_in}
use Rattle.back_messages.proofs.Flags.{marks_parts}
use Rattle.back_messages.proofs.reading.marks_from.Goals as goal

with_markers : (n : ℕ) → n / 2 ^ 15 % 2 ≡ 1 → n / 2 ^ 7 % 2 ≡ 1 → marked n ≡ Some (marks_in n)
with_markers n high low = rw (eq-eqb (n / 2 ^ 15 % 2) 1 high, eq-eqb (n / 2 ^ 7 % 2) 1 low) refl

pub returns-clause-value : goal.returns-clause-value
returns-clause-value c =
    let n = c.args.flags in
    let value : c.turned.result + 128 * c.turned-2.result ≡ marks_in n = omega (
      arith,
      marks_parts n,
      c.turned.ensures.value,
      c.turned-2.ensures.value,
    ) in
    ap Some value ∙ sym (with_markers n (omega arith) (omega arith))
