use Rattle.std.proofs.Common.{◌≡◌, ℕ, Bool, true, false, cond, get_or, pos, sym, refl, ap, ◌∙◌, ℤ}
use Rattle.std.specs.Int.{bit_at}
use Rattle.std.proofs.lemmas.Bool.Decides.{Decides-int_eq}
use Rattle.h263_types.specs.Marks.{is_zero}
use Rattle.picture_recon.proofs.values.marks_of.Goals as goal

-- a level whose bit isn't set is 0
unset : (z : ℤ) (t : Bool) → is_zero z ≡ t → ◌≡◌ {A = ℕ} (cond t 0 1) 0 → z ≡ pos 0
unset z true e none = (Decides-int_eq z (pos 0)).0 e
unset z false e none = absurd (cc none)

pub returns : goal.returns
returns c = λ k less none.
    let z = get_or c.args.block.levels k (pos 0) in
    unset z (is_zero z) refl (sym (c.marks.ensures c.args.block.levels k)
    ∙ ap (λ (n : ℕ). bit_at n k) (sym c.marks-2.ensures.marks) ∙ none)
