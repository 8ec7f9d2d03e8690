-- The marks that a macroblock has beside it serve to draw it.
use Rattle.std.proofs.Common.{◌≡◌, ℕ, ℤ, pos, Bool, true, false, cond, List, get_or, refl, sym, ap, ◌∙◌}
use Rattle.std.specs.Int.{bit_at}
use Rattle.std.proofs.lemmas.Bool.Decides.{Decides-int_eq}
use Rattle.h263_types.specs.declared.blocks.Block.{Block}
use Rattle.h263_types.specs.Marks.{AreMarksOfFirst, EachIsMarked, is_zero, marks_of}
use Rattle.picture_recon.specs.Marks.{AreMarked, AreMarkedIn}
use Rattle.picture_recon.specs.Samples.{block_in}

-- a level whose bit isn't set is 0
unset : (z : ℤ) (t : Bool) → is_zero z ≡ t → ◌≡◌ {A = ℕ} (cond t 0 1) 0 → z ≡ pos 0
unset z true e none = (Decides-int_eq z (pos 0)).0 e
unset z false e none = absurd (cc none)

marked : EachIsMarked → (levels : List ℤ) (n : ℕ) → n ≡ marks_of levels → AreMarked levels n
marked each levels n e k less none =
    let z = get_or levels k (pos 0) in
    unset z (is_zero z) refl (sym (each levels k) ∙ ap (λ (n : ℕ). bit_at n k) (sym e) ∙ none)

pub all_marked : EachIsMarked → (blocks : List Block) (marks : List ℕ) → AreMarksOfFirst 6 blocks marks
    → AreMarkedIn blocks marks
all_marked each blocks marks are = λ b less. marked each (block_in blocks b).levels (get_or marks b 0) (are b less)
