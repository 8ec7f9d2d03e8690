-- Which macroblocks are marked, and tests of all of them.
use Rattle.std.proofs.Common.{◌≡◌, ℕ, zero, suc, ◌<◌, Bool, ◌&&◌, ◌||◌, List, ◌∷◌, refl, ap, ◌∙◌, arith}
use Rattle.std.proofs.lemmas.Bool.{ne_eqb, eq-eqb}
use Rattle.call_model.specs.Numbers.{all_below}
use Rattle.packet_collector.specs.Taken.{Taken, is_mb_taken, head_holds}

-- tests that agree below n pass or fail together
pub all_same : (n : ℕ) (f g : ℕ → Bool) → ((k : ℕ) → k < n → f k ≡ g k) → all_below n f ≡ all_below n g
all_same zero f g same = refl
all_same (suc n) f g same =
    ap (λ (b : Bool). b && all_below n f) (same n (omega arith))
    ∙ ap (λ (b : Bool). g n && b) (all_same n f g (λ k lt. same k (omega (arith, lt))))

-- of a picture's slices one more was taken
pub taken_more : (t : Taken) (taken : List Taken) (n k : ℕ) → t.number ≡ n → is_mb_taken (t ∷ taken) n k
    ≡ (head_holds t.piece.head k || is_mb_taken taken n k)
unfolding is_mb_taken
taken_more t taken n k same = rw (eq-eqb t.number n same) refl

pub taken_other : (t : Taken) (taken : List Taken) (n k : ℕ) → (t.number ≡ n → ⊥) → is_mb_taken (t ∷ taken) n k
    ≡ is_mb_taken taken n k
unfolding is_mb_taken
taken_other t taken n k other = rw (ne_eqb t.number n other) refl
