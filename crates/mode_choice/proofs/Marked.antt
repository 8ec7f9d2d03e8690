-- The marks of blocks, which are found one after the other.
use Rattle.std.proofs.Common.{◌≡◌, ◌≢◌, ◌∙◌, ℕ, ◌+◌, ◌*◌, ◌%◌, ◌^◌, ◌<◌, ℤ, Bool, true, false, cond, nat_eq, List, [], refl, ap, sym, arith, below_more, get_or, get_or-set_same, get_or-set_other, length, replicate, slice_set, pos, w64}
use Rattle.std.specs.Prelude.{bit_or}
use Rattle.std.specs.Int.{bit_at}
use Rattle.std.proofs.lemmas.Bool.Decides.{Decides-int_eq, nat_tests}
use Rattle.std.proofs.lemmas.Nat.Bits.{bit_at_set_same, bit_at_set_other, same_from_bits}
use Rattle.h263_types.specs.declared.blocks.Block.{Block}
use Rattle.h263_types.specs.Marks.{marks_of, is_zero, AreMarksOfFirst, EachIsMarked}
use Rattle.mode_choice.specs.Walk.{zero_block}

same_place : (i k : ℕ) → nat_eq i k ≡ true → i ≡ k
same_place i k h = grind (arith, nat_tests)

other_place : (i k : ℕ) → nat_eq i k ≡ false → i ≢ k
other_place i k h = λ e. grind (arith, nat_tests)

no_marks : 0 ≡ marks_of (replicate 64 (pos 0))
unfolding marks_of
no_marks = refl

pub none_in_zeros : (levels : List ℤ) → levels ≡ replicate 64 (pos 0) → 0 ≡ marks_of levels
none_in_zeros levels e = no_marks ∙ ap marks_of (sym e)

-- a level with a mark isn't 0
some_where : (b : Bool) (z : ℤ) → is_zero z ≡ b → ◌≡◌ {A = ℕ} (cond b 0 1) 1 → z ≢ pos 0
some_where true z e mark = absurd (omega (arith, mark))
some_where false z e mark = λ none. let zero : is_zero z ≡ true = ap is_zero none in cc

pub marked_some : EachIsMarked → (levels : List ℤ) (k : ℕ) → bit_at (marks_of levels) k ≡ 1
    → get_or levels k (pos 0) ≢ pos 0
marked_some marked levels k mark =
    some_where (is_zero (get_or levels k (pos 0))) (get_or levels k (pos 0)) refl (sym (marked levels k) ∙ mark)

not_zero : (b : Bool) (z : ℤ) → is_zero z ≡ b → z ≢ pos 0 → ◌≡◌ {A = ℕ} (cond b 0 1) 1
not_zero true z e some = absurd (some ((Decides-int_eq z (pos 0)).0 e))
not_zero false z e some = refl

bit_of : EachIsMarked → (levels : List ℤ) (k : ℕ) (v : ℤ) → get_or levels k (pos 0) ≡ v → v ≢ pos 0
    → bit_at (marks_of levels) k ≡ 1
bit_of marked levels k v is some =
    marked levels k ∙ ap (λ (z : ℤ). cond (is_zero z) 0 1) is ∙ not_zero (is_zero v) v refl some

by_place : (b : Bool) (marked : EachIsMarked) (levels : List ℤ) (k i : ℕ) (v : ℤ) → nat_eq i k ≡ b → k < 64
    → k < length levels → v ≢ pos 0 →
    bit_at (bit_or (marks_of levels) (1 * 2 ^ k % 2 ^ 64)) i ≡ bit_at (marks_of (slice_set levels k v)) i
by_place true marked levels k i v test below room some =
    let same : i ≡ k = same_place i k test in
    ap (bit_at (bit_or (marks_of levels) (1 * 2 ^ k % 2 ^ 64))) same
    ∙ bit_at_set_same w64 (marks_of levels) k below
    ∙ sym (bit_of marked (slice_set levels k v) k v (get_or-set_same levels k v (pos 0) room) some)
    ∙ ap (bit_at (marks_of (slice_set levels k v))) (sym same)
by_place false marked levels k i v test below room some =
    let other : i ≢ k = other_place i k test in
    bit_at_set_other w64 (marks_of levels) k below i other
    ∙ marked levels i
    ∙ ap (λ (z : ℤ). cond (is_zero z) 0 1) (sym (get_or-set_other levels k i v (pos 0) other))
    ∙ sym (marked (slice_set levels k v) i)

-- the marks of levels of which one that isn't 0 is set
pub set_mark : EachIsMarked → (levels : List ℤ) (k : ℕ) (v : ℤ) → k < 64 → k < length levels → v ≢ pos 0 →
    bit_or (marks_of levels) (1 * 2 ^ k % 2 ^ 64) ≡ marks_of (slice_set levels k v)
set_mark marked levels k v below room some =
    same_from_bits _ _ (λ i. by_place (nat_eq i k) marked levels k i v refl below room some)

-- a block of zeros has none
pub none_of_zeros : (block : Block) → block ≡ zero_block → 0 ≡ marks_of block.levels
none_of_zeros block e = no_marks ∙ ap (λ (b : Block). marks_of b.levels) (sym e)

-- a block that is written, and its marks
pub one_more_marked : (blocks : List Block) (marks : List ℕ) (n : ℕ) (block : Block) (m : ℕ) → n < length blocks
    → n < length marks → m ≡ marks_of block.levels →
    AreMarksOfFirst n blocks marks → AreMarksOfFirst (n + 1) (slice_set blocks n block) (slice_set marks n m)
one_more_marked blocks marks n block m room place is before k lt =
    let none : Block = record { levels = [] } in
    below_more (λ (k : ℕ). get_or (slice_set marks n m) k 0
    ≡ marks_of (get_or (slice_set blocks n block) k none).levels) n
    (λ j hj. get_or-set_other marks n j m 0 (omega (arith, hj)) ∙ before j hj
    ∙ ap (λ (b : Block). marks_of b.levels) (sym (get_or-set_other blocks n j block none (omega (arith, hj)))))
    (get_or-set_same marks n m 0 place ∙ is
    ∙ ap (λ (b : Block). marks_of b.levels) (sym (get_or-set_same blocks n block none room)))
    k lt
