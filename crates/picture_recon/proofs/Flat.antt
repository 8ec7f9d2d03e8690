-- A block with its first level alone: the inverse transform gives the same number everywhere, INTRADC in an
-- intra block.
use Rattle.std.proofs.Common.{◌≡◌, ℕ, ◌+◌, ◌*◌, ◌<◌, ◌≤◌, zero, suc, ℤ, pos, ◌+ℤ◌, ◌*ℤ◌, List, get_or, arith, refl, ap, sym, ◌∙◌, lit<}
use Rattle.std.proofs.lemmas.Int.{ints}
use Rattle.std.proofs.lemmas.List.{get_or-replicate}
use Rattle.std.proofs.lemmas.List.FromFn.{get_or-map-range_with_len}
use Rattle.idct8.specs.Sums.{sum_below}
use Rattle.idct8.specs.Basis.{basis}
use Rattle.idct8.specs.Transform.{entry, inverse_at, rounded}
use Rattle.h263_types.specs.declared.blocks.Block.{Block}
use Rattle.h263_types.specs.Blocks.{IsDc, level_at}
use Rattle.quantiser.specs.Levels.{value_of}
use Rattle.quantiser.specs.Zigzag.{zigzag_place_of}
use Rattle.picture_recon.specs.Samples.{inter_value, inter_values, intra_value, intra_values, limited}
use Rattle.picture_recon.proofs.Kept.{other_value}
use Rattle.picture_recon.proofs.Walk.{later, within}
use Rattle.quantiser.specs.Zigzag.{IsOneOrder}

-- a sum whose terms are 0 but for the first
first_alone : (n : ℕ) (f : ℕ → ℤ) → ((k : ℕ) → 1 ≤ k → k < suc n → f k ≡ pos 0) → sum_below (suc n) f ≡ f 0
unfolding sum_below
first_alone zero f h = omega (arith, ints)
first_alone (suc n) f h =
    let before : sum_below (suc n) f ≡ f 0 = first_alone n f (λ k some lt. h k some (omega arith)) in
    let last : f (suc n) ≡ pos 0 = h (suc n) (omega arith) (omega arith) in
    let step : sum_below (suc n) f +ℤ f (suc n) ≡ f 0 = omega (arith, ints) in
    step

none_at_all : (n : ℕ) (f : ℕ → ℤ) → ((k : ℕ) → k < n → f k ≡ pos 0) → sum_below n f ≡ pos 0
unfolding sum_below
none_at_all zero f h = refl
none_at_all (suc n) f h =
    let before : sum_below n f ≡ pos 0 = none_at_all n f (λ k lt. h k (omega arith)) in
    let last : f n ≡ pos 0 = h n (omega arith) in
    omega (arith, ints)

times_zero : (m z : ℤ) → z ≡ pos 0 → m *ℤ z ≡ pos 0
times_zero m z h = ap (λ (k : ℤ). m *ℤ k) h ∙ omega (arith, ints)

first_basis : (x : ℕ) → x < 8 → basis 0 x ≡ pos 2048
unfolding basis
first_basis x h = get_or-replicate 8 x (pos 2048) (pos 0) h

inverse_of_first : (values : List ℤ) → ((at : ℕ) → 1 ≤ at → at < 64 → get_or values at (pos 0) ≡ pos 0) → (y x : ℕ)
    → y < 8 → x < 8 →
    inverse_at values y x ≡ rounded (pos 2048 *ℤ pos 2048 *ℤ get_or values 0 (pos 0))
inverse_of_first values h y x hy hx =
    let terms = λ (u v : ℕ). basis u x *ℤ basis v y *ℤ entry values v u in
    let zeros = λ (u v : ℕ) (some : 1 ≤ 8 * v + u) (less : 8 * v + u < 64). times_zero (basis u x *ℤ basis v y)
    (entry values v u) (h (8 * v + u) some less) in
    let outer : sum_below 8 (λ u. sum_below 8 (terms u)) ≡ sum_below 8 (terms 0) =
    first_alone 7 (λ u. sum_below 8 (terms u)) (λ u some less. none_at_all 8 (terms u)
    (λ v lv. zeros u v (omega arith) (omega arith))) in
    let inner : sum_below 8 (terms 0)
    ≡ terms 0 0 = first_alone 7 (terms 0) (λ v some less. zeros 0 v (omega arith) (omega arith)) in
    ap rounded (outer ∙ inner
    ∙ ap (λ (k : ℤ). k *ℤ basis 0 y *ℤ get_or values 0 (pos 0)) (first_basis x hx)
    ∙ ap (λ (k : ℤ). pos 2048 *ℤ k *ℤ get_or values 0 (pos 0)) (first_basis y hy))

-- the first value of an intra block is 8 times INTRADC
pub first_value : (quant : ℕ) (b : Block) → get_or (intra_values quant b) 0 (pos 0) ≡ pos 8 *ℤ level_at b 0
unfolding intra_values
first_value quant b = get_or-map-range_with_len (intra_value quant b) 0 64 0 0 (pos 0) (lit< tt) refl

-- the others are the values of the levels
pub other_values : (quant : ℕ) (b : Block) (at : ℕ) → 1 ≤ at → at < 64 → get_or (intra_values quant b) at (pos 0)
    ≡ inter_value quant b at
unfolding intra_values
other_values quant b at some less = get_or-map-range_with_len (intra_value quant b) 0 64 at at (pos 0) less
    (omega arith) ∙ sym (other_value quant b at some)

limited_dc : (n : ℕ) (z : ℤ) → IsDc z → pos n ≡ z → n ≡ limited (pos n)
limited_dc n z h e = omega (arith, ints)

-- a sample of INTRADC itself, to which nothing is added
pub flat : (dc : ℤ) → IsDc dc → (n : ℕ) → pos n ≡ dc → (number : ℤ) → number ≡ pos 0 → n ≡ limited (dc +ℤ number)
flat dc range n same number none =
    let sum : pos n ≡ dc +ℤ number = omega (arith, ints, same, none) in
    limited_dc n dc range same ∙ ap limited sum

-- the values of a block of an inter macroblock that has its first level alone
no_values_inter : (one : IsOneOrder) (quant : ℕ) (b : Block) → ((k : ℕ) → 1 ≤ k → k < 64 → level_at b k ≡ pos 0) →
    (at : ℕ) → 1 ≤ at → at < 64 → get_or (inter_values quant b) at (pos 0) ≡ pos 0
unfolding inter_values
no_values_inter one quant b none at some less =
    get_or-map-range_with_len (inter_value quant b) 0 64 at at (pos 0) less (omega arith)
    ∙ ap (value_of quant) (none (zigzag_place_of at) (later (zigzag_place_of at) at (one.from_block at less) some)
    (within (zigzag_place_of at) at (one.from_block at less) some))

first_value_inter : (quant : ℕ) (b : Block) → get_or (inter_values quant b) 0 (pos 0) ≡ value_of quant (level_at b 0)
unfolding inter_values zigzag_place_of
first_value_inter quant b = get_or-map-range_with_len (inter_value quant b) 0 64 0 0 (pos 0) (lit< tt) refl

pub number_of_first : (one : IsOneOrder) (quant : ℕ) (b : Block) → ((k : ℕ) → 1 ≤ k → k < 64 → level_at b k ≡ pos 0) →
    (y x : ℕ) → y < 8 → x < 8 → inverse_at (inter_values quant b) y x
    ≡ rounded (pos 2048 *ℤ pos 2048 *ℤ value_of quant (level_at b 0))
number_of_first one quant b none y x hy hx =
    inverse_of_first (inter_values quant b) (no_values_inter one quant b none) y x hy hx
    ∙ ap (λ (k : ℤ). rounded (pos 2048 *ℤ pos 2048 *ℤ k)) (first_value_inter quant b)

-- a block without levels has values of 0
pub no_levels : (one : IsOneOrder) (quant : ℕ) (b : Block) → ((k : ℕ) → k < 64 → level_at b k ≡ pos 0) →
    (at : ℕ) → at < 64 → get_or (inter_values quant b) at (pos 0) ≡ pos 0
no_levels one quant b none zero less = first_value_inter quant b ∙ ap (value_of quant) (none 0 less)
no_levels one quant b none (suc at) less = no_values_inter one quant b (λ k some below. none k below) (suc at)
    (omega arith) less
