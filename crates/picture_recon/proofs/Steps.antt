-- The steps of the loops that fill a block, a macroblock and a slice.
use Rattle.std.proofs.Common.{◌≡◌, ◌≢◌, ℕ, zero, suc, ◌+◌, ◌*◌, ◌%◌, ◌<◌, ◌≤◌, ℤ, pos, List, length, get_or, slice_set, map, Bool, true, cond, ◌&&◌, nat_eq, nat_lt, ap, sym, ◌∙◌, arith, lit<, length-set, get_or-set_same, get_or-set_other}
use Rattle.std.specs.List.{range_with_len}
use Rattle.std.proofs.lemmas.List.FromFn.{fill_by_all}
use Rattle.std.proofs.lemmas.Bool.Decides.{nat_tests}
use Rattle.h263_planes.specs.declared.Plane.{Plane}
use Rattle.h263_planes.specs.declared.Plane.TheVariants.{Y, Cb, Cr}
use Rattle.h263_types.specs.declared.format.Format.{Format}
use Rattle.h263_planes.specs.Blocks.{block_of, mb_of}
use Rattle.h263_planes.specs.Picture.{Picture}
use Rattle.h263_planes.specs.Samples.{in_block, sample_at, same_plane}
use Rattle.picture_recon.specs.Coded.{SetsBlock, SetsBlocks}
use Rattle.picture_recon.proofs.InSquare.{is_in, other_test}

-- a block whose first value is put in last
with_first : (f : ℕ → ℤ) (xs : List ℤ) (v : ℤ) → length xs ≡ 64 → v ≡ f 0 →
    ((k : ℕ) → 1 ≤ k → k < 64 → get_or xs k (pos 0) ≡ f k) → (k : ℕ) → k < 64 → get_or (slice_set xs 0 v) k (pos 0)
    ≡ f k
with_first f xs v long first others zero h = get_or-set_same xs 0 v (pos 0) (omega arith) ∙ first
with_first f xs v long first others (suc k) h =
    let other : suc k ≢ 0 = omega arith in
    get_or-set_other xs 0 (suc k) v (pos 0) other ∙ others (suc k) (omega arith) h

-- 64 numbers of which the first one is put, and the others are there
pub first_put : (f : ℕ → ℤ) (xs : List ℤ) (v : ℤ) → length xs ≡ 64 → v ≡ f 0 →
    ((k : ℕ) → 1 ≤ k → k < 64 → get_or xs k (pos 0) ≡ f k) → slice_set xs 0 v ≡ map f (range_with_len 0 64)
first_put f xs v long first others =
    fill_by_all f (slice_set xs 0 v) 64 (pos 0) (length-set xs 0 v ∙ long) (with_first f xs v long first others)

-- a sample by its plane, column and row
pub same_sample : (p : Picture) (plane other : Plane) (i j x y : ℕ) → same_plane plane other ≡ true → i ≡ x → j ≡ y →
    sample_at p plane i j ≡ sample_at p other x y
same_sample p Y Y i j x y s ei ej = cc
same_sample p Cb Cb i j x y s ei ej = cc
same_sample p Cr Cr i j x y s ei ej = cc
same_sample p Y Cb i j x y s ei ej = cc
same_sample p Y Cr i j x y s ei ej = cc
same_sample p Cb Y i j x y s ei ej = cc
same_sample p Cb Cr i j x y s ei ej = cc
same_sample p Cr Y i j x y s ei ej = cc
same_sample p Cr Cb i j x y s ei ej = cc

not_yet : (m at bl b before val old : ℕ) → before ≡ cond (nat_eq m at && nat_lt bl b) val old → bl ≡ b → before ≡ old
not_yet m at bl b before val old h e = grind (arith, nat_tests)

one_more : (m at bl b now old before : ℕ) (value : ℕ → ℕ → ℕ) →
    now ≡ cond (nat_eq m at && nat_eq bl b) (value b before) before
    → before ≡ cond (nat_eq m at && nat_lt bl b) (value bl old) old →
    now ≡ cond (nat_eq m at && nat_lt bl (b + 1)) (value bl old) old
one_more m at bl b now old before value h1 h2 =
    let same : bl ≡ b → value b before
    ≡ value bl old = λ e. ap (value b) (not_yet m at bl b before (value bl old) old h2 e)
    ∙ ap (λ (k : ℕ). value k old) (sym e) in
    grind (arith, nat_tests)

-- one more block of a macroblock
pub more_blocks : (f : Format) (at b : ℕ) (value : ℕ → ℕ → ℕ → ℕ → ℕ) (old p q : Picture) →
    SetsBlocks f at b value old p → SetsBlock f at b (value b) p q → SetsBlocks f at (b + 1) value old q
more_blocks f at b value old p q before now plane x y h =
    one_more (mb_of f plane x y) at (block_of plane x y) b (sample_at q plane x y) (sample_at old plane x y)
    (sample_at p plane x y)
    (λ (k n : ℕ). value k n (y % 8) (x % 8)) (now plane x y h) (before plane x y h)

-- a block whose samples are these numbers
pub with_samples : (f : Format) (at b : ℕ) (samples : List ℕ) (value : ℕ → ℕ → ℕ) (p q : Picture)
    → ((y x : ℕ) → y < 8 → x < 8 → get_or samples (8 * y + x) 0 ≡ value y x)
    → SetsBlock f at b (λ old y x. get_or samples (8 * y + x) 0) p q → SetsBlock f at b (λ old y x. value y x) p q
with_samples f at b samples value p q same sets plane x y h =
    sets plane x y h
    ∙ ap (λ (n : ℕ). cond (nat_eq (mb_of f plane x y) at && nat_eq (block_of plane x y) b) n (sample_at p plane x y))
    (same (y % 8) (x % 8) (omega arith) (omega arith))

within_macroblock : (m at init predicted old : ℕ) → init ≡ cond (nat_eq m at) predicted old → m ≡ at → init ≡ predicted
within_macroblock m at init predicted old h e = grind (arith, nat_tests)

-- the samples of a macroblock, where all of them were predicted first
pub over_predicted : (m at now first predicted old : ℕ) (value : ℕ → ℕ) →
    now ≡ cond (nat_eq m at) (value first) first → first ≡ cond (nat_eq m at) predicted old
    → now ≡ cond (nat_eq m at) (value predicted) old
over_predicted m at now first predicted old value h1 h2 =
    let same : m ≡ at → value first ≡ value predicted = λ e. ap value (within_macroblock m at first predicted old h2 e)
    in
    grind (arith, nat_tests)

-- a block to which nothing is added
pub nothing_added : (m at bl b s : ℕ) (added : ℕ) → (m ≡ at → s ≡ added) → s ≡ cond (nat_eq m at && nat_eq bl b) added s
nothing_added m at bl b s added h = grind (arith, nat_tests)

-- a macroblock has six blocks
pub six_blocks : (plane : Plane) (x y : ℕ) → block_of plane x y < 6
six_blocks Y x y = omega arith
six_blocks Cb x y = lit< tt
six_blocks Cr x y = lit< tt

-- all blocks of a macroblock
pub all_blocks : (m at bl b now val old : ℕ) → bl < b → now ≡ cond (nat_eq m at && nat_lt bl b) val old
    → now ≡ cond (nat_eq m at) val old
all_blocks m at bl b now val old h e = grind (arith, nat_tests)

-- a block that is written over what stood there, sample by sample
pub block_put : (p q : Picture) (plane other : Plane) (left top x y : ℕ) (before samples : List ℕ) (value : ℕ → ℕ → ℕ
    → ℕ) (now : ℕ) (test : Bool) →
    p ≡ q → left % 8 ≡ 0 → top % 8 ≡ 0 →
    ((j i : ℕ) → j < 8 → i < 8 → get_or before (8 * j + i) 0 ≡ sample_at p plane (left + i) (top + j)) →
    ((j i : ℕ) → j < 8 → i < 8 → get_or samples (8 * j + i) 0 ≡ value (get_or before (8 * j + i) 0) j i) →
    now ≡ cond (in_block plane left top 8 8 other x y) (get_or samples (8 * (y % 8) + x % 8) 0)
    (sample_at q other x y) →
    in_block plane left top 8 8 other x y ≡ test →
    now ≡ cond test (value (sample_at q other x y) (y % 8) (x % 8)) (sample_at q other x y)
block_put p q plane other left top x y before samples value now test seen column row stood given put same =
    other_test (in_block plane left top 8 8 other x y) test now _ _ _ put same
    (λ t.
    let here = is_in (same_plane plane other) left top 8 x y t in
    let ex : left + x % 8 ≡ x = omega (arith, column, here.from, here.to) in
    let ey : top + y % 8 ≡ y = omega (arith, row, here.below, here.above) in
    given (y % 8) (x % 8) (omega arith) (omega arith)
    ∙ ap (λ (n : ℕ). value n (y % 8) (x % 8))
    (stood (y % 8) (x % 8) (omega arith) (omega arith)
    ∙ ap (λ (r : Picture). sample_at r plane (left + x % 8) (top + y % 8)) seen
    ∙ same_sample q plane other _ _ x y here.same ex ey))
