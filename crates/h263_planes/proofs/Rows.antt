-- The samples of a picture in which a square was written, row by row.
use Rattle.std.proofs.Common.{◌≡◌, ℕ, zero, suc, ◌+◌, ◌*◌, ◌-◌, ◌<◌, ◌≤◌, List, length, get_or, slice_range, Bool, true, false, cond, ◌&&◌, nat_eq, nat_le, nat_lt, refl, ap, subst, ◌∙◌, arith, length-take, length-drop, get_or-take, get_or-drop, drop}
use Rattle.std.proofs.lemmas.Bool.Decides.{nat_tests}
use Rattle.std.proofs.lemmas.Simd.{put_chunk_is}
use Rattle.std.proofs.Math.Nat.{mul-le-mul_left}
use lib.Lanes.{chunk, put_chunk}
use lib.Seq.{sets, length-sets}
use Rattle.h263_types.specs.declared.format.Format.{Format}
use Rattle.h263_types.specs.Sizes.{size_of_picture}
use Rattle.h263_planes.specs.declared.Plane.{Plane}
use Rattle.h263_planes.specs.Layout.{picture_of, offset_of, width_in, height_in}
use Rattle.h263_planes.specs.Rows.{sets_rows}
use Rattle.h263_planes.specs.Samples.{sample_at, in_block, in_run, same_plane}
use Rattle.h263_planes.proofs.Pictures.{put_mid_sets, put_row, run_samples}

-- a store of all lanes is a write of one element after the other
pub stored : (n at : ℕ) (row bytes : List ℕ) → length row ≡ n → at + n ≤ length bytes → chunk 0 n row ≡ row →
    put_chunk at bytes (chunk 0 n row) ≡ sets bytes at row
stored n at row bytes long room whole =
    ap (λ (l : List ℕ). put_chunk at bytes l) whole ∙ put_chunk_is at bytes row (omega arith)
    ∙ put_mid_sets at row bytes (omega arith)

pub rows_long : (width n stride : ℕ) (samples : List ℕ) (at k : ℕ) (bytes : List ℕ)
    → length (sets_rows width n stride samples at k bytes) ≡ length bytes
unfolding sets_rows
rows_long width n stride samples at zero bytes = refl
rows_long width n stride samples at (suc k) bytes = length-sets (sets_rows width n stride samples at k bytes)
    (at + width * k) (slice_range samples (stride * k) (stride * k + n)) ∙ rows_long width n stride samples at k bytes

pub no_rows : (width n stride : ℕ) (samples : List ℕ) (at : ℕ) (bytes : List ℕ)
    → bytes ≡ sets_rows width n stride samples at 0 bytes
unfolding sets_rows
no_rows width n stride samples at bytes = refl

pub one_more : (width n stride : ℕ) (samples : List ℕ) (at k : ℕ) (bytes before now : List ℕ)
    → before ≡ sets_rows width n stride samples at k bytes →
    now ≡ sets before (at + width * k) (slice_range samples (stride * k) (stride * k + n))
    → now ≡ sets_rows width n stride samples at (k + 1) bytes
unfolding sets_rows
one_more width n stride samples at k bytes before now stood put =
    let next : suc k ≡ k + 1 = omega arith in
    put ∙ ap (λ (l : List ℕ). sets l (at + width * k) (slice_range samples (stride * k) (stride * k + n))) stood
    ∙ ap (λ (m : ℕ). sets_rows width n stride samples at m bytes) next

-- the same by the places to which and from which the row goes
pub one_more_at : (width n stride : ℕ) (samples : List ℕ) (at k to from : ℕ) (bytes before now : List ℕ)
    → to ≡ at + width * k → from ≡ stride * k →
    before ≡ sets_rows width n stride samples at k bytes →
    now ≡ sets before to (slice_range samples from (from + n)) → now ≡ sets_rows width n stride samples at (k + 1) bytes
one_more_at width n stride samples at k to from bytes before now et ef stood put =
    one_more width n stride samples at k bytes before now stood
    (put ∙ ap (λ (m : ℕ). sets before m (slice_range samples from (from + n))) et
    ∙ ap (λ (m : ℕ). sets before (at + width * k) (slice_range samples m (m + n))) ef)

row_long : (samples : List ℕ) (n a : ℕ) → a + n ≤ length samples → length (slice_range samples a (a + n)) ≡ n
row_long samples n a h = simp (length-take, length-drop) (omega arith)

-- the samples of a square reach as far as its last row
pub square_long : (n : ℕ) (l : ℕ) → l ≡ n * n → n * (n - 1) + n ≤ l
square_long zero l e = omega (arith, e)
square_long (suc k) l e =
    let less : suc k - 1 ≡ k = omega arith in
    let rows : suc k * (suc k - 1) ≡ suc k * k = ap (λ (m : ℕ). suc k * m) less in
    omega (arith, e, rows)

none_yet : (s : Bool) (x y w i j a b : ℕ)
    → b ≡ cond (s && ((nat_le y j && nat_lt j (y + 0)) && (nat_le x i && nat_lt i (x + w)))) a b
none_yet true x y w i j a b = grind (arith, nat_tests)
none_yet false x y w i j a b = refl

inside_rows : (x y w k i j now blk old before run : ℕ) →
    now ≡ cond (nat_eq j (y + k) && (nat_le x i && nat_lt i (x + w))) run before →
    before ≡ cond ((nat_le y j && nat_lt j (y + k)) && (nat_le x i && nat_lt i (x + w))) blk old →
    (j ≡ y + k → x ≤ i → i < x + w → run ≡ blk) →
    now ≡ cond ((nat_le y j && nat_lt j (y + suc k)) && (nat_le x i && nat_lt i (x + w))) blk old
inside_rows x y w k i j now blk old before run h1 h2 h3 = grind (arith, nat_tests)

-- one more row of a block of w columns
more_rows : (s : Bool) (x y w k i j now blk old before run : ℕ) →
    now ≡ cond (s && (nat_eq j (y + k) && (nat_le x i && nat_lt i (x + w)))) run before →
    before ≡ cond (s && ((nat_le y j && nat_lt j (y + k)) && (nat_le x i && nat_lt i (x + w)))) blk old →
    (j ≡ y + k → x ≤ i → i < x + w → run ≡ blk) →
    now ≡ cond (s && ((nat_le y j && nat_lt j (y + suc k)) && (nat_le x i && nat_lt i (x + w)))) blk old
more_rows true x y w k i j now blk old before run h1 h2 h3 = inside_rows x y w k i j now blk old before run h1 h2 h3
more_rows false x y w k i j now blk old before run h1 h2 h3 = h1 ∙ h2

-- a sample of row k
in_row : (samples : List ℕ) (n stride x y k i j : ℕ) → j ≡ y + k → x ≤ i → i < x + n →
    get_or (slice_range samples (stride * k) (stride * k + n)) (i - x) 0 ≡ get_or samples (stride * (j - y) + (i - x)) 0
in_row samples n stride x y k i j hj hx hi =
    let e : k ≡ j - y = omega arith in
    get_or-take (stride * k + n - stride * k) (drop (stride * k) samples) (i - x) 0 (omega arith)
    ∙ get_or-drop (stride * k) samples (i - x) 0
    ∙ ap (λ (m : ℕ). get_or samples (stride * m + (i - x)) 0) e

place_of_row : (offset width x y k at : ℕ) → at ≡ offset + width * y + x → at + width * k ≡ offset + width * (y + k) + x
place_of_row offset width x y k at e = omega (arith, e)

-- each sample of a picture in which the first rows of a square were written
pub square_samples : (f : Format) (plane other : Plane) (samples : List ℕ) (n stride x y at i j : ℕ) (bytes : List ℕ)
    → length bytes ≡ size_of_picture f →
    at ≡ offset_of f plane + width_in f plane * y + x → x + n ≤ width_in f plane → i + 1 ≤ width_in f other →
    (count : ℕ) → (count ≤ n) → stride * (n - 1) + n ≤ length samples → y + (n - 1) < height_in f plane →
    sample_at (picture_of f (sets_rows (width_in f plane) n stride samples at count bytes)) other i j
    ≡ cond (in_block plane x y n count other i j) (get_or samples (stride * (j - y) + (i - x)) 0)
    (sample_at (picture_of f bytes) other i j)
unfolding sets_rows
square_samples f plane other samples n stride x y at i j bytes whole place across column zero some all down =
    none_yet (same_plane plane other) x y n i j _ _
square_samples f plane other samples n stride x y at i j bytes whole place across column (suc k) some all down =
    let before = sets_rows (width_in f plane) n stride samples at k bytes in
    let run = slice_range samples (stride * k) (stride * k + n) in
    let last : k ≤ n - 1 = omega arith in
    let upto : stride * k ≤ stride * (n - 1) = mul-le-mul_left stride last in
    let long : length run ≡ n = row_long samples n (stride * k) (omega (arith, upto)) in
    let wide : x + length run ≤ width_in f plane = omega arith in
    let below : y + k < height_in f plane = omega arith in
    let put = put_row f plane run before (at + width_in f plane * k) x (y + k)
    (place_of_row (offset_of f plane) (width_in f plane) x y k at place) wide below in
    let now = run_samples f before _ plane other run x (y + k) i j
    (rows_long (width_in f plane) n stride samples at k bytes ∙ whole) wide below column put in
    let now_n = subst (λ (m : ℕ). sample_at (picture_of f (sets before (at + width_in f plane * k) run)) other i j
    ≡ cond (in_run plane x (y + k) m other i j) (get_or run (i - x) 0) (sample_at (picture_of f before) other i j))
    long now in
    more_rows (same_plane plane other) x y n k i j _ _ _ _ _ now_n
    (square_samples f plane other samples n stride x y at i j bytes whole place across column k (omega arith) all down)
    (λ here from to. in_row samples n stride x y k i j here from to)
