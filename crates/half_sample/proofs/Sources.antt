-- Rows that are read in sixteen lanes: what each lane holds, and that a block of lanes is the predicted one.
use Rattle.std.proofs.Common.{◌≡◌, ℕ, zero, suc, ◌+◌, ◌*◌, ◌-◌, ◌<◌, ◌≤◌, List, [], ◌∷◌, ◌++◌, length, get_or, replicate, Bool, true, false, cond, nat_le, refl, ap, sym, subst, ◌∙◌, arith}
use Rattle.std.proofs.lemmas.Bool.{false≢true}
use Rattle.std.proofs.lemmas.Bool.Decides.{nat_tests}
use Rattle.std.proofs.lemmas.List.{get_or_append_left, get_or-append_right, length-append}
use Rattle.std.proofs.lemmas.Simd.{get_or-chunk, pick_l_whole, pick_l-range_with_len}
use Rattle.std.proofs.Math.Nat.{mul-le-mul_left}
use Rattle.std.specs.Int.RustNames.{bit_xor}
use Rattle.std.specs.Int.Bits.{xor_self}
use Rattle.std.specs.List.{range_with_len}
use lib.Lanes.{zip2, pick_l}
use Rattle.h263_planes.specs.Picture.{Picture}
use Rattle.h263_planes.specs.Samples.{sample_at}
use Rattle.h263_planes.specs.declared.Plane.{Plane}
use Rattle.half_sample.specs.Averages.{average, average4}
use Rattle.half_sample.specs.Prediction.{interpolated}
use Rattle.half_sample.specs.Sources.{columns_beside, lane_between, lane_of, HasRows, Reaches}
use Rattle.half_sample.specs.declared.place.Half.{Half}
use Rattle.half_sample.specs.declared.source.Source.{Source}

-- ---- vectors

-- eight lanes after eight others
pub second_lanes : (a b : List ℕ) (i : ℕ) → length a ≡ 8 → length b ≡ 8 → i < 8
    → get_or (pick_l 0 (a ++ b) (range_with_len 0 16)) (8 + i) 0 ≡ get_or b i 0
second_lanes a b i ea eb hi =
    let back : 8 + i - 8 ≡ i = omega arith in
    ap (λ (l : List ℕ). get_or l (8 + i) 0) (pick_l_whole 0 (a ++ b) 16 (omega (arith, length-append a b, ea, eb)))
    ∙ get_or-append_right a b 8 (8 + i) 0 ea (omega arith)
    ∙ ap (λ (k : ℕ). get_or b k 0) back

-- eight lanes of sixteen
pub eight_lanes : (v : List ℕ) (a i : ℕ) → length v ≡ 16 → a + 8 ≤ 16 → i < 8
    → get_or (pick_l 0 (v ++ v) (range_with_len a 8)) i 0 ≡ get_or v (a + i) 0
eight_lanes v a i long le hi =
    ap (λ (l : List ℕ). get_or l i 0) (pick_l-range_with_len 0 (v ++ v) a 8 (omega (arith, length-append v v, long)))
    ∙ get_or-chunk a 8 (v ++ v) i 0 hi
    ∙ get_or_append_left v v 0 (a + i) (omega (arith, long))

-- the averages of samples and themselves
pub own_means : (xs : List ℕ) → xs ≡ zip2 (average 0) xs xs
own_means [] = refl
own_means (x ∷ xs) = let here : x ≡ average 0 x x = omega arith in cc (here, own_means xs)

-- in which no sum is odd
pub none_odd : (n : ℕ) (xs : List ℕ) → length xs ≡ n → replicate n 0 ≡ zip2 bit_xor xs xs
none_odd zero [] e = refl
none_odd zero (x ∷ xs) e = absurd (omega arith)
none_odd (suc n) [] e = absurd (omega arith)
none_odd (suc n) (x ∷ xs) e = cc (xor_self x, none_odd n xs (omega arith))

-- no column further
pub not_further : (right : Bool) (at : ℕ) → right ≡ false → at ≡ at + cond right 1 0
not_further right at e = let same : at ≡ at + 0 = omega arith in same ∙ ap (λ (b : Bool). at + cond b 1 0) (sym e)

pub one_further : (right : Bool) (at : ℕ) → right ≡ true → at + 1 ≡ at + cond right 1 0
one_further right at e = ap (λ (b : Bool). at + cond b 1 0) (sym e)

-- ---- places

nearer : (s : Source) (a b n : ℕ) → Reaches s a n → b ≤ a → Reaches s b n
nearer s a b n h le = record { rows = omega (arith, h.rows); others = omega (arith, h.others) }

row_below : (hy : Bool) (w j n : ℕ) → j < n → w * j + cond hy w 0 ≤ w * (n - 1 + cond hy 1 0)
row_below true w j n h = let more : w * (j + 1) ≤ w * (n - 1 + 1) = mul-le-mul_left w (omega arith) in
    omega (arith, more)
row_below false w j n h = let more : w * j ≤ w * (n - 1 + 0) = mul-le-mul_left w (omega arith) in omega (arith, more)

-- what is read at row j
pub row_reach : (s : Source) (half : Half) (n j at : ℕ) → HasRows s half n → j < n → at ≡ s.width * j →
    Reaches s (at + cond half.y s.width 0) (columns_beside s.colours + cond half.x 1 0)
row_reach s half n j at h below e =
    subst (λ (k : ℕ). Reaches s (at + cond half.y s.width 0) (k + cond half.x 1 0)) h.columns
    (subst (λ (k : ℕ). Reaches s (k + cond half.y s.width 0) (n + cond half.x 1 0)) (sym e)
    (nearer s _ _ (n + cond half.x 1 0) h.reach (row_below half.y s.width j n below)))

-- and at the first row
pub first_reach : (s : Source) (half : Half) (n : ℕ) → HasRows s half n
    → Reaches s 0 (columns_beside s.colours + cond half.x 1 0)
first_reach s half n h =
    subst (λ (k : ℕ). Reaches s 0 (k + cond half.x 1 0)) h.columns (nearer s _ _ (n + cond half.x 1 0) h.reach
    (omega arith))

-- ---- samples

twice : (r a b : ℕ) → r ≤ 1 → a ≡ b → average r a b ≡ b
twice r a b hr e = omega (arith, hr, e)

twice_below : (r a b c d s t : ℕ) → r ≤ 1 → a ≡ s → b ≡ s → c ≡ t → d ≡ t → average4 r a b c d ≡ average r s t
twice_below r a b c d s t hr ea eb ec ed = omega (arith, hr, ea, eb, ec, ed)

-- four samples, of which those further right or down are others only where the tests say so
pub mixed_is : (p : Picture) (plane : Plane) (hx hy : Bool) (r x y a b c d : ℕ) → r ≤ 1 →
    a ≡ sample_at p plane x y → b ≡ sample_at p plane (x + cond hx 1 0) y →
    (hy ≡ true → c ≡ sample_at p plane x (y + 1)) → (hy ≡ true → d ≡ sample_at p plane (x + cond hx 1 0) (y + 1)) →
    cond hy (average4 r a b c d) (average r a b) ≡ interpolated p plane hx hy r x y
mixed_is p plane false false r x y a b c d hr ea eb ec ed =
    let same : x + 0 ≡ x = omega arith in
    twice r a b hr (ea ∙ sym (eb ∙ ap (λ (k : ℕ). sample_at p plane k y) same)) ∙ eb
    ∙ ap (λ (k : ℕ). sample_at p plane k y) same
mixed_is p plane true false r x y a b c d hr ea eb ec ed = cc (ea, eb)
mixed_is p plane false true r x y a b c d hr ea eb ec ed =
    let same : x + 0 ≡ x = omega arith in
    twice_below r a b c d (sample_at p plane x y) (sample_at p plane x (y + 1)) hr ea (eb
    ∙ ap (λ (k : ℕ). sample_at p plane k y) same) (ec refl)
    (ed refl ∙ ap (λ (k : ℕ). sample_at p plane k (y + 1)) same)
mixed_is p plane true true r x y a b c d hr ea eb ec ed = cc (ea, eb, ec refl, ed refl)

one_more_row : (hy : Bool) (n j : ℕ) → hy ≡ true → j < n → j + 1 < n + cond hy 1 0
one_more_row true n j e h = omega arith
one_more_row false n j e h = absurd (false≢true e)

one_more_column : (hx : Bool) (n i : ℕ) → i < n → i + cond hx 1 0 < n + cond hx 1 0
one_more_column hx n i h = omega arith

-- what is predicted in a lane that holds column i of rows of a plane
pub between_is : (p : Picture) (plane : Plane) (s : Source) (half : Half) (r x y n lane i j : ℕ) (rows : List ℕ)
    → r ≤ 1 →
    ((at : ℕ) → lane_of s at lane ≡ get_or rows (at + i) 0) →
    ((k l : ℕ) → k < n + cond half.x 1 0 → l < n + cond half.y 1 0 → get_or rows (s.width * l + k) 0
    ≡ sample_at p plane (x + k) (y + l)) →
    i < n → j < n → lane_between s half r (s.width * j) lane ≡ interpolated p plane half.x half.y r (x + i) (y + j)
between_is p plane s half r x y n lane i j rows hr is are hi hj =
    let w : ℕ = s.width in
    let c : ℕ = cond half.x 1 0 in
    let row : w * j + w ≡ w * (j + 1) = omega arith in
    let down : y + (j + 1) ≡ y + j + 1 = omega arith in
    let right : x + (i + c) ≡ x + i + c = omega arith in
    let across : w * j + c + i ≡ w * j + (i + c) = omega arith in
    let below : w * j + w + i ≡ w * (j + 1) + i = omega arith in
    let both : w * j + w + c + i ≡ w * (j + 1) + (i + c) = omega arith in
    mixed_is p plane half.x half.y r (x + i) (y + j) _ _ _ _ hr
    (is (w * j) ∙ are i j (omega arith) (omega arith))
    (is (w * j + c) ∙ ap (λ (k : ℕ). get_or rows k 0) across
    ∙ are (i + c) j (one_more_column half.x n i hi) (omega arith)
    ∙ ap (λ (k : ℕ). sample_at p plane k (y + j)) right)
    (λ e. is (w * j + w) ∙ ap (λ (k : ℕ). get_or rows k 0) below
    ∙ are i (j + 1) (omega arith) (one_more_row half.y n j e hj) ∙ ap (sample_at p plane (x + i)) down)
    (λ e. is (w * j + w + c) ∙ ap (λ (k : ℕ). get_or rows k 0) both
    ∙ are (i + c) (j + 1) (one_more_column half.x n i hi) (one_more_row half.y n j e hj)
    ∙ ap (λ (k : ℕ). sample_at p plane k (y + (j + 1))) right ∙ ap (sample_at p plane (x + i + c)) down)

-- a lane by another place and another number of it
pub lane_at : (s : Source) (half : Half) (r a b i l : ℕ) → a ≡ b → l ≡ i → lane_between s half r a i
    ≡ lane_between s half r b l
lane_at s half r a b i l ea el = ap (λ (k : ℕ). lane_between s half r k i) ea
    ∙ ap (λ (k : ℕ). lane_between s half r b k) (sym el)

-- the lanes of one list
pub only_lane : (at i : ℕ) (rows : List ℕ) → get_or rows (at + (0 + i)) 0 ≡ get_or rows (at + i) 0
only_lane at i rows = let e : at + (0 + i) ≡ at + i = omega arith in ap (λ (k : ℕ). get_or rows k 0) e

-- and of two
pub first_lane : (at i : ℕ) (rows others : List ℕ) → i < 8
    → cond (nat_le 8 (0 + i)) (get_or others (at + (0 + i - 8)) 0) (get_or rows (at + (0 + i)) 0)
    ≡ get_or rows (at + i) 0
first_lane at i rows others h = let e = only_lane at i rows in grind (arith, nat_tests)

pub second_lane : (at i : ℕ) (rows others : List ℕ) → i < 8
    → cond (nat_le 8 (8 + i)) (get_or others (at + (8 + i - 8)) 0) (get_or rows (at + (8 + i)) 0)
    ≡ get_or others (at + i) 0
second_lane at i rows others h =
    let e : at + (8 + i - 8) ≡ at + i = omega arith in
    let same = ap (λ (k : ℕ). get_or others k 0) e in
    grind (arith, nat_tests)
