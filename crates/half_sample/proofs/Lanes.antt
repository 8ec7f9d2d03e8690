-- The averages, as the lanes compute them.
use Rattle.std.proofs.Common.{◌≡◌, ℕ, zero, suc, min, max, ◌+◌, ◌-◌, ◌/◌, ◌%◌, ◌^◌, ◌<◌, ◌≤◌, List, [], ◌∷◌, map, length, get_or, refl, sym, ◌∙◌, arith, w8, Fits, replicate, subst, take}
use Rattle.std.proofs.Math.Seq.{take-length}
use lib.Lanes.{zip2, Each1, chunk}
use Rattle.std.specs.Int.RustNames.{bit_or, bit_xor}
use Rattle.std.specs.Int.Bits.{bit_and, xor_add_and}
use Rattle.std.proofs.lemmas.Nat.{and_mask}
use Rattle.std.proofs.lemmas.Nat.Bits.{bit_at_lowest, bit_at_and, bit_at_or}
use Rattle.std.proofs.lemmas.List.{get_or-replicate, length-replicate}
use Rattle.std.proofs.lemmas.Simd.{chunk-fits, below_from_Fits, get_or-zip2, length-zip2, Each1-get_or}
use Rattle.half_sample.specs.Averages.{average, average4, excess_of}
use Rattle.half_sample.specs.Rows.{IsRowOfSamples}

-- ---- the lowest bits

low_and : (a b : ℕ) → bit_and a b % 2 ≡ min (a % 2) (b % 2)
low_and a b = sym (bit_at_lowest (bit_and a b)) ∙ bit_at_and a b 0 ∙ cc (bit_at_lowest a, bit_at_lowest b)

low_or : (a b : ℕ) → bit_or a b % 2 ≡ max (a % 2) (b % 2)
low_or a b = sym (bit_at_lowest (bit_or a b)) ∙ bit_at_or a b 0 ∙ cc (bit_at_lowest a, bit_at_lowest b)

low_xor : (a b : ℕ) → bit_xor a b % 2 ≡ (a + b) % 2
low_xor a b = omega (arith, xor_add_and a b)

-- ---- a lane

-- what the lanes of eight bits do
abbrev pub minus : ℕ → ℕ → ℕ
minus a b = (a + (2 ^ 8 - b)) % 2 ^ 8

-- The average of two that is rounded down: an odd sum was rounded up.
one_of_two : (r x y : ℕ) → r ≤ 1 → x < 256 → y < 256 → minus (average 0 x y) (bit_and (bit_xor x y) r) ≡ average r x y
one_of_two zero x y hr hx hy = let none : bit_and (bit_xor x y) 0 ≡ (bit_xor x y) % 1 = and_mask (bit_xor x y) 0 in
    omega (arith, none, hx, hy)
one_of_two (suc zero) x y hr hx hy = let odd : bit_and (bit_xor x y) 1 ≡ (bit_xor x y) % 2 = and_mask (bit_xor x y) 1 in
    omega (arith, odd, low_xor x y, hx, hy)
one_of_two (suc (suc r)) x y hr hx hy = absurd (omega (arith, hr))

-- Whether two quarters are too many (with the rounding bit), or only three: by the lowest bits of the sums.
pub excess_up : (u l t : ℕ) → bit_and (bit_and (bit_or u l) t) 1 ≡ excess_of 0 u l t
excess_up u l t =
    let low : bit_and (bit_and (bit_or u l) t) 1 ≡ bit_and (bit_or u l) t % 2 = and_mask (bit_and (bit_or u l) t) 1 in
    omega (arith, low, low_and (bit_or u l) t, low_or u l)

pub excess_down : (u l t : ℕ) → bit_and (bit_or (bit_and u l) t) 1 ≡ excess_of 1 u l t
excess_down u l t =
    let low : bit_and (bit_or (bit_and u l) t) 1 ≡ bit_or (bit_and u l) t % 2 = and_mask (bit_or (bit_and u l) t) 1 in
    omega (arith, low, low_or (bit_and u l) t, low_and u l)

-- The average of four by three averages of two, each rounded up. Say e = 1 where x + y is odd, f = 1 where u
-- + v is, and
-- t = 1 where the sum of their averages is. Then the average of the averages is (x + y + u + v + e + f + 2 t) / 4, a
-- whole number: roundings have added e + f + 2 t quarters. (x + y + u + v + 2 - r) / 4 is to have 2 - r
-- quarters at most,
-- so the average is too high by 1 where they are more.
one_of_four : (r x y u v : ℕ) → r ≤ 1 → x < 256 → y < 256 → u < 256 → v < 256 →
    minus (average 0 (average 0 x y) (average 0 u v)) (excess_of r (bit_xor x y) (bit_xor u v)
    (bit_xor (average 0 x y) (average 0 u v))) ≡ average4 r x y u v
one_of_four r x y u v hr hx hy hu hv =
    omega (arith, low_xor x y, low_xor u v, low_xor (average 0 x y) (average 0 u v), hr, hx, hy, hu, hv)

-- ---- all lanes

-- what the lanes of sixteen bits do
abbrev pub plus : ℕ → ℕ → ℕ
plus a b = (a + b) % 2 ^ 16

abbrev pub down : ℕ → ℕ → ℕ
down a b = a / 2 ^ b

abbrev pub wide : List ℕ → List ℕ
wide xs = map (λ (k : ℕ). k) xs

abbrev pub mean_l : ℕ → List ℕ → List ℕ → List ℕ
mean_l n xs ys = zip2 down (zip2 plus (zip2 plus (wide xs) (wide ys)) (replicate n 1)) (replicate n 1)

one_mean : (x y : ℕ) → x < 256 → y < 256 → down (plus (plus x y) 1) 1 ≡ average 0 x y
one_mean x y hx hy = omega (arith, hx, hy)

pub mean_fits : (n : ℕ) (xs ys : List ℕ) → Each1 (λ x. x < 256) xs → Each1 (λ x. x < 256) ys
    → Each1 (Fits w8) (mean_l n xs ys)
mean_fits zero [] ys hx hy = tt
mean_fits zero (x ∷ xs) [] hx hy = tt
mean_fits zero (x ∷ xs) (y ∷ ys) hx hy = tt
mean_fits (suc n) [] ys hx hy = tt
mean_fits (suc n) (x ∷ xs) [] hx hy = tt
mean_fits (suc n) (x ∷ xs) (y ∷ ys) hx hy = (record { fits = omega (arith, hx.0, hy.0) }, mean_fits n xs ys hx.1 hy.1)

pub mean_is : (n : ℕ) (xs ys : List ℕ) → length xs ≡ n → length ys ≡ n → Each1 (λ x. x < 256) xs
    → Each1 (λ x. x < 256) ys → wide (mean_l n xs ys) ≡ zip2 (average 0) xs ys
mean_is zero [] ys ex ey hx hy = refl
mean_is zero (x ∷ xs) ys ex ey hx hy = absurd (omega arith)
mean_is (suc n) [] ys ex ey hx hy = absurd (omega arith)
mean_is (suc n) (x ∷ xs) [] ex ey hx hy = absurd (omega arith)
mean_is (suc n) (x ∷ xs) (y ∷ ys) ex ey hx hy = cc (
  one_mean x y hx.0 hy.0,
  mean_is n xs ys (omega arith) (omega arith) hx.1 hy.1,
)

pub mean_small : (xs ys : List ℕ) → Each1 (λ x. x < 256) xs → Each1 (λ x. x < 256) ys
    → Each1 (λ x. x < 256) (zip2 (average 0) xs ys)
mean_small [] ys hx hy = tt
mean_small (x ∷ xs) [] hx hy = tt
mean_small (x ∷ xs) (y ∷ ys) hx hy = (omega (arith, hx.0, hy.0), mean_small xs ys hx.1 hy.1)

abbrev pub two_l : ℕ → ℕ → List ℕ → List ℕ → List ℕ
two_l n r xs ys = zip2 minus (zip2 (average 0) xs ys) (zip2 bit_and (zip2 bit_xor xs ys) (replicate n r))

pub two_at : (n r : ℕ) (xs ys : List ℕ) (i : ℕ) → r ≤ 1 → length xs ≡ n → length ys ≡ n → Each1 (λ x. x < 256) xs
    → Each1 (λ x. x < 256) ys → i < n →
    get_or (two_l n r xs ys) i 0 ≡ average r (get_or xs i 0) (get_or ys i 0)
two_at zero r xs ys i hr ex ey hx hy hi = absurd (omega arith)
two_at (suc n) r [] ys i hr ex ey hx hy hi = absurd (omega arith)
two_at (suc n) r (x ∷ xs) [] i hr ex ey hx hy hi = absurd (omega arith)
two_at (suc n) r (x ∷ xs) (y ∷ ys) zero hr ex ey hx hy hi = one_of_two r x y hr hx.0 hy.0
two_at (suc n) r (x ∷ xs) (y ∷ ys) (suc i) hr ex ey hx hy hi = two_at n r xs ys i hr (omega arith)
    (omega arith) hx.1 hy.1 (omega arith)

-- a lane of what two vectors give
lane : (f : ℕ → ℕ → ℕ) {n : ℕ} (xs ys : List ℕ) (i : ℕ) → length xs ≡ n → length ys ≡ n → i < n
    → get_or (zip2 f xs ys) i 0 ≡ f (get_or xs i 0) (get_or ys i 0)
lane f xs ys i ex ey hi = get_or-zip2 f xs ys i 0 0 0 (omega (arith, ex, hi)) (omega (arith, ey, hi))

-- and how many there are
pub lanes : (f : ℕ → ℕ → ℕ) {n : ℕ} (xs ys : List ℕ) → length xs ≡ n → length ys ≡ n → length (zip2 f xs ys) ≡ n
lanes f xs ys ex ey = length-zip2 f xs ys (ex ∙ sym ey) ∙ ex

-- a lane of the excess, whose two steps are f and g
abbrev pub excess_l : (ℕ → ℕ → ℕ) → (ℕ → ℕ → ℕ) → ℕ → List ℕ → List ℕ → List ℕ → List ℕ
excess_l f g n us ls ts = zip2 bit_and (zip2 g (zip2 f us ls) ts) (replicate n 1)

pub excess_length : (f g : ℕ → ℕ → ℕ) (n : ℕ) (us ls ts : List ℕ) → length us ≡ n → length ls ≡ n → length ts ≡ n
    → length (excess_l f g n us ls ts) ≡ n
excess_length f g n us ls ts eu el et =
    lanes bit_and (zip2 g (zip2 f us ls) ts) (replicate n 1) (lanes g (zip2 f us ls) ts (lanes f us ls eu el) et)
    (length-replicate n 1)

pub excess_at : (f g : ℕ → ℕ → ℕ) (n : ℕ) (us ls ts : List ℕ) (i : ℕ) → length us ≡ n → length ls ≡ n → length ts ≡ n
    → i < n →
    get_or (excess_l f g n us ls ts) i 0 ≡ bit_and (g (f (get_or us i 0) (get_or ls i 0)) (get_or ts i 0)) 1
excess_at f g n us ls ts i eu el et hi =
    let first = lanes f us ls eu el in
    lane bit_and (zip2 g (zip2 f us ls) ts) (replicate n 1) i (lanes g (zip2 f us ls) ts first et)
    (length-replicate n 1) hi
    ∙ cc (lane g (zip2 f us ls) ts i first et hi, lane f us ls i eu el hi, get_or-replicate {A = ℕ} n i 1 0 hi)

-- a lane of the averages of four, less their excess
pub four_at : (n r : ℕ) (xs ys us vs es : List ℕ) (i : ℕ) → r ≤ 1 → length xs ≡ n → length ys ≡ n → length us ≡ n
    → length vs ≡ n → length es ≡ n →
    Each1 (λ x. x < 256) xs → Each1 (λ x. x < 256) ys → Each1 (λ x. x < 256) us → Each1 (λ x. x < 256) vs → i < n →
    get_or es i 0 ≡ excess_of r (get_or (zip2 bit_xor xs ys) i 0) (get_or (zip2 bit_xor us vs) i 0)
    (get_or (zip2 bit_xor (zip2 (average 0) xs ys) (zip2 (average 0) us vs)) i 0) →
    get_or (zip2 minus (zip2 (average 0) (zip2 (average 0) xs ys) (zip2 (average 0) us vs)) es) i 0
    ≡ average4 r (get_or xs i 0) (get_or ys i 0) (get_or us i 0) (get_or vs i 0)
four_at n r xs ys us vs es i hr ex ey eu ev ee hx hy hu hv hi he =
    let mean = average 0 in
    let above = lanes mean xs ys ex ey in
    let below = lanes mean us vs eu ev in
    let small = λ (zs : List ℕ) (ez : length zs ≡ n) (hz : Each1 (λ x. x < 256) zs). Each1-get_or (λ x. x < 256) zs i 0
    (omega (arith, ez, hi)) hz in
    lane minus (zip2 mean (zip2 mean xs ys) (zip2 mean us vs)) es i
    (lanes mean (zip2 mean xs ys) (zip2 mean us vs) above below) ee hi
    ∙ cc (
      he,
      lane mean (zip2 mean xs ys) (zip2 mean us vs) i above below hi,
      lane bit_xor (zip2 mean xs ys) (zip2 mean us vs) i above below hi,
      lane mean xs ys i ex ey hi,
      lane mean us vs i eu ev hi,
      lane bit_xor xs ys i ex ey hi,
      lane bit_xor us vs i eu ev hi,
    )
    ∙ one_of_four r (get_or xs i 0) (get_or ys i 0) (get_or us i 0) (get_or vs i 0) hr (small xs ex hx) (small ys ey hy)
    (small us eu hu) (small vs ev hv)

-- ---- loads

-- samples, as a load has them
pub samples_are : {n : ℕ} {xs : List ℕ} → (length xs ≡ n) × Each1 (λ x. x < 256) xs → IsRowOfSamples n xs
samples_are h = record { long = h.0; small = h.1 }

-- a load of a row that is as long as the vector
pub load_is : (n : ℕ) (xs : List ℕ) → length xs ≡ n → chunk 0 n xs ≡ xs
load_is n xs e = subst (λ (k : ℕ). take k xs ≡ xs) e (take-length xs)

-- what was loaded is samples
pub load_small : (n : ℕ) (xs : List ℕ) → ((k : ℕ) → Fits w8 (get_or xs k 0)) → Each1 (λ x. x < 256) (chunk 0 n xs)
load_small n xs h = below_from_Fits w8 (chunk 0 n xs) (chunk-fits w8 0 n xs h)
