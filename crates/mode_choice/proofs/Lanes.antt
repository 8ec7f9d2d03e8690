-- Bytes as numbers of 16 bits, and their differences, as the lanes compute them.
use Rattle.std.proofs.Common.{◌≡◌, ℕ, zero, suc, ◌+◌, ◌-◌, ◌%◌, ◌^◌, ◌<◌, ◌≤◌, lit≤, refl, ap, ◌∙◌, List, [], ◌∷◌, map, length, get_or, arith, ℤ, pos, ◌-ℤ◌, to_z, of_z, w16, FitsSigned}
use lib.Lanes.{zip2}
use Rattle.std.proofs.lemmas.Int.{ints, to_z-of_z}
use Rattle.idct8.specs.Ranges.{Within}

-- what the lanes of sixteen bits do
abbrev pub minus : ℕ → ℕ → ℕ
minus a b = (a + (2 ^ 16 - b)) % 2 ^ 16

abbrev pub differences_l : List ℕ → List ℕ → List ℤ
differences_l xs ys = map (to_z w16) (zip2 minus (map (λ (k : ℕ). k) xs) (map (λ (k : ℕ). k) ys))

minus_is : (a b : ℤ) (m n : ℕ) → m + n ≤ 32767 → Within m a → Within n b → minus (of_z w16 a) (of_z w16 b)
    ≡ of_z w16 (a -ℤ b)
minus_is a b m n h ha hb = omega (arith, ints)

byte_within : (x : ℕ) → x < 256 → Within 255 (pos x)
byte_within x h = omega (arith, ints)

one_difference : (x y : ℕ) → x < 256 → y < 256 → to_z w16 (minus x y) ≡ (pos x -ℤ pos y)
one_difference x y hx hy =
    let fits : FitsSigned w16 (pos x -ℤ pos y) = omega (arith, ints) in
    ap (to_z w16) (minus_is (pos x) (pos y) 255 255 (lit≤ tt) (byte_within x hx) (byte_within y hy))
    ∙ to_z-of_z w16 (pos x -ℤ pos y) fits

pub difference_at : (xs ys : List ℕ) (i : ℕ) → i < length xs → i < length ys → get_or xs i 0 < 256
    → get_or ys i 0 < 256 →
    get_or (differences_l xs ys) i (pos 0) ≡ (pos (get_or xs i 0) -ℤ pos (get_or ys i 0))
difference_at [] ys i hx hy bx by = absurd (omega (arith, hx))
difference_at (x ∷ xs) [] i hx hy bx by = absurd (omega (arith, hy))
difference_at (x ∷ xs) (y ∷ ys) zero hx hy bx by = one_difference x y bx by
difference_at (x ∷ xs) (y ∷ ys) (suc i) hx hy bx by = difference_at xs ys i (omega (arith, hx))
    (omega (arith, hy)) bx by

pub length_differences : (xs ys : List ℕ) → length xs ≡ length ys → length (differences_l xs ys) ≡ length xs
length_differences [] ys e = refl
length_differences (x ∷ xs) [] e = absurd (omega (arith, e))
length_differences (x ∷ xs) (y ∷ ys) e = omega (arith, length_differences xs ys (omega (arith, e)))

-- bytes that are widened alone
abbrev pub widened_l : List ℕ → List ℤ
widened_l xs = map (to_z w16) (map (λ (k : ℕ). k) xs)

one_widened : (x : ℕ) → x < 256 → to_z w16 x ≡ pos x
one_widened x h = omega (arith, ints)

pub widened_at : (xs : List ℕ) (i : ℕ) → i < length xs → get_or xs i 0 < 256 → get_or (widened_l xs) i (pos 0)
    ≡ pos (get_or xs i 0)
widened_at [] i h b = absurd (omega (arith, h))
widened_at (x ∷ xs) zero h b = one_widened x b
widened_at (x ∷ xs) (suc i) h b = widened_at xs i (omega (arith, h)) b

pub length_widened : (xs : List ℕ) → length (widened_l xs) ≡ length xs
length_widened [] = refl
length_widened (x ∷ xs) = omega (arith, length_widened xs)
