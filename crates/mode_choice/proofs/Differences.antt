-- The differences of samples from one number.
use Rattle.std.proofs.Common.{◌≡◌, arith, ℕ, suc, ◌+◌, ◌≤◌, List, [], ◌∷◌, ◌++◌, length, replicate, refl, ap, sym, subst, ◌∙◌, take, drop, length-take, length-drop, take-append-drop}
use Rattle.std.specs.Int.{abs_diff}
use lib.Lanes.{sum_l}
use Rattle.sad_kernel.specs.Differences.{differences}

-- the differences from 0 are the samples
pub from_zero : (xs : List ℕ) → differences xs (replicate (length xs) 0) ≡ sum_l xs
from_zero [] = refl
from_zero (x ∷ xs) = grind (arith, from_zero xs)

-- the two halves of a list lie no further apart than all of it from any one number
between : (a b n : ℕ) → abs_diff a b ≤ abs_diff a n + abs_diff b n
between a b n = omega arith

apart : (xs ys : List ℕ) (n : ℕ) → length xs ≡ length ys
    → differences xs ys ≤ differences xs (replicate (length xs) n) + differences ys (replicate (length ys) n)
apart [] [] n e = omega arith
apart [] (y ∷ ys) n e = absurd (omega (arith, e))
apart (x ∷ xs) [] n e = absurd (omega (arith, e))
apart (x ∷ xs) (y ∷ ys) n e =
    let rest : differences xs ys ≤ differences xs (replicate (length xs) n) + differences ys (replicate (length ys) n) =
    apart xs ys n (omega (arith, e)) in
    omega (arith, rest, between x y n)

added : (xs ys : List ℕ) (m n : ℕ) → differences (xs ++ ys) (replicate (length xs + m) n)
    ≡ differences xs (replicate (length xs) n) + differences ys (replicate m n)
added [] ys m n = grind arith
added (x ∷ xs) ys m n =
    let more : length (x ∷ xs) + m ≡ suc (length xs + m) = omega arith in
    let rest : differences (xs ++ ys) (replicate (length xs + m) n)
    ≡ differences xs (replicate (length xs) n) + differences ys (replicate m n) = added xs ys m n in
    let first : differences (x ∷ xs) (replicate (length (x ∷ xs)) n)
    ≡ abs_diff x n + differences xs (replicate (length xs) n) = refl in
    let both : differences ((x ∷ xs) ++ ys) (replicate (suc (length xs + m)) n)
    ≡ abs_diff x n + differences (xs ++ ys) (replicate (length xs + m) n) = refl in
    ap (λ (k : ℕ). differences ((x ∷ xs) ++ ys) (replicate k n)) more ∙ omega (arith, rest, first, both)

pub halves : (xs : List ℕ) (n : ℕ) → length xs ≡ 256
    → differences (take 128 xs) (drop 128 xs) ≤ differences xs (replicate 256 n)
halves xs n long =
    let left : length (take 128 xs) ≡ 128 = omega (arith, length-take 128 xs, long) in
    let right : length (drop 128 xs) ≡ 128 = omega (arith, length-drop 128 xs, long) in
    let near = apart (take 128 xs) (drop 128 xs) n (left ∙ sym right) in
    let all : differences (take 128 xs ++ drop 128 xs) (replicate 256 n)
    ≡ differences (take 128 xs) (replicate 128 n) + differences (drop 128 xs) (replicate 128 n) =
    subst (λ (k : ℕ). differences (take 128 xs ++ drop 128 xs) (replicate (k + 128) n)
    ≡ differences (take 128 xs) (replicate k n) + differences (drop 128 xs) (replicate 128 n)) left
    (added (take 128 xs) (drop 128 xs) 128 n) in
    let whole : differences (take 128 xs ++ drop 128 xs) (replicate 256 n) ≡ differences xs (replicate 256 n) =
    ap (λ (zs : List ℕ). differences zs (replicate 256 n)) (take-append-drop 128 xs) in
    let here : differences (take 128 xs) (drop 128 xs) ≤ differences (take 128 xs) (replicate 128 n) + differences
    (drop 128 xs) (replicate 128 n) =
    subst (λ (k : ℕ). differences (take 128 xs) (drop 128 xs) ≤ differences (take 128 xs)
    (replicate 128 n) + differences (drop 128 xs) (replicate k n)) right
    (subst (λ (k : ℕ). differences (take 128 xs) (drop 128 xs) ≤ differences (take 128 xs) (replicate k n) + differences
    (drop 128 xs) (replicate (length (drop 128 xs)) n)) left near) in
    omega (arith, here, all, whole)
