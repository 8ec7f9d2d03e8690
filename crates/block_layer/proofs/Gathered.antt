-- Bits that are gathered before they are written.
use Rattle.std.proofs.Common.{◌≡◌, ◌∙◌, ℕ, ◌+◌, ◌*◌, ◌/◌, ◌%◌, ◌^◌, ◌<◌, ◌≤◌, Bool, List, ◌++◌, ap, sym, arith, append_assoc, mod-lt, pow_pos}
use Rattle.std.proofs.lemmas.Nat.{pow-add}
use Rattle.std.proofs.Math.Nat.{div-lt_iff_lt-mul, mod-eq_of_lt, mul-le-mul, pow-le-pow_right}
use Rattle.h263_bits.specs.Bits.{spelled}
use Rattle.h263_bits.proofs.SyntaxLaws.{spelled-append}

-- a number after another has fewer bits than both have room for
pub both_fit : (a b i j : ℕ) → a < 2 ^ i → b < 2 ^ j → a * 2 ^ j + b < 2 ^ (i + j)
both_fit a b i j first second =
    let more : (a + 1) * 2 ^ j ≤ 2 ^ i * 2 ^ j = mul-le-mul (let next : a + 1 ≤ 2 ^ i = omega (arith, first) in
    next) (let same : 2 ^ j ≤ 2 ^ j = omega arith in same) in
    omega (arith, more, second, pow-add 2 i j)

-- fewer bits than 54 are few enough for 64
pub below_64 : (n k : ℕ) → n < 2 ^ k → k ≤ 53 → n < 2 ^ 53
below_64 n k fits few =
    let up : 2 ^ k ≤ 2 ^ 53 = pow-le-pow_right {n = 2} (let two : 0 < 2 = omega arith in two) few in
    omega (arith, fits, up)

-- the first bits of a number, and the others
pub in_two : (n i j : ℕ) → spelled (i + j) n ≡ spelled i (n / 2 ^ j) ++ spelled j (n % 2 ^ j)
in_two n i j =
    let some : 0 < 2 ^ j = pow_pos j in
    let parts : n / 2 ^ j * 2 ^ j + n % 2 ^ j ≡ n = omega (arith, some) in
    ap (spelled (i + j)) (sym parts) ∙ spelled-append i j (n / 2 ^ j) (n % 2 ^ j) (mod-lt n some)

-- they wait
pub more_wait : (old : List Bool) (a b i j : ℕ) → b < 2 ^ j → old ++ spelled (i + j) (a * 2 ^ j + b)
    ≡ (old ++ spelled i a) ++ spelled j b
more_wait old a b i j fits =
    ap (λ (t : List Bool). old ++ t) (spelled-append i j a b fits) ∙ sym (append_assoc old (spelled i a) (spelled j b))

-- the first 32 of them are written
pub some_written : (old new : List Bool) (n count rest : ℕ) → count ≡ 32 + rest
    → new ≡ old ++ spelled 32 (n / 2 ^ rest) →
    new ++ spelled rest (n % 2 ^ rest) ≡ old ++ spelled count n
some_written old new n count rest many is =
    ap (λ (t : List Bool). t ++ spelled rest (n % 2 ^ rest)) is
    ∙ append_assoc old (spelled 32 (n / 2 ^ rest)) (spelled rest (n % 2 ^ rest))
    ∙ ap (λ (t : List Bool). old ++ t) (sym (in_two n 32 rest) ∙ ap (λ (k : ℕ). spelled k n) (sym many))

pub first_below : (n count rest : ℕ) → count ≡ 32 + rest → n < 2 ^ count → n / 2 ^ rest < 2 ^ 32
first_below n count rest many fits =
    let room : n < 2 ^ 32 * 2 ^ rest = omega (arith, fits, ap (λ (k : ℕ). 2 ^ k) many, pow-add 2 32 rest) in
    (div-lt_iff_lt-mul {k = 2 ^ rest} {x = n} {y = 2 ^ 32} (pow_pos rest)).1 room

-- a shift that loses nothing
pub kept_shift : (a i j : ℕ) → a < 2 ^ i → i < 32 → j ≤ 22 → a * 2 ^ j % 18446744073709551616 ≡ a * 2 ^ j
kept_shift a i j fits few short =
    let both : a * 2 ^ j + 0 < 2 ^ (i + j) = both_fit a 0 i j fits (pow_pos j) in
    let small : a * 2 ^ j + 0 < 2 ^ 53 = below_64 (a * 2 ^ j + 0) (i + j) both (omega (arith, few, short)) in
    mod-eq_of_lt (let less : a * 2 ^ j < 18446744073709551616 = omega (arith, small) in less)

pub one_shifted : (j : ℕ) → j ≤ 22 → 1 * 2 ^ j % 18446744073709551616 ≡ 2 ^ j
one_shifted j short = kept_shift 1 1 j (omega arith) (omega arith) short ∙ omega arith
