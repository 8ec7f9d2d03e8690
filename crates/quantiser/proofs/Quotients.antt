-- A quotient by a product, and no more steps than 127.
use Rattle.std.proofs.Common.{◌≡◌, ℕ, ◌+◌, ◌-◌, ◌*◌, ◌/◌, ◌%◌, ◌^◌, ◌<◌, ◌≤◌, Bool, true, false, min, nat_lt, ltb-true, refl, sym, ap, subst, ◌∙◌, arith}
use Rattle.std.proofs.lemmas.Bool.Decides.{nat_tests}
use Rattle.std.proofs.lemmas.Nat.{div-mul-add, pow-add}
use Rattle.std.proofs.Math.Nat.{div-div-eq-div-mul, div-lt_iff_lt-mul, mul-le-mul, mul-le-mul_left, pow-le-pow_right}
use Rattle.h263_types.specs.Blocks.{IsQuant}
use Rattle.quantiser.specs.declared.coefficients.Factor.{Factor}
use Rattle.quantiser.specs.Factors.{IsFactor}

not_less : (m n : ℕ) → nat_lt m n ≡ false → n ≤ m
not_less m n e = grind (arith, nat_tests)

-- a number m whose product with d is a little more than p, and the quotient a of n by d with its rest r
low : (p n d m e a r : ℕ) → d * a + r ≡ n → m * d ≡ p + e → a * p ≤ n * m
low p n d m e a r whole exact =
    let rows : n * m ≡ (d * a + r) * m = ap (λ (k : ℕ). k * m) (sym whole) in
    let product : a * (m * d) ≡ a * (p + e) = ap (λ (k : ℕ). a * k) exact in
    omega (arith, rows, product)

high_by : (b : Bool) (p n d m e a r : ℕ) → nat_lt (n * m) (a * p + p) ≡ b → d * a + r ≡ n → r < d → m * d ≡ p + e
    → n * e < p → n * m < a * p + p
high_by true p n d m e a r test whole rest exact few = ltb-true _ _ test
high_by false p n d m e a r test whole rest exact few =
    let large : a * p + p ≤ n * m = not_less (n * m) (a * p + p) test in
    let more : d * (a * p + p) ≤ d * (n * m) = mul-le-mul_left d large in
    let product : n * (m * d) ≡ n * (p + e) = ap (λ (k : ℕ). n * k) exact in
    let parts : (d * a + r) * p ≡ n * p = ap (λ (k : ℕ). k * p) whole in
    let room : p * (r + 1) ≤ p * d = mul-le-mul_left p (let next : r + 1 ≤ d = omega (arith, rest) in next) in
    absurd (omega (arith, more, product, parts, room, few))

high : (p n d m e a r : ℕ) → d * a + r ≡ n → r < d → m * d ≡ p + e → n * e < p → n * m < a * p + p
high p n d m e a r whole rest exact few = high_by (nat_lt (n * m) (a * p + p)) p n d m e a r refl whole rest exact few

by_parts : (p n d m e a r : ℕ) → d * a + r ≡ n → r < d → m * d ≡ p + e → n * e < p → n * m / p ≡ a
by_parts p n d m e a r whole rest exact few =
    let from : a * p ≤ n * m = low p n d m e a r whole exact in
    let to : n * m < a * p + p = high p n d m e a r whole rest exact few in
    let parts : a * p + (n * m - a * p) ≡ n * m = omega (arith, from) in
    subst (λ (k : ℕ). k / p ≡ a) parts (div-mul-add a p (n * m - a * p) (omega (arith, from, to)))

-- Division by a product: where m is p / d, rounded up, and n times what the rounding adds stays below p, then n * m / p
-- is n / d.
pub by_product : (p n d m e : ℕ) → 0 < d → m * d ≡ p + e → n * e < p → n * m / p ≡ n / d
by_product p n d m e some exact few = by_parts p n d m e (n / d) (n % d) (omega (arith, some))
    (omega (arith, some)) exact few

-- no more than 127 steps
limited_by : (b : Bool) (n d : ℕ) → nat_lt (127 * d) n ≡ b → 0 < d → min n (127 * d) / d ≡ min (n / d) 127
limited_by true n d test some =
    let more : 127 * d < n = ltb-true _ _ test in
    let all : min n (127 * d) ≡ 127 * d + 0 = omega (arith, more) in
    let most : (127 * d + 0) / d ≡ 127 = div-mul-add 127 d 0 some in
    let up : nat_lt (n / d) 127 ≡ false → min (n / d) 127 ≡ 127 = λ h. omega (arith, not_less (n / d) 127 h) in
    ap (λ (k : ℕ). k / d) all ∙ most ∙ sym (up (at_least (nat_lt (n / d) 127) refl))
  where
    at_least : (t : Bool) → nat_lt (n / d) 127 ≡ t → t ≡ false
    at_least true h = let less : n < 127 * d = (div-lt_iff_lt-mul {k = d} {x = n} {y = 127} some).0 (ltb-true _ _ h) in
        let more : 127 * d < n = ltb-true _ _ test in absurd (omega (arith, less, more))
    at_least false h = refl
limited_by false n d test some =
    let few : n ≤ 127 * d = not_less (127 * d) n test in
    let less : n / d < 128 = (div-lt_iff_lt-mul {k = d} {x = n} {y = 128} some).1 (omega (arith, few, some)) in
    let all : min n (127 * d) ≡ n = omega (arith, few) in
    ap (λ (k : ℕ). k / d) all ∙ omega (arith, less)

pub limited : (n d : ℕ) → 0 < d → min n (127 * d) / d ≡ min (n / d) 127
limited n d some = limited_by (nat_lt (127 * d) n) n d refl some

-- two sizes that are the same up to 127 steps have as many of them
pub same_steps : (m n d : ℕ) → 0 < d → min m (127 * d) ≡ min n (127 * d) → min (m / d) 127 ≡ min (n / d) 127
same_steps m n d some e = sym (limited m d some) ∙ ap (λ (k : ℕ). k / d) e ∙ limited n d some

-- the factor's product with twice the quantiser, where k is the power of two
product_of : (q k : ℕ) → 0 < q → (32768 * k + (q - 1)) / q * (2 * q)
    ≡ 65536 * k + 2 * (q - 1 - (32768 * k + (q - 1)) % q)
product_of q k some =
    let whole : q * ((32768 * k + (q - 1)) / q) + (32768 * k + (q - 1)) % q ≡ 32768 * k + (q - 1) = omega (
      arith,
      some,
    ) in
    let rest : (32768 * k + (q - 1)) % q < q = omega (arith, some) in
    omega (arith, whole, rest)

-- what the rounding adds, 2 * (q - 1) at most, is so little that 2 ^ 15 + 6 times as much is below 2 ^ 16
-- times the power of two
exact_beyond : (q size : ℕ) (f : Factor) → IsQuant q → IsFactor q f → size ≤ 32774
    → size * f.number / 2 ^ 16 / 2 ^ f.shift ≡ size / (2 * q)
exact_beyond q size f h is few =
    let k : ℕ = 2 ^ f.shift in
    let e : ℕ = 2 * (q - 1 - (32768 * k + (q - 1)) % q) in
    let some : 0 < q = omega (arith, h.low) in
    let reaches : q ≤ k = is.shift.reaches in
    let number : f.number * (2 * q) ≡ 65536 * k + e = ap (λ (m : ℕ). m * (2 * q)) is.number ∙ product_of q k some in
    let small : size * e ≤ 32774 * (2 * (q - 1)) = mul-le-mul few (let added : e ≤ 2 * (q - 1) = omega arith in
    added) in
    let less : size * e < 65536 * k = omega (arith, small, reaches, h.low, h.high) in
    div-div-eq-div-mul (size * f.number) 65536 k
    ∙ by_product (65536 * k) size (2 * q) f.number e (omega (arith, some)) number less

pub exact : (q size : ℕ) (f : Factor) → IsQuant q → IsFactor q f → size ≤ 32768 → size * f.number / 2 ^ 16 / 2 ^ f.shift
    ≡ size / (2 * q)
exact q size f h is few = exact_beyond q size f h is (omega (arith, few))

-- sixteenths of a size in steps of twice the quantiser
pub in_sixteenths : (q size : ℕ) → size / 16 / (2 * q) ≡ size / (32 * q)
in_sixteenths q size =
    let whole : 16 * (2 * q) ≡ 32 * q = omega arith in
    div-div-eq-div-mul size 16 (2 * q) ∙ ap (λ (d : ℕ). size / d) whole

-- with four bits of shift more the product gives the quotient of sixteenths
pub exact_sixteenths : (q size : ℕ) (f : Factor) → IsQuant q → IsFactor q f → size ≤ 32774
    → size * f.number / 2 ^ 16 / 2 ^ (f.shift + 4) ≡ size / (32 * q)
exact_sixteenths q size f h is few =
    let n : ℕ = size * f.number / 2 ^ 16 in
    let whole : 2 * q * 16 ≡ 32 * q = omega arith in
    ap (λ (d : ℕ). n / d) (pow-add 2 f.shift 4)
    ∙ sym (div-div-eq-div-mul n (2 ^ f.shift) 16)
    ∙ ap (λ (k : ℕ). k / 16) (exact_beyond q size f h is few)
    ∙ div-div-eq-div-mul size (2 * q) 16
    ∙ ap (λ (d : ℕ). size / d) whole

-- the quotient as the product has it, and what is left
pub product_quotient : (q size a b : ℕ) (f : Factor) → IsQuant q → IsFactor q f → size ≤ 32774 → a ≡ size → b ≡ f.number
    → a * b / 65536 / 2 ^ (f.shift + 4) ≡ size / (32 * q)
product_quotient q size a b f h is few first second =
    let product : a * b ≡ size * f.number = cc (first, second) in
    ap (λ (k : ℕ). k / 65536 / 2 ^ (f.shift + 4)) product ∙ exact_sixteenths q size f h is few

pub product_steps : (q size a b n : ℕ) (f : Factor) → IsQuant q → IsFactor q f → size ≤ 32774 → a ≡ size → b ≡ f.number
    → n ≡ q →
    a * b / 65536 / 2 ^ (f.shift + 4) * (32 * n) ≡ size / (32 * q) * (32 * q)
product_steps q size a b n f h is few first second third =
    ap (λ (k : ℕ). k * (32 * n)) (product_quotient q size a b f h is few first second)
    ∙ ap (λ (k : ℕ). size / (32 * q) * (32 * k)) third

pub rest_after : (n d : ℕ) → 0 < d → n - n / d * d ≡ n % d
rest_after n d some =
    let whole : d * (n / d) + n % d ≡ n = omega (arith, some) in
    omega (arith, whole)

-- the power of two isn't above 32
shift_by : (b : Bool) (q shift : ℕ) → nat_lt shift 6 ≡ b → IsQuant q → 2 ^ shift < 2 * q → shift < 6
shift_by true q shift test h least = ltb-true _ _ test
shift_by false q shift test h least =
    let large : 2 ^ 6 ≤ 2 ^ shift = pow-le-pow_right {n = 2} (let two : 0 < 2 = omega arith in
    two) (not_less shift 6 test) in
    absurd (omega (arith, large, least, h.high))

pub shift_small : (q shift : ℕ) → IsQuant q → 2 ^ shift < 2 * q → shift < 6
shift_small q shift h least = shift_by (nat_lt shift 6) q shift refl h least
