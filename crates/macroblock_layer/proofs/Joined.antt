-- Numbers whose bits are put as one: those of one, and those of another after them.
use Rattle.std.proofs.Common.{◌≡◌, ◌∙◌, ℕ, ◌+◌, ◌*◌, ◌%◌, ◌^◌, ◌<◌, ◌≤◌, Bool, List, ◌++◌, length, ap, sym, arith, pow_pos, length-append, subst}
use Rattle.std.proofs.lemmas.Nat.{pow-add}
use Rattle.std.proofs.Math.Nat.{mod-eq_of_lt, mul-le-mul, pow-le-pow_right}
use Rattle.std.specs.Prelude.{◌==◌}
use Rattle.h263_types.specs.declared.Kind.{Kind}
use Rattle.h263_bits.specs.declared.writer.BitWriter.{BitWriter}
use Rattle.h263_bits.specs.Bits.{spelled}
use Rattle.h263_bits.specs.Written.{Appends}
use Rattle.h263_bits.proofs.SyntaxLaws.{length-spelled}
use Rattle.code_tables.specs.Tables.{cbpy_text}
use Rattle.macroblock_layer.specs.Written.{class_of, class_text, step_text, mb_head_text}

pub both_fit : (a b i j : ℕ) → a < 2 ^ i → b < 2 ^ j → a * 2 ^ j + b < 2 ^ (i + j)
both_fit a b i j first second =
    let more : (a + 1) * 2 ^ j ≤ 2 ^ i * 2 ^ j = mul-le-mul (let next : a + 1 ≤ 2 ^ i = omega (arith, first) in
    next) (let same : 2 ^ j ≤ 2 ^ j = omega arith in same) in
    omega (arith, more, second, pow-add 2 i j)

-- a number of at most 32 bits
pub below_32 : (n k : ℕ) → n < 2 ^ k → k ≤ 32 → n < 4294967296
below_32 n k fits few =
    let up : 2 ^ k ≤ 2 ^ 32 = pow-le-pow_right {n = 2} (let two : 0 < 2 = omega arith in two) few in
    omega (arith, fits, up)

-- a shift that loses nothing
pub kept : (a i j : ℕ) → a < 2 ^ i → i + j ≤ 32 → a * 2 ^ j % 4294967296 ≡ a * 2 ^ j
kept a i j fits few =
    let both : a * 2 ^ j + 0 < 2 ^ (i + j) = both_fit a 0 i j fits (pow_pos j) in
    mod-eq_of_lt (let less : a * 2 ^ j < 4294967296 = omega (arith, below_32 (a * 2 ^ j + 0) (i + j) both few) in less)

-- how long a text is whose number is known
pub long_is : (n value : ℕ) (text : List Bool) → spelled n value ≡ text → n ≡ length text
long_is n value text is = sym (length-spelled n value) ∙ ap length is

-- two texts are put as one number
pub put_both : (old new : BitWriter) (n m value : ℕ) (a b : List Bool) → Appends old new (spelled (n + m) value)
    → spelled (n + m) value ≡ a ++ b → Appends old new (a ++ b)
put_both old new n m value a b put is = subst (λ (t : List Bool). Appends old new t) is put

-- two texts, each known by its number
pub both_are : (n m first second : ℕ) (a b : List Bool) → spelled n first ≡ a → spelled m second ≡ b
    → spelled n first ++ spelled m second ≡ a ++ b
both_are n m first second a b is also = ap (λ (t : List Bool). t ++ spelled m second) is
    ∙ ap (λ (t : List Bool). a ++ t) also

-- what stands before the vector and the blocks, part by part
pub head_long : (kind : Kind) (quant new : ℕ) (intra : Bool) (cbpy cbpc : ℕ)
    → length (mb_head_text kind quant new intra cbpy cbpc)
    ≡ length (class_text kind (class_of intra (new == quant)) cbpc) + length (cbpy_text intra cbpy) + length
    (step_text quant new)
unfolding mb_head_text
head_long kind quant new intra cbpy cbpc =
    let all = length-append (class_text kind (class_of intra (new == quant)) cbpc) (cbpy_text intra cbpy
    ++ step_text quant new) in
    omega (arith, all, length-append (cbpy_text intra cbpy) (step_text quant new))
