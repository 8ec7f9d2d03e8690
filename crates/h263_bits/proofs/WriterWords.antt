-- A number written by one store of eight bytes. They are 64 bits: those before the number in its first byte,
-- the number, and
-- zeros, which stand after all that is written.
use Rattle.std.proofs.Common.{◌≡◌, ℕ, zero, suc, ◌+◌, ◌-◌, ◌*◌, ◌/◌, ◌%◌, ◌^◌, ◌<◌, ◌≤◌, Bool, List, ◌∷◌, ◌++◌, length, take, drop, get_or, refl, sym, ap, subst, ◌∙◌, append_assoc, arith, add_comm, mul_assoc}
use borrow.Rule.Slice.PartMut.{put_mid}
use Rattle.std.specs.Int.{byte_at, bytes_high_first}
use Rattle.std.proofs.Math.Seq.{drop-cons}
use Rattle.std.proofs.Math.Nat.{pow-suc}
use Rattle.std.proofs.lemmas.Nat.{pow-add, pow_pos, shl-shr, shl_below, shl_whole, shr_below, shr_split, mul-add-lt}
use Rattle.std.proofs.lemmas.List.{length-take, take-append-drop}
use Rattle.h263_bits.specs.Bits.{spelled, bits_of}
use Rattle.h263_bits.proofs.BitLists.{spelled-low, spelled-append}
use Rattle.h263_bits.proofs.WriterLemmas.{take-bits_of, take-bits_of-part, take-spelled}

-- ---- the bits of the bytes of a number

-- the lowest k bits of a number are those of its rest
spelled-rest : (k n : ℕ) → spelled k (n % 2 ^ k) ≡ spelled k n
spelled-rest k n = sym (spelled-low k k (n / 2 ^ k) (n % 2 ^ k) (omega arith)) ∙ ap (spelled k) (shr_split n k)

pow-bytes : (k : ℕ) → 256 ^ k ≡ 2 ^ (8 * k)
pow-bytes zero = refl
pow-bytes (suc k) =
    let e : 8 * suc k ≡ 8 + 8 * k = omega arith in
    omega (arith, pow-suc 256 k, pow-bytes k, ap (λ (j : ℕ). 2 ^ j) e, pow-add 2 8 (8 * k))

byte_is : (k n : ℕ) → byte_at k n ≡ n / 2 ^ (8 * k) % 256
byte_is zero n = omega arith
byte_is (suc k) n = ap (λ (p : ℕ). n / p % 256) (pow-bytes (suc k))

below : (n j : ℕ) → n % 2 ^ j < 2 ^ j
below n j = omega (arith, pow_pos j)

-- the bytes of a number, the highest first, have its bits
pub bits_of-number : (k n : ℕ) → bits_of (bytes_high_first k n) ≡ spelled (8 * k) n
unfolding bits_of spelled
bits_of-number zero n = refl
bits_of-number (suc k) n =
    let e : 8 * suc k ≡ 8 + 8 * k = omega arith in
    let high : spelled 8 (byte_at k n) ≡ spelled 8 (n / 2 ^ (8 * k)) = ap (spelled 8) (byte_is k n)
    ∙ spelled-rest 8 (n / 2 ^ (8 * k)) in
    let low : bits_of (bytes_high_first k n) ≡ spelled (8 * k) (n % 2 ^ (8 * k)) = bits_of-number k n
    ∙ sym (spelled-rest (8 * k) n) in
    ap (λ (t : List Bool). t ++ bits_of (bytes_high_first k n)) high
    ∙ ap (λ (t : List Bool). spelled 8 (n / 2 ^ (8 * k)) ++ t) low
    ∙ sym (spelled-append 8 (8 * k) (n / 2 ^ (8 * k)) (n % 2 ^ (8 * k)) (below n (8 * k)))
    ∙ ap (spelled (8 + 8 * k)) (shr_split n (8 * k))
    ∙ ap (λ (j : ℕ). spelled j n) (sym e)

-- ---- the word

-- The first bits of a byte, and the number after them: 39 bits at most, which are shifted to the top of the 64.
pub word_is : (b used value n : ℕ) → b < 256 → used < 8 → n ≤ 32 → value < 2 ^ n
    → take (used + n) (spelled 64 ((b / 2 ^ (8 - used) * 2 ^ n % 2 ^ 64 + value) * 2 ^ (32 - n) % 2 ^ 64 * 2 ^
    (32 - used) % 2 ^ 64)) ≡ take used (spelled 8 b) ++ spelled n value
word_is b used value n small few less fits =
    let hi = b / 2 ^ (8 - used) in
    let whole_byte : 8 ≡ used + (8 - used) = omega arith in
    let hi_small : hi < 2 ^ used = shr_below b used (8 - used) (subst (λ (k : ℕ). b < 2 ^ k) whole_byte small) in
    let x = hi * 2 ^ n + value in
    let both : x < 2 ^ (used + n) = subst (λ (k : ℕ). x < k) (sym (ap (λ (k : ℕ). 2 ^ k) (add_comm used n)
    ∙ pow-add 2 n used)) (mul-add-lt hi (2 ^ n) value (2 ^ used) hi_small fits) in
    let middle : used + n + (32 - n) ≡ used + 32 = omega arith in
    let shifted : x * 2 ^ (32 - n) < 2 ^ (used + 32) = subst (λ (k : ℕ). x * 2 ^ (32 - n) < 2 ^ k) middle
    (shl_below x (used + n) (32 - n) both) in
    let first : hi * 2 ^ n % 2 ^ 64 ≡ hi * 2 ^ n = shl_whole hi used n 64 hi_small (omega arith) in
    let second : x * 2 ^ (32 - n) % 2 ^ 64 ≡ x * 2 ^ (32 - n) = shl_whole x (used + n) (32 - n) 64 both (omega arith) in
    let third : x * 2 ^ (32 - n) * 2 ^ (32 - used) % 2 ^ 64 ≡ x * 2 ^ (32 - n) * 2 ^ (32 - used) =
    shl_whole (x * 2 ^ (32 - n)) (used + 32) (32 - used) 64 shifted (omega arith) in
    let behind : 32 - n + (32 - used) ≡ 64 - (used + n) = omega arith in
    let joined : x * 2 ^ (32 - n) * 2 ^ (32 - used) ≡ x * 2 ^ (64 - (used + n)) = mul_assoc x (2 ^ (32 - n))
    (2 ^ (32 - used)) ∙ ap (λ (k : ℕ). x * k) (sym (pow-add 2 (32 - n) (32 - used))
    ∙ ap (λ (k : ℕ). 2 ^ k) behind) in
    let word : (hi * 2 ^ n % 2 ^ 64 + value) * 2 ^ (32 - n) % 2 ^ 64 * 2 ^ (32 - used) % 2 ^ 64
    ≡ x * 2 ^ (64 - (used + n)) =
    ap (λ (k : ℕ). (k + value) * 2 ^ (32 - n) % 2 ^ 64 * 2 ^ (32 - used) % 2 ^ 64) first
    ∙ ap (λ (k : ℕ). k * 2 ^ (32 - used) % 2 ^ 64) second ∙ third ∙ joined in
    ap (λ (w : ℕ). take (used + n) (spelled 64 w)) word
    ∙ take-spelled 64 (x * 2 ^ (64 - (used + n))) (used + n) (omega arith)
    ∙ ap (spelled (used + n)) (shl-shr x (64 - (used + n)))
    ∙ spelled-append used n hi value fits
    ∙ ap (λ (t : List Bool). t ++ spelled n value) (sym (take-spelled 8 b used (omega arith)))

-- ---- the store

-- Eight bytes written over those from the byte of place `at` on: what stood before that place is still there.
pub word_takes : (bytes stored : List ℕ) (at n value word : ℕ) → stored ≡ bytes_high_first 8 word
    → at / 8 + 8 ≤ length bytes → n ≤ 32
    → take (at % 8 + n) (spelled 64 word) ≡ take (at % 8) (spelled 8 (get_or bytes (at / 8) 0)) ++ spelled n value
    → take (at + n) (bits_of (put_mid (at / 8) (at / 8 + 8 - at / 8) bytes stored)) ≡ take at (bits_of bytes)
    ++ spelled n value
word_takes bytes stored at n value word is room few put =
    let k = at / 8 in
    let used = at % 8 in
    let b = get_or bytes k 0 in
    let within : k < length bytes = omega arith in
    let len : length (take k bytes) ≡ k = omega (arith, length-take k bytes) in
    let old : bytes ≡ take k bytes ++ b ∷ drop (suc k) bytes = sym (take-append-drop k bytes)
    ∙ ap (λ (t : List ℕ). take k bytes ++ t) (drop-cons bytes k 0 within) in
    let place : at ≡ 8 * k + used = omega arith in
    let place2 : at + n ≡ 8 * k + (used + n) = omega arith in
    let bits : bits_of stored ≡ spelled 64 word = ap bits_of is ∙ bits_of-number 8 word in
    let long : length stored ≡ 8 = ap length is in
    ap (λ (m : ℕ). take m (bits_of (put_mid k (k + 8 - k) bytes stored))) place2
    ∙ take-bits_of-part (put_mid k (k + 8 - k) bytes stored) (take k bytes) stored _ k (used + n) refl len (omega arith)
    ∙ ap (λ (t : List Bool). bits_of (take k bytes) ++ take (used + n) t) bits
    ∙ ap (λ (t : List Bool). bits_of (take k bytes) ++ t) put
    ∙ sym (append_assoc (bits_of (take k bytes)) (take used (spelled 8 b)) (spelled n value))
    ∙ ap (λ (t : List Bool). t ++ spelled n value) (sym (ap (λ (m : ℕ). take m (bits_of bytes)) place
    ∙ take-bits_of bytes (take k bytes) (drop (suc k) bytes) b k used old len (omega arith)))
