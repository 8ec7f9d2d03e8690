-- Bits and the bytes that they fill.
use Rattle.std.proofs.Common.{◌≡◌, ℕ, zero, suc, ◌*◌, ◌^◌, ◌<◌, Bool, List, [], ◌∷◌, ◌++◌, length, take, drop, get_or, refl, sym, ap, ◌∙◌, arith}
use Rattle.std.proofs.Math.Nat.{mod-eq_of_lt}
use Rattle.std.proofs.lemmas.List.{length-take-le, length-drop, take-append-drop, take_at, drop_at}
use Rattle.h263_bits.specs.Bits.{number, bits_of, spelled}
use Rattle.h263_bits.proofs.SyntaxLaws.{length-spelled, number-spelled, spelled-number}
use Rattle.h263_bits.specs.Bytes.{bytes_filled}

pub length-bytes_in : (count : ℕ) (text : List Bool) → length (bytes_filled count text) ≡ count
unfolding bytes_filled
length-bytes_in zero text = refl
length-bytes_in (suc count) text = ap suc (length-bytes_in count (drop 8 text))

pub bits_of_bytes : (count : ℕ) (text : List Bool) → length text ≡ 8 * count → bits_of (bytes_filled count text) ≡ text
unfolding bytes_filled bits_of
bits_of_bytes zero [] e = refl
bits_of_bytes zero (b ∷ text) e = absurd (omega arith)
bits_of_bytes (suc count) text e =
    let long : length (take 8 text) ≡ 8 = length-take-le 8 text (omega arith) in
    let one : spelled 8 (number (take 8 text)) ≡ take 8 text = ap (λ (n : ℕ). spelled n (number (take 8 text)))
    (sym long) ∙ spelled-number (take 8 text) in
    let rest : bits_of (bytes_filled count (drop 8 text)) ≡ drop 8 text = bits_of_bytes count (drop 8 text)
    (omega (arith, length-drop 8 text)) in
    ap (λ (t : List Bool). t ++ bits_of (bytes_filled count (drop 8 text))) one
    ∙ ap (λ (t : List Bool). take 8 text ++ t) rest ∙ take-append-drop 8 text

abbrev pub AreBytes : List ℕ → Type 0
AreBytes bytes = (i : ℕ) → get_or bytes i 0 < 256

pub bytes_of_bits : (bytes : List ℕ) → AreBytes bytes → bytes_filled (length bytes) (bits_of bytes) ≡ bytes
unfolding bytes_filled bits_of
bytes_of_bits [] fit = refl
bytes_of_bits (byte ∷ bytes) fit =
    let long : length (spelled 8 byte) ≡ 8 = length-spelled 8 byte in
    let front : take 8 (spelled 8 byte ++ bits_of bytes)
    ≡ spelled 8 byte = take_at (spelled 8 byte) (bits_of bytes) 8 long in
    let after : drop 8 (spelled 8 byte ++ bits_of bytes)
    ≡ bits_of bytes = drop_at (spelled 8 byte) (bits_of bytes) 8 long in
    let small : byte < 2 ^ 8 = omega (arith, fit 0) in
    ap (λ (t : List Bool). number t ∷ bytes_filled (length bytes) (drop 8 (spelled 8 byte ++ bits_of bytes))) front
    ∙ ap (λ (n : ℕ). n ∷ bytes_filled (length bytes) (drop 8 (spelled 8 byte ++ bits_of bytes))) (number-spelled 8 byte
    ∙ mod-eq_of_lt small)
    ∙ ap (λ (t : List Bool). byte ∷ bytes_filled (length bytes) t) after
    ∙ ap (λ (l : List ℕ). byte ∷ l) (bytes_of_bits bytes (λ i. fit (suc i)))

pub AreBytes-take : (n : ℕ) (bytes : List ℕ) → AreBytes bytes → AreBytes (take n bytes)
AreBytes-take zero bytes fit i = omega arith
AreBytes-take (suc n) [] fit i = fit i
AreBytes-take (suc n) (byte ∷ bytes) fit zero = fit zero
AreBytes-take (suc n) (byte ∷ bytes) fit (suc i) = AreBytes-take n bytes (λ j. fit (suc j)) i
