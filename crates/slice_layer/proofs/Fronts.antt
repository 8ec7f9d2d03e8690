-- Bytes that begin with a text, padded up to a whole byte, and a text that goes on after it.
use Rattle.std.proofs.Common.{◌≡◌, ℕ, ◌+◌, ◌-◌, ◌*◌, ◌/◌, ◌%◌, ◌≤◌, Bool, List, ◌++◌, length, take, drop, refl, sym, ap, ◌∙◌, append_assoc, arith}
use Rattle.std.proofs.Math.Seq.{take-add}
use Rattle.std.proofs.lemmas.List.{length-append, length-take, length-drop, take_all, take_at}
use Rattle.h263_bits.specs.Bits.{spelled, number, bits_of}
use Rattle.h263_bits.specs.Reading.{bits_between}
use Rattle.h263_bits.specs.Written.{to_byte}
use Rattle.h263_bits.proofs.SyntaxLaws.{spelled-number, length-bits_of, bits_of-take, bits_of-append, take-take}
use Rattle.slice_layer.specs.Written.{bytes_filled_by, padded, IsPaddedFront}

whole_bytes : (n : ℕ) → 8 * ((n + to_byte n) / 8) ≡ n + to_byte n
whole_bytes n = omega arith

-- what a writer wrote from the first bit on, up to a whole byte
pub front_is : (text : List Bool) (bytes : List ℕ) (len : ℕ) → take len (bits_of bytes) ≡ padded text
    → len ≡ length text + to_byte (length text) → len ≤ 8 * length bytes → IsPaddedFront text bytes
front_is text bytes len h e within =
    let whole : 8 * bytes_filled_by text ≡ len = whole_bytes (length text) ∙ sym e in
    bits_of-take (bytes_filled_by text) bytes (omega arith) ∙ ap (λ (k : ℕ). take k (bits_of bytes)) whole ∙ h

-- the first bits, by the number that they spell
spelled_first : (n : ℕ) (bits : List Bool) → n ≤ length bits → spelled n (number (take n bits)) ≡ take n bits
spelled_first n bits h =
    let len : length (take n bits) ≡ n = omega (arith, length-take n bits) in
    ap (λ (k : ℕ). spelled k (number (take n bits))) (sym len) ∙ spelled-number (take n bits)

-- the last bits by their number, after the whole bytes
pub last_again : (bytes : List ℕ) (len last : ℕ) → len ≤ 8 * length bytes
    → last ≡ number (take (len % 8) (bits_between bytes (len - len % 8) len).bits)
    → take (8 * (len / 8)) (bits_of bytes) ++ spelled (len % 8) last ≡ take len (bits_of bytes)
last_again bytes len last within e =
    let bits = bits_of bytes in
    let n = len % 8 in
    let at = 8 * (len / 8) in
    let from : len - n ≡ at = omega arith in
    let size : len - (len - n) ≡ n = omega arith in
    let whole : at + n ≡ len = omega arith in
    let rest : List Bool = take n (drop at bits) in
    let long : n ≤ length rest = omega (
      arith,
      length-take n (drop at bits),
      length-drop at bits,
      length-bits_of bytes,
    ) in
    let window : take n (take (len - (len - n)) (drop (len - n) bits))
    ≡ take n rest = ap (λ (k : ℕ). take n (take k (drop (len - n) bits))) size
    ∙ ap (λ (k : ℕ). take n (take n (drop k bits))) from in
    let same : take n rest ≡ rest = take_all n rest (omega (arith, length-take n (drop at bits))) in
    let spelt : spelled n last ≡ rest = ap (λ (k : ℕ). spelled n k) (e ∙ ap number window) ∙ spelled_first n rest long
    ∙ same in
    ap (λ (t : List Bool). take at bits ++ t) spelt ∙ sym (take-add at n bits) ∙ ap (λ (k : ℕ). take k bits) whole

-- the bits of a text stand at the start of the bytes
pub text_there : (text : List Bool) (bytes : List ℕ) → IsPaddedFront text bytes → length text ≤ 8 * length bytes
    → take (length text) (bits_of bytes) ≡ text
text_there text bytes h within =
    let n = length text in
    let whole : 8 * bytes_filled_by text ≡ n + to_byte n = whole_bytes n in
    let room : bytes_filled_by text ≤ length bytes = omega arith in
    let shown : take (8 * bytes_filled_by text) (bits_of bytes)
    ≡ padded text = sym (bits_of-take (bytes_filled_by text) bytes room)
    ∙ h in
    sym (take-take n (8 * bytes_filled_by text) (bits_of bytes) (omega arith) (omega (arith, length-bits_of bytes)))
    ∙ ap (take n) shown ∙ take_at text (spelled (to_byte n) 0) n refl

-- after a text of n bits the bytes were written again, from its last whole byte on
pub grown : (old new apart : List ℕ) (text front more : List Bool) (n size : ℕ) → n ≡ length text → n ≤ 8 * length old
    → IsPaddedFront text old
    → length front ≡ n % 8 → take (8 * (n / 8)) (bits_of old) ++ front ≡ take n (bits_of old)
    → size ≡ bytes_filled_by (front ++ more) → IsPaddedFront (front ++ more) apart
    → take (n / 8 + size) new ≡ take (n / 8) old ++ take size apart
    → IsPaddedFront (text ++ more) new
grown old new apart text front more n size is within h few last fits g e =
    let at = n / 8 in
    let long : length (front ++ more) ≡ n % 8 + length more = omega (arith, length-append front more) in
    let longer : length (text ++ more) ≡ n + length more = omega (arith, is, length-append text more) in
    let zeros : to_byte (length (front ++ more)) ≡ to_byte (length (text ++ more)) = omega (arith, long, longer) in
    let whole : bytes_filled_by (text ++ more) ≡ at + size = omega (arith, long, longer, fits) in
    let bits : bits_of (take (at + size) new) ≡ bits_of (take at old) ++ bits_of (take size apart) = ap bits_of e
    ∙ bits_of-append (take at old) (take size apart) in
    let first : bits_of (take at old) ≡ take (8 * at) (bits_of old) = bits_of-take at old (omega arith) in
    let again : bits_of (take size apart) ≡ padded (front ++ more) = ap (λ (k : ℕ). bits_of (take k apart)) fits ∙ g in
    let there : take (8 * at) (bits_of old) ++ front ≡ text = last ∙ ap (λ (k : ℕ). take k (bits_of old)) is
    ∙ text_there text old h (omega (arith, is, within)) in
    ap (λ (k : ℕ). bits_of (take k new)) whole
    ∙ bits
    ∙ ap (λ (t : List Bool). t ++ bits_of (take size apart)) first
    ∙ ap (λ (t : List Bool). take (8 * at) (bits_of old) ++ t) again
    ∙ regroup (take (8 * at) (bits_of old)) front more (spelled (to_byte (length (front ++ more))) 0)
    ∙ ap (λ (t : List Bool). (t ++ more) ++ spelled (to_byte (length (front ++ more))) 0) there
    ∙ ap (λ (k : ℕ). (text ++ more) ++ spelled k 0) zeros
  where
    regroup : (a b c d : List Bool) → a ++ ((b ++ c) ++ d) ≡ ((a ++ b) ++ c) ++ d
    regroup a b c d = simp (append_assoc)
