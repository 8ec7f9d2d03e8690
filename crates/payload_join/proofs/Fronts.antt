-- The bytes of a front.
use Rattle.std.proofs.Common.{◌≡◌, ℕ, zero, suc, ◌+◌, ◌-◌, ◌*◌, ◌/◌, ◌%◌, ◌^◌, ◌<◌, ◌≤◌, Bool, true, false, List, [], ◌∷◌, ◌++◌, length, take, drop, get_or, refl, sym, ap, ◌∙◌, arith}
use Rattle.std.specs.Prelude.{◌&&◌, nat_le, Some, None, Result, Ok, Err}
use Rattle.std.proofs.lemmas.Bool.{and_parts, le-leb, lt-leb}
use Rattle.std.proofs.lemmas.List.{take_at, drop_at, take_all, length-append}
use Rattle.h263_bits.specs.declared.fault.Fault.{Fault}
use Rattle.h263_bits.specs.Reading.{Bits, bits_between}
use Rattle.h263_types.specs.declared.format.Format.{Format}
use Rattle.picture_header.specs.declared.header.Header.{Header}
use Rattle.picture_header.specs.Text.{header}
use Rattle.rtp_header.specs.Text.{from_byte}
use Rattle.rtp_header.specs.Written.{rtp_fields}
use Rattle.h263_bits.specs.Bits.{spelled, number, bits_of, fields}
use Rattle.h263_bits.specs.Syntax.{same_bit, reading}
use Rattle.h263_bits.proofs.SyntaxLaws.{bits_of-append}
use Rattle.byteorder.specs.Endian.{big_bytes}
use Rattle.h263_payload.specs.Written.{payload_opening_fields}
use Rattle.payload_join.specs.Unit.{each_below}
use Rattle.h263_bits.specs.Bytes.{bytes_filled}
use Rattle.payload_join.specs.Places.{put_at}
use Rattle.payload_join.specs.Fronts.{front_by, end_as, header_end}
use Rattle.payload_join.proofs.Growing.{each_at}
use Rattle.payload_join.proofs.Slots.{put_length}
use Rattle.payload_join.proofs.Between.{take_put}

-- bytes are found again in their bits
pub bytes_again : ((n value : ℕ) → value < 2 ^ n → number (spelled n value) ≡ value)
    → ((n value : ℕ) → length (spelled n value) ≡ n)
    → (bytes : List ℕ) → ((k : ℕ) → get_or bytes k 0 < 2 ^ 8) → bytes_filled (length bytes) (bits_of bytes) ≡ bytes
unfolding bytes_filled bits_of
bytes_again again many [] fits = refl
bytes_again again many (b ∷ bytes) fits =
    let first : number (take 8 (spelled 8 b ++ bits_of bytes))
    ≡ b = ap number (take_at (spelled 8 b) (bits_of bytes) 8 (many 8 b)) ∙ again 8 b (fits 0) in
    let rest : drop 8 (spelled 8 b ++ bits_of bytes) ≡ bits_of bytes = drop_at (spelled 8 b) (bits_of bytes) 8
    (many 8 b) in
    let more = ap (bytes_filled (length bytes)) rest ∙ bytes_again again many bytes (λ k. fits (suc k)) in
    λ i. first i ∷ more i

same_list : List Bool → List Bool → Bool
same_list [] [] = true
same_list [] (y ∷ ys) = false
same_list (x ∷ xs) [] = false
same_list (x ∷ xs) (y ∷ ys) = same_bit x y && same_list xs ys

same_bit_is : (x y : Bool) → same_bit x y ≡ true → x ≡ y
same_bit_is true y e = sym e
same_bit_is false true e = absurd cc
same_bit_is false false e = refl

same_list_is : (xs ys : List Bool) → same_list xs ys ≡ true → xs ≡ ys
unfolding same_list
same_list_is [] [] e = refl
same_list_is [] (y ∷ ys) e = absurd cc
same_list_is (x ∷ xs) [] e = absurd cc
same_list_is (x ∷ xs) (y ∷ ys) e =
    let p = and_parts (same_bit x y) (same_list xs ys) e in
    let first = same_bit_is x y p.0 in
    let more = same_list_is xs ys p.1 in
    λ i. first i ∷ more i

opening_bytes : ℕ → ℕ → List ℕ
opening_bytes plen pebit = big_bytes 2 (1024 + 8 * plen + pebit)

is_opening : ℕ → ℕ → Bool
is_opening plen pebit = same_list (bits_of (opening_bytes plen pebit)) (fields (payload_opening_fields plen pebit))

tried : each_below 64 (λ plen. each_below 8 (λ pebit. is_opening plen pebit)) ≡ true
unfolding each_below is_opening opening_bytes same_list bits_of spelled
tried = refl

-- the 16 bits of a payload header
pub opening_is : (plen pebit : ℕ) → plen < 64 → pebit < 8 → bits_of (big_bytes 2 (1024 + 8 * plen + pebit))
    ≡ fields (payload_opening_fields plen pebit)
unfolding is_opening opening_bytes
opening_is plen pebit few less =
    same_list_is (bits_of (opening_bytes plen pebit)) (fields (payload_opening_fields plen pebit))
    (each_at 8 (λ b. is_opening plen b) pebit (each_at 64 (λ l. each_below 8 (λ b. is_opening l b)) plen tried few)
    less)

-- ---- a whole front

both_fit : (xs ys : List ℕ) → ((k : ℕ) → get_or xs k 0 < 2 ^ 8) → ((k : ℕ) → get_or ys k 0 < 2 ^ 8) → (k : ℕ)
    → get_or (xs ++ ys) k 0 < 2 ^ 8
both_fit [] ys a b k = b k
both_fit (x ∷ xs) ys a b zero = a 0
both_fit (x ∷ xs) ys a b (suc k) = both_fit xs ys (λ j. a (suc j)) b k

-- twelve bytes, two and an extra header, written one after the other
pub written_is : (zeros rtp opening extra : List ℕ) → length zeros ≡ 77 → length rtp ≡ 12 → length opening ≡ 2
    → length extra < 64
    → take (14 + length extra) (put_at (put_at (put_at zeros 0 rtp) 12 opening) 14 extra) ≡ (rtp ++ opening) ++ extra
written_is zeros rtp opening extra l0 l1 l2 few =
    let a : List ℕ = put_at zeros 0 rtp in
    let b : List ℕ = put_at a 12 opening in
    let la : length a ≡ 77 = put_length zeros 0 rtp (omega arith) ∙ l0 in
    let lb : length b ≡ 77 = put_length a 12 opening (omega arith) ∙ la in
    let first : take 12 a ≡ rtp = (let e : 12 ≡ 0 + length rtp = omega arith in ap (λ (k : ℕ). take k a) e)
    ∙ take_put zeros rtp 0 (omega arith) in
    let second : take 14 b ≡ rtp ++ opening = (let e : 14 ≡ 12 + length opening = omega arith in
    ap (λ (k : ℕ). take k b) e) ∙ take_put a opening 12 (omega arith) ∙ ap (λ (l : List ℕ). l ++ opening) first in
    take_put b extra 14 (omega arith) ∙ ap (λ (l : List ℕ). l ++ extra) second

pub front_is : ((n value : ℕ) → value < 2 ^ n → number (spelled n value) ≡ value)
    → ((n value : ℕ) → length (spelled n value) ≡ n)
    → (rtp opening extra : List ℕ) (sequence timestamp pebit : ℕ) → length rtp ≡ 12 → length opening ≡ 2
    → ((k : ℕ) → get_or rtp k 0 < 2 ^ 8) → ((k : ℕ) → get_or opening k 0 < 2 ^ 8)
    → bits_of rtp ≡ fields (rtp_fields false sequence timestamp)
    → bits_of opening ≡ fields (payload_opening_fields (length extra) pebit)
    → (rtp ++ opening) ++ extra ≡ front_by sequence timestamp (record { bytes = extra; pebit = pebit })
front_is again many rtp opening extra sequence timestamp pebit l1 l2 f1 f2 is_rtp is_opening =
    let heads : bytes_filled 14 (fields (rtp_fields false sequence timestamp)
    ++ fields (payload_opening_fields (length extra) pebit)) ≡ rtp ++ opening =
    (λ i. bytes_filled 14 (sym is_rtp i ++ sym is_opening i))
    ∙ ap (bytes_filled 14) (sym (bits_of-append rtp opening))
    ∙ (let e : 14 ≡ length (rtp ++ opening) = omega (arith, length-append rtp opening) in
    ap (λ (k : ℕ). bytes_filled k (bits_of (rtp ++ opening))) e)
    ∙ bytes_again again many (rtp ++ opening) (both_fit rtp opening f1 f2) in
    ap (λ (l : List ℕ). l ++ extra) (sym heads)

-- ---- where a picture header ends

from_start : (coded : List ℕ) → ((bytes : List ℕ) → length (bits_of bytes) ≡ 8 * length bytes)
    → bits_between coded 0 (8 * length coded) ≡ from_byte 0 coded
from_start coded whole = ap (λ (l : List Bool). record { at = 0; bits = l })
    (take_all (8 * length coded - 0) (bits_of coded) (omega (arith, whole coded)))

read_from : (format : Format) (coded : List ℕ) {b : Bits} {r : Result (Header × Bits) Fault}
    → ((bytes : List ℕ) → length (bits_of bytes) ≡ 8 * length bytes) → b ≡ bits_between coded 0 (8 * length coded)
    → reading (header format) b ≡ r → r ≡ reading (header format) (from_byte 0 coded)
read_from format coded whole e read = sym read ∙ ap (reading (header format)) (e ∙ from_start coded whole)

pub ends_within : (format : Format) (coded : List ℕ) {b left : Bits} {h : Header} {end : ℕ}
    → ((bytes : List ℕ) → length (bits_of bytes) ≡ 8 * length bytes) → b ≡ bits_between coded 0 (8 * length coded)
    → reading (header format) b ≡ Ok (h, left) → end ≡ left.at → end ≤ 504 → Some end ≡ header_end format coded
unfolding header_end
ends_within format coded {b} {left} {h} {end} whole e read at le =
    let t : nat_le left.at (8 * 63) ≡ true = le-leb left.at (8 * 63) (omega arith) in
    let f : end_as (Ok (h, left)) ≡ Some left.at = rw t refl in
    ap (λ (n : ℕ). Some n) at ∙ sym f ∙ ap end_as (read_from format coded whole e read)

pub ends_past : (format : Format) (coded : List ℕ) {b left : Bits} {h : Header} {end : ℕ}
    → ((bytes : List ℕ) → length (bits_of bytes) ≡ 8 * length bytes) → b ≡ bits_between coded 0 (8 * length coded)
    → reading (header format) b ≡ Ok (h, left) → end ≡ left.at → 504 < end → None ≡ header_end format coded
unfolding header_end
ends_past format coded {b} {left} {h} {end} whole e read at lt =
    let t : nat_le left.at (8 * 63) ≡ false = lt-leb left.at (8 * 63) (omega arith) in
    let f : end_as (Ok (h, left)) ≡ None = rw t refl in
    sym f ∙ ap end_as (read_from format coded whole e read)

pub ends_with_fault : (format : Format) (coded : List ℕ) {b : Bits} {fault : Fault}
    → ((bytes : List ℕ) → length (bits_of bytes) ≡ 8 * length bytes) → b ≡ bits_between coded 0 (8 * length coded)
    → reading (header format) b ≡ Err fault → None ≡ header_end format coded
unfolding header_end
ends_with_fault format coded whole e read = ap end_as (read_from format coded whole e read)
