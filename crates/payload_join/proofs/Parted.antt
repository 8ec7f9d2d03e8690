-- What goes out of a unit, by the fronts of its parts.
use Rattle.std.proofs.Common.{◌≡◌, ℕ, ◌+◌, ◌-◌, ◌*◌, ◌<◌, ◌≤◌, Bool, true, false, cond, List, [], ◌∷◌, ◌++◌, length, take, drop, Option, Some, None, Result, Ok, Err, refl, sym, ap, subst, ◌∙◌, arith}
use Rattle.std.specs.Prelude.{nat_lt, nat_le, is_some, IfSome}
use Rattle.std.proofs.lemmas.List.{length-take}
use Rattle.std.proofs.lemmas.Bool.{lt-ltb, le-ltb}
use Rattle.h263_bits.specs.declared.fault.Fault.{Fault}
use Rattle.h263_bits.specs.Reading.{Bits}
use Rattle.h263_bits.specs.Syntax.{reading}
use Rattle.h263_types.specs.declared.format.Format.{Format}
use Rattle.picture_header.specs.declared.header.Header.{Header}
use Rattle.picture_header.specs.Text.{header}
use Rattle.rtp_header.specs.Text.{from_byte}
use Rattle.payload_join.specs.declared.front.Front.{Front}
use Rattle.payload_join.specs.declared.parts.Parts.{Parts}
use Rattle.payload_join.specs.Packet.{Packet, Extra, bytes_between}
use Rattle.payload_join.specs.Split.{starts_code, byte_onto, split_of}
use Rattle.payload_join.specs.Outgoing.{no_extra, front_of, padded_bytes, copied, header_copied, begins_picture, each_out, picture_out, begun_out, unit_out, out_by}
use Rattle.payload_join.specs.Fronts.{bytes_of_front, front_by, end_as, header_end}
use Rattle.payload_join.specs.Ring.{DescribesPacket, extra_one}
use Rattle.payload_join.specs.Giving.{fronted}

each_is : (p : Packet) (first other : Extra) (parts : List (List ℕ)) → each_out p first other parts
    ≡ fronted (front_of p first) (front_of p other) parts
each_is p first other [] = refl
each_is p first other (part ∷ parts) = refl

-- there is a part at least
some_part : (xs : List ℕ) → (part : List ℕ) × (parts : List (List ℕ)) × (split_of xs ≡ part ∷ parts)
unfolding split_of
some_part [] = ([], [], refl)
some_part (a ∷ []) = (a ∷ [], [], refl)
some_part (a ∷ b ∷ []) = (a ∷ b ∷ [], [], refl)
some_part (a ∷ b ∷ c ∷ xs) = at (starts_code a b c) refl
  where
    on : (parts : List (List ℕ)) → (part : List ℕ) × (more : List (List ℕ)) × (byte_onto a parts ≡ part ∷ more)
    on [] = (a ∷ [], [], refl)
    on (part ∷ parts) = (a ∷ part, parts, refl)

    at : (t : Bool) → starts_code a b c ≡ t → (part : List ℕ) × (parts : List (List ℕ))
        × (cond (starts_code a b c) ([] ∷ split_of (c ∷ xs)) (byte_onto a (split_of (b ∷ c ∷ xs))) ≡ part ∷ parts)
    at true is = ([], split_of (c ∷ xs), rw is refl)
    at false is = let o = on (split_of (b ∷ c ∷ xs)) in (o.0, o.1, rw is o.2)

short_out : (format : Format) (p : Packet) (coded : List ℕ) → length coded ≤ 65400
    → unit_out format p coded ≡ (cond (nat_lt 0 (length p.extra.bytes)) (each_out p p.extra p.extra (split_of coded))
    (cond (begins_picture coded) (begun_out format p coded (split_of coded))
    (each_out p no_extra no_extra (split_of coded))))
unfolding unit_out
short_out format p coded le = rw (le-ltb 65400 (length coded) le) refl

-- each part copies the extra header
pub with_extra : (format : Format) (p : Packet) (coded : List ℕ) → length coded ≤ 65400 → 0 < length p.extra.bytes
    → unit_out format p coded ≡ fronted (front_of p p.extra) (front_of p p.extra) (split_of coded)
with_extra format p coded le some =
    short_out format p coded le
    ∙ ap (λ (t : Bool). cond t (each_out p p.extra p.extra (split_of coded))
    (cond (begins_picture coded) (begun_out format p coded (split_of coded))
    (each_out p no_extra no_extra (split_of coded)))) (lt-ltb 0 (length p.extra.bytes) some)
    ∙ each_is p p.extra p.extra (split_of coded)

without : (format : Format) (p : Packet) (coded : List ℕ) → length coded ≤ 65400 → length p.extra.bytes ≡ 0
    → unit_out format p coded ≡ cond (begins_picture coded) (begun_out format p coded (split_of coded))
    (each_out p no_extra no_extra (split_of coded))
without format p coded le none =
    short_out format p coded le
    ∙ ap (λ (t : Bool). cond t (each_out p p.extra p.extra (split_of coded))
    (cond (begins_picture coded) (begun_out format p coded (split_of coded))
    (each_out p no_extra no_extra (split_of coded)))) (le-ltb 0 (length p.extra.bytes) (omega arith))

-- no part has one
pub with_none : (format : Format) (p : Packet) (coded : List ℕ) → length coded ≤ 65400 → length p.extra.bytes ≡ 0
    → begins_picture coded ≡ false
    → unit_out format p coded ≡ fronted (front_of p no_extra) (front_of p no_extra) (split_of coded)
with_none format p coded le none begins =
    without format p coded le none
    ∙ ap (λ (t : Bool). cond t (begun_out format p coded (split_of coded))
    (each_out p no_extra no_extra (split_of coded))) begins
    ∙ each_is p no_extra no_extra (split_of coded)

begun : (format : Format) (p : Packet) (coded : List ℕ) → length coded ≤ 65400 → length p.extra.bytes ≡ 0
    → begins_picture coded ≡ true → unit_out format p coded ≡ begun_out format p coded (split_of coded)
begun format p coded le none begins =
    without format p coded le none
    ∙ ap (λ (t : Bool). cond t (begun_out format p coded (split_of coded))
    (each_out p no_extra no_extra (split_of coded))) begins

-- a picture of one part
pub with_one : (format : Format) (p : Packet) (coded : List ℕ) → length coded ≤ 65400 → length p.extra.bytes ≡ 0
    → begins_picture coded ≡ true → split_of coded ≡ coded ∷ []
    → unit_out format p coded ≡ fronted (front_of p no_extra) (front_of p no_extra) (split_of coded)
with_one format p coded le none begins one =
    begun format p coded le none begins ∙ ap (begun_out format p coded) one
    ∙ ap (fronted (front_of p no_extra) (front_of p no_extra)) (sym one)

several : (format : Format) (p : Packet) (coded part rest : List ℕ) → split_of coded ≡ part ∷ split_of rest
    → begun_out format p coded (split_of coded) ≡ picture_out p coded (header_copied format coded)
several format p coded part rest cut =
    let o = some_part rest in
    let two : split_of coded ≡ part ∷ o.0 ∷ o.1 = cut ∙ ap (λ (l : List (List ℕ)). part ∷ l) o.2 in
    ap (begun_out format p coded) two

-- the header that is copied, by where it ends
ends_at : (coded : List ℕ) (r : Result (Header × Bits) Fault) (bits : ℕ) → end_as r ≡ Some bits
    → copied coded r ≡ Some (padded_bytes bits coded)
ends_at coded (Err fault) bits e = absurd cc
ends_at coded (Ok x) bits e = at (nat_le x.1.at (8 * 63)) e
  where
    at : (t : Bool) → cond t (Some x.1.at) None ≡ Some bits → cond t (Some (padded_bytes x.1.at coded)) None
        ≡ Some (padded_bytes bits coded)
    at true e = let same : x.1.at ≡ bits = cc in ap (λ (b : ℕ). Some (padded_bytes b coded)) same
    at false e = absurd cc

ends_nowhere : (coded : List ℕ) (r : Result (Header × Bits) Fault) → end_as r ≡ None → copied coded r ≡ None
ends_nowhere coded (Err fault) e = refl
ends_nowhere coded (Ok x) e = at (nat_le x.1.at (8 * 63)) e
  where
    at : (t : Bool) → cond t (Some x.1.at) None ≡ None → cond t (Some (padded_bytes x.1.at coded)) None ≡ None
    at true e = absurd cc
    at false e = refl

-- a picture of several parts
pub with_header : (format : Format) (p : Packet) (coded part rest : List ℕ) (bits : ℕ) → length coded ≤ 65400
    → length p.extra.bytes ≡ 0 → begins_picture coded ≡ true → split_of coded ≡ part ∷ split_of rest
    → Some bits ≡ header_end format coded
    → unit_out format p coded ≡ fronted (front_of p no_extra) (front_of p (padded_bytes bits coded)) (split_of coded)
unfolding header_end header_copied
with_header format p coded part rest bits le none begins cut ends =
    begun format p coded le none begins ∙ several format p coded part rest cut
    ∙ ap (picture_out p coded) (ends_at coded (reading (header format) (from_byte 0 coded)) bits (sym ends))
    ∙ each_is p no_extra (padded_bytes bits coded) (split_of coded)

-- the same without a header to be copied
pub with_no_header : (format : Format) (p : Packet) (coded part rest : List ℕ) → length coded ≤ 65400
    → length p.extra.bytes ≡ 0 → begins_picture coded ≡ true → split_of coded ≡ part ∷ split_of rest
    → None ≡ header_end format coded
    → unit_out format p coded ≡ (front_of p no_extra ++ coded) ∷ []
unfolding header_end header_copied
with_no_header format p coded part rest le none begins cut ends =
    begun format p coded le none begins ∙ several format p coded part rest cut
    ∙ ap (picture_out p coded) (ends_nowhere coded (reading (header format) (from_byte 0 coded)) (sym ends))

-- ---- the same by what was read of the first packet

pub short_between : (room : List ℕ) (to : ℕ) → to ≤ 65477 → length (bytes_between room 77 to) ≤ 65400
short_between room to le = omega (arith, length-take (to - 77) (drop 77 room))

-- the first part, and what is split after it
abbrev pub IsCut : List ℕ → Type 0
IsCut coded = (part : List ℕ) × (rest : List ℕ) × (split_of coded ≡ part ∷ split_of rest)

pub cut_found : (coded : List ℕ) (r : Option ℕ) → is_some r ≡ true
    → IfSome r (λ at. split_of coded ≡ take at coded ∷ split_of (drop (at + 2) coded)) → IsCut coded
cut_found coded None e some = absurd cc
cut_found coded (Some at) e some = (take at coded, drop (at + 2) coded, some)

front_same : (q : Parts) (p : Packet) (extra : Extra) → DescribesPacket q p → front_by q.sequence q.timestamp extra
    ≡ front_of p extra
front_same q p extra d = λ i. front_by (sym d.sequence i) (sym d.timestamp i) extra

pub by_extra : (format : Format) (coded : List ℕ) (o : Option Packet) (q : Parts) (front : Front) {extra : List ℕ}
    → (p : Packet) → o ≡ Some p → DescribesPacket q p → length coded ≤ 65400 → 0 < q.plen → extra ≡ extra_one o
    → bytes_of_front front ≡ front_by q.sequence q.timestamp (record { bytes = extra; pebit = q.pebit })
    → fronted (bytes_of_front front) (bytes_of_front front) (split_of coded) ≡ out_by format coded o
by_extra format coded o q front {extra} p is d le some extra_is front_is =
    let bytes : extra ≡ p.extra.bytes = extra_is ∙ ap extra_one is in
    let pebit = d.pebit some in
    let whole : bytes_of_front front ≡ front_of p p.extra = front_is
    ∙ (λ i. front_by q.sequence q.timestamp (record { bytes = bytes i; pebit = sym pebit i }))
    ∙ front_same q p p.extra d in
    let plen = d.plen in
    (λ i. fronted (whole i) (whole i) (split_of coded)) ∙ sym (with_extra format p coded le (omega arith))
    ∙ ap (out_by format coded) (sym is)

plain_is : (q : Parts) (p : Packet) (front : Front) → DescribesPacket q p
    → bytes_of_front front ≡ front_by q.sequence q.timestamp (record { bytes = []; pebit = 0 })
    → bytes_of_front front ≡ front_of p no_extra
plain_is q p front d e = e ∙ front_same q p no_extra d

pub by_none : (format : Format) (coded : List ℕ) (o : Option Packet) (q : Parts) (front : Front) → (p : Packet)
    → o ≡ Some p → DescribesPacket q p → length coded ≤ 65400 → q.plen ≤ 0
    → bytes_of_front front ≡ front_by q.sequence q.timestamp (record { bytes = []; pebit = 0 })
    → begins_picture coded ≡ false → fronted (bytes_of_front front) (bytes_of_front front) (split_of coded)
    ≡ out_by format coded o
by_none format coded o q front p is d le none front_is begins =
    let whole = plain_is q p front d front_is in let plen = d.plen in
    (λ i. fronted (whole i) (whole i) (split_of coded)) ∙ sym (with_none format p coded le (omega arith) begins)
    ∙ ap (out_by format coded) (sym is)

pub by_one : (format : Format) (coded : List ℕ) (o : Option Packet) (q : Parts) (front : Front) {now : List ℕ}
    → (p : Packet) → o ≡ Some p → DescribesPacket q p → length coded ≤ 65400 → q.plen ≤ 0
    → bytes_of_front front ≡ front_by q.sequence q.timestamp (record { bytes = []; pebit = 0 })
    → begins_picture coded ≡ true → now ≡ coded → split_of now ≡ now ∷ []
    → fronted (bytes_of_front front) (bytes_of_front front) (split_of coded) ≡ out_by format coded o
by_one format coded o q front p is d le none front_is begins same one =
    let whole = plain_is q p front d front_is in let plen = d.plen in
    let one' = subst (λ (l : List ℕ). split_of l ≡ l ∷ []) same one in
    (λ i. fronted (whole i) (whole i) (split_of coded)) ∙ sym (with_one format p coded le (omega arith) begins one')
    ∙ ap (out_by format coded) (sym is)

pub by_header : (format : Format) (coded : List ℕ) (o : Option Packet) (q : Parts) (front other : Front)
    (bits : ℕ) {now : List ℕ} → (p : Packet) → o ≡ Some p → DescribesPacket q p → length coded ≤ 65400 → q.plen ≤ 0
    → bytes_of_front front ≡ front_by q.sequence q.timestamp (record { bytes = []; pebit = 0 })
    → begins_picture coded ≡ true → now ≡ coded → IsCut now → Some bits ≡ header_end format now
    → bytes_of_front other ≡ front_by q.sequence q.timestamp (padded_bytes bits now)
    → fronted (bytes_of_front front) (bytes_of_front other) (split_of coded) ≡ out_by format coded o
by_header format coded o q front other bits {now} p is d le none front_is begins same cut ends other_is =
    let whole = plain_is q p front d front_is in let plen = d.plen in
    let others : bytes_of_front other ≡ front_of p (padded_bytes bits coded) = other_is
    ∙ ap (λ (l : List ℕ). front_by q.sequence q.timestamp (padded_bytes bits l)) same
    ∙ front_same q p (padded_bytes bits coded) d in
    let cut' : split_of coded ≡ cut.0 ∷ split_of cut.1 = ap split_of (sym same) ∙ cut.2 in
    (λ i. fronted (whole i) (others i) (split_of coded))
    ∙ sym (with_header format p coded cut.0 cut.1 bits le (omega arith) begins cut' (ends
    ∙ ap (header_end format) same)) ∙ ap (out_by format coded) (sym is)

pub by_no_header : (format : Format) (coded : List ℕ) (o : Option Packet) (q : Parts) (front : Front) {now : List ℕ}
    → (p : Packet) → o ≡ Some p → DescribesPacket q p → length coded ≤ 65400 → q.plen ≤ 0
    → bytes_of_front front ≡ front_by q.sequence q.timestamp (record { bytes = []; pebit = 0 })
    → begins_picture coded ≡ true → now ≡ coded → IsCut now → None ≡ header_end format now
    → (bytes_of_front front ++ coded) ∷ [] ≡ out_by format coded o
by_no_header format coded o q front p is d le none front_is begins same cut ends =
    let whole = plain_is q p front d front_is in let plen = d.plen in
    let cut' : split_of coded ≡ cut.0 ∷ split_of cut.1 = ap split_of (sym same) ∙ cut.2 in
    (λ i. (whole i ++ coded) ∷ []) ∙ sym (with_no_header format p coded cut.0 cut.1 le (omega arith) begins cut' (ends
    ∙ ap (header_end format) same)) ∙ ap (out_by format coded) (sym is)
