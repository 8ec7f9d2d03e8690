-- The start of a packet: the whole packet's header is the same, and it reads in one format at most.
use Rattle.std.proofs.Common.{◌≡◌, ◌↔◌, ◌⊎◌, ℕ, ◌*◌, ◌-◌, List, Option, Some, None, Bool, true, false, cond, Result, Ok, Err, refl, sym, ap, subst, ◌∙◌, inl, inr, length}
use Rattle.std.specs.Prelude.{◌==◌, nat_lt, IfOk}
use Rattle.std.specs.Result.{result_ok}
use Rattle.std.proofs.lemmas.Bool.{eqb-true}
use Rattle.h263_bits.specs.declared.fault.Fault.{Fault}
use Rattle.h263_bits.specs.declared.fault.FaultKind.TheVariants as faults
use Rattle.h263_bits.specs.Reading.{Bits, number_at, skip, ok, ◌>>=◌}
use Rattle.h263_bits.specs.Syntax.{Syntax, Allowed, any, only, field, part, Spells, reading, refused, field_at}
use Rattle.h263_bits.proofs.SyntaxLaws.{bind_ok, ok_is, allowed_ok, sound}
use Rattle.h263_types.specs.declared.format.Format.{Format}
use Rattle.h263_types.specs.declared.format.Format.TheVariants.{SubQcif, Qcif, Cif}
use Rattle.h263_types.specs.declared.blocks.Mb.{Mb}
use Rattle.picture_header.specs.declared.header.Header.{Header}
use Rattle.picture_header.specs.Text.{header, opening, plus_type, allowed_format, format_code, IsHeaderText}
use Rattle.rtp_header.specs.Faults.{rtp_in}
use Rattle.h263_payload.specs.declared.payload.Payload.{Payload}
use Rattle.h263_payload.specs.Text.{leading, IsExtra, IsPayload}
use Rattle.h263_payload.specs.Faults.{payload_at, payload_bits_of, extra_at, begun_as, begun_at, filled, first_bits, payload_fault_at}
use Rattle.packet_collector.specs.Packet.{PacketSlice, data_of, headed_at, with_header, slice_after, packet_at}
use Rattle.packet_start.specs.Start.{header_alone, start_at, header_or_else, start_in}

-- ---- the whole packet begins so

with_ok : (h : Header) (r : Result (ℕ × List Mb) Fault) (s : PacketSlice) → with_header h r ≡ Ok s → s.header ≡ h
with_ok h (Ok x) s e = ap (λ (t : PacketSlice). t.header)
    (sym (ok_is (record { header = h; first = x.0; mbs = x.1 }) s e))
with_ok h (Err fault) s e = absurd cc

pub starts_as_read : (format : Format) (bytes : List ℕ) (s : PacketSlice) → packet_at format bytes ≡ Ok s
    → start_at format bytes ≡ Ok s.header
unfolding packet_at slice_after start_at
starts_as_read format bytes s e =
    let one = bind_ok (rtp_in bytes) (λ r. payload_at format (payload_bits_of bytes r) >>= λ p. slice_after format p
    (data_of bytes r p)) s e in
    let r = one.0 in
    let two = bind_ok (payload_at format (payload_bits_of bytes r)) (λ p. slice_after format p (data_of bytes r p)) s
    one.2 in
    let p = two.0 in
    let three = bind_ok (headed_at format p.extra (data_of bytes r p)) _ s two.2 in
    rw (one.1, two.1, three.1) (ap ok (sym (with_ok three.0.0 _ s three.2)))

-- ---- what was read of a start

-- the RTP header, the payload's header, and the picture's
record Started (format : Format) (bytes : List ℕ) (h : Header) : Type 0 where
  rtp : _
  payload : Payload
  left : Bits
  is_rtp : rtp_in bytes ≡ Ok rtp
  is_payload : payload_at format (payload_bits_of bytes rtp) ≡ Ok payload
  headed : headed_at format payload.extra (data_of bytes rtp payload) ≡ Ok (h, left)

alone_ok : (r : Result (Header × Bits) Fault) (h : Header) → header_alone r ≡ Ok h → (left : Bits) × (r ≡ Ok (h, left))
alone_ok (Ok x) h e = (x.1, ap (λ (y : Header). ok (y, x.1)) (ok_is x.0 h e))
alone_ok (Err fault) h e = absurd cc

started : (format : Format) (bytes : List ℕ) (h : Header) → start_at format bytes ≡ Ok h → Started format bytes h
unfolding start_at
started format bytes h e =
    let one = bind_ok (rtp_in bytes) (λ r. payload_at format (payload_bits_of bytes r) >>=
    λ p. header_alone (headed_at format p.extra (data_of bytes r p))) h e in
    let r = one.0 in
    let two = bind_ok (payload_at format (payload_bits_of bytes r))
    (λ p. header_alone (headed_at format p.extra (data_of bytes r p))) h one.2 in
    let p = two.0 in
    let three = alone_ok (headed_at format p.extra (data_of bytes r p)) h two.2 in
    record { rtp = r; payload = p; left = three.0; is_rtp = one.1; is_payload = two.1; headed = three.1 }

-- ---- a header is of the format by which it was read

spelled_format : (format : Format) (h : Header) (bits : List Bool) → IsHeaderText format h bits → h.format ≡ format
unfolding header Spells
spelled_format format h bits t = ap (λ (x : Header). x.format) t.6.6.6.6.6.6.6.5.6.0

header_format : (format : Format) (b c : Bits) (h : Header) → reading (header format) b ≡ Ok (h, c) → h.format ≡ format
header_format format b c h e = let t = sound (header format) b c h e in spelled_format format h t.0 t.2

headed_format : (format : Format) (plen pebit : ℕ) (extra : Option Header) (middle : List Bool) (b c : Bits)
    (h : Header)
    → IsExtra format plen pebit extra middle → headed_at format extra b ≡ Ok (h, c) → h.format ≡ format
headed_format format plen pebit None middle b c h is e = header_format format b c h e
headed_format format plen pebit (Some x) middle b c h is e =
    ap (λ (y : Header × Bits). y.0.format) (sym (ok_is (x, b) (h, c) e)) ∙ spelled_format format x is.0 is.6

pub start_is_of_format : ((format : Format) (p : Payload) (b : Bits) → payload_at format b ≡ Ok p
    → IsPayload format p b)
    → (format : Format) (bytes : List ℕ) (h : Header) → start_at format bytes ≡ Ok h → h.format ≡ format
start_is_of_format texts format bytes h e =
    let s = started format bytes h e in
    let t = texts format s.payload (payload_bits_of bytes s.rtp) s.is_payload in
    headed_format format t.opening.plen t.opening.pebit s.payload.extra t.middle (data_of bytes s.rtp s.payload) s.left
    h t.extra s.headed

pub in_format : ((format : Format) (bytes : List ℕ) (h : Header) → start_at format bytes ≡ Ok h → h.format ≡ format)
    → (r : Result Header Fault) (format : Format) (bytes : List ℕ) → r ≡ start_at format bytes
    → IfOk r (λ h. h.format ≡ format)
in_format formats (Ok h) format bytes is = formats format bytes h (sym is)
in_format formats (Err fault) format bytes is = tt

-- ---- a header reads in one format at most

-- a part that was read, and then what is next
part_read : {S A : Type 0} (s : Syntax S) (allowed : Allowed S) (next : S → Syntax A) (b : Bits) (y : A × Bits)
    → reading (part s allowed next) b ≡ Ok y → (x : S × Bits) × (reading s b ≡ Ok x) × (reading (next x.0) x.1 ≡ Ok y)
unfolding reading
part_read s allowed next b y e =
    let one = bind_ok (reading s b) (λ x. refused (allowed x.0) b.at (reading (next x.0) x.1)) y e in
    (one.0, one.1, (allowed_ok (allowed one.0.0) b.at (reading (next one.0.0) one.0.1) y one.2).1)

field_read : {A : Type 0} (n : ℕ) (allowed : Allowed ℕ) (next : ℕ → Syntax A) (b : Bits) (y : A × Bits)
    → reading (field n allowed next) b ≡ Ok y → (x : ℕ × Bits) × (field_at n allowed b ≡ Ok x)
    × (reading (next x.0) x.1 ≡ Ok y)
unfolding reading
field_read n allowed next b y e = bind_ok (field_at n allowed b) (λ x. reading (next x.0) x.1) y e

-- the number of a field that was read is allowed
number_read : (n : ℕ) (allowed : Allowed ℕ) (b : Bits) (x : ℕ × Bits) → field_at n allowed b ≡ Ok x
    → (number_at n b ≡ Ok x) × (allowed x.0 ≡ None)
number_read n allowed b x e =
    let one = bind_ok (number_at n b) (λ v. refused (allowed v.0) b.at (Ok v)) x e in
    let two = allowed_ok (allowed one.0.0) b.at (ok one.0) x one.2 in
    let same = ok_is one.0 x two.1 in
    (one.1 ∙ two.1, ap (λ (v : ℕ × Bits). allowed v.0) (sym same) ∙ two.0)

code_is : (format : Format) (n : ℕ) → allowed_format format n ≡ None → n ≡ format_code format
code_is format n e = at (n == format_code format) (nat_lt 0 n) (nat_lt n 4) refl e
  where
    at : (t low high : Bool) → (n == format_code format) ≡ t
        → cond t None (cond low (cond high (Some faults.OtherFormat) (Some faults.SourceFormat))
        (Some faults.SourceFormat)) ≡ None → n ≡ format_code format
    at true low high is e = eqb-true n (format_code format) is
    at false true true is e = absurd cc
    at false true false is e = absurd cc
    at false false high is e = absurd cc

one_code : (a b : Format) → format_code a ≡ format_code b → a ≡ b
one_code SubQcif SubQcif e = refl
one_code SubQcif Qcif e = absurd cc
one_code SubQcif Cif e = absurd cc
one_code Qcif SubQcif e = absurd cc
one_code Qcif Qcif e = refl
one_code Qcif Cif e = absurd cc
one_code Cif SubQcif e = absurd cc
one_code Cif Qcif e = absurd cc
one_code Cif Cif e = refl

one_source : (a b : Format) (c : Bits) (x y : ℕ × Bits) → field_at 3 (allowed_format a) c ≡ Ok x
    → field_at 3 (allowed_format b) c ≡ Ok y → a ≡ b
one_source a b c x y p q =
    let u = number_read 3 (allowed_format a) c x p in
    let v = number_read 3 (allowed_format b) c y q in
    let same = ok_is x y (sym u.0 ∙ v.0) in
    one_code a b (sym (code_is a x.0 u.1) ∙ ap (λ (z : ℕ × Bits). z.0) same ∙ code_is b y.0 v.1)

one_type : (a b : Format) (c : Bits) (x y : _) → reading (plus_type a) c ≡ Ok x → reading (plus_type b) c ≡ Ok y → a ≡ b
unfolding plus_type
one_type a b c x y p q =
    let u = field_read 3 (only 1 faults.Ufep) _ c x p in
    let v = field_read 3 (only 1 faults.Ufep) _ c y q in
    let same = ok_is u.0 v.0 (sym u.1 ∙ v.1) in
    let s = field_read 3 (allowed_format a) _ u.0.1 x u.2 in
    let t = field_read 3 (allowed_format b) _ v.0.1 y v.2 in
    one_source a b v.0.1 s.0 t.0 (subst (λ (z : ℕ × Bits). field_at 3 (allowed_format a) z.1 ≡ Ok s.0) same s.1) t.1

one_header : (a b : Format) (c : Bits) (x y : Header × Bits) → reading (header a) c ≡ Ok x → reading (header b) c ≡ Ok y
    → a ≡ b
unfolding header
one_header a b c x y p q =
    let u = part_read opening any _ c x p in
    let v = part_read opening any _ c y q in
    let same = ok_is u.0 v.0 (sym u.1 ∙ v.1) in
    let s = part_read (plus_type a) any _ u.0.1 x u.2 in
    let t = part_read (plus_type b) any _ v.0.1 y v.2 in
    one_type a b v.0.1 s.0 t.0 (subst (λ (z : ℕ × Bits). reading (plus_type a) z.1 ≡ Ok s.0) same s.1) t.1

-- ---- and so does a start

filled_ok : (r : Result (Header × Bits) Fault) (extra : Option Header) → filled r ≡ Ok extra
    → (x : Header × Bits) × (r ≡ Ok x)
filled_ok (Ok x) extra e = (x, refl)
filled_ok (Err fault) extra e = absurd cc

-- the extra headers of two formats: each is none, or the formats are the same
one_extra : (a b : Format) (plen pebit : ℕ) (c : Bits) (m n : Option Header) → extra_at a plen pebit c ≡ Ok m
    → extra_at b plen pebit c ≡ Ok n
    → (a ≡ b) ⊎ ((m ≡ None) × (n ≡ None))
unfolding extra_at
one_extra a b plen pebit c m n p q = at (plen == 0) (nat_lt (length c.bits) (8 * plen)) p q
  where
    w : Bits
    w = first_bits (8 * plen - pebit) c

    at : (none short : Bool)
        → cond none (ok None) (cond short (payload_fault_at faults.Ended c.at) (filled (reading (header a) w))) ≡ Ok m
        → cond none (ok None) (cond short (payload_fault_at faults.Ended c.at) (filled (reading (header b) w))) ≡ Ok n
        → (a ≡ b) ⊎ ((m ≡ None) × (n ≡ None))
    at true short p q = inr (sym (ok_is None m p), sym (ok_is None n q))
    at false true p q = absurd cc
    at false false p q =
        let u = filled_ok (reading (header a) w) m p in
        let v = filled_ok (reading (header b) w) n q in
        inl (one_header a b w u.0 v.0 u.1 v.1)

begun_extra : (extra : Option Header) (at start : ℕ) (p : Payload) → begun_as extra at start ≡ Ok p → p.extra ≡ extra
begun_extra None at start p e = here (nat_lt start 2) (start == 2) e
  where
    here : (t u : Bool) → cond t (payload_fault_at faults.NoStart at)
        (cond u (ok (record { extra = None; begins = true; from = at }))
        (payload_fault_at {A = Payload} faults.NoExtraHeader at)) ≡ Ok p → p.extra ≡ None
    here true u e = absurd cc
    here false true e = ap (λ (x : Payload). x.extra)
        (sym (ok_is (record { extra = None; begins = true; from = at }) p e))
    here false false e = absurd cc
begun_extra (Some h) at start p e = here (nat_lt start 2) (start == 2) e
  where
    here : (t u : Bool) → cond t (payload_fault_at faults.NoStart at)
        (cond u (payload_fault_at {A = Payload} faults.ExtraHeader at)
        (ok (record { extra = Some h; begins = false; from = at }))) ≡ Ok p → p.extra ≡ Some h
    here true u e = absurd cc
    here false true e = absurd cc
    here false false e = ap (λ (x : Payload). x.extra)
        (sym (ok_is (record { extra = Some h; begins = false; from = at }) p e))

one_payload : (a b : Format) (c : Bits) (p q : Payload) → payload_at a c ≡ Ok p → payload_at b c ≡ Ok q
    → (a ≡ b) ⊎ ((p.extra ≡ None) × (p ≡ q))
unfolding payload_at begun_at
one_payload a b c p q e f =
    let u = bind_ok (reading leading c) (λ x. extra_at a x.0.plen x.0.pebit x.1 >>=
    λ extra. begun_at extra (skip (8 * x.0.plen) x.1)) p e in
    let v = bind_ok (reading leading c) (λ x. extra_at b x.0.plen x.0.pebit x.1 >>=
    λ extra. begun_at extra (skip (8 * x.0.plen) x.1)) q f in
    let o = u.0 in
    let same = ok_is u.0 v.0 (sym u.1 ∙ v.1) in
    let left = skip (8 * o.0.plen) o.1 in
    let s = bind_ok (extra_at a o.0.plen o.0.pebit o.1) (λ extra. begun_at extra left) p u.2 in
    let t = bind_ok (extra_at b o.0.plen o.0.pebit o.1) (λ extra. begun_at extra left) q
    (subst (λ (x : _). (extra_at b x.0.plen x.0.pebit x.1 >>= λ extra. begun_at extra (skip (8 * x.0.plen) x.1))
    ≡ Ok q) (sym same) v.2) in
    at s.0 t.0 left s.2 t.2 (one_extra a b o.0.plen o.0.pebit o.1 s.0 t.0 s.1 t.1)
  where
    at : (m n : Option Header) (left : Bits) → begun_at m left ≡ Ok p → begun_at n left ≡ Ok q
        → (a ≡ b) ⊎ ((m ≡ None) × (n ≡ None)) → (a ≡ b) ⊎ ((p.extra ≡ None) × (p ≡ q))
    at m n left e f (inl same) = inl same
    at m n left e f (inr none) =
        let alike = ok_is p q (sym e ∙ ap (λ (x : Option Header). begun_at x left) (none.0 ∙ sym none.1) ∙ f) in
        let one = bind_ok (number_at 2 left) (λ x. begun_as m left.at x.0) p e in
        inr (begun_extra m left.at one.0.0 p one.2 ∙ none.0, alike)

one_headed : (a b : Format) (extra : Option Header) (c : Bits) (x y : Header × Bits) → extra ≡ None
    → headed_at a extra c ≡ Ok x → headed_at b extra c ≡ Ok y → a ≡ b
one_headed a b None c x y is p q = one_header a b c x y p q
one_headed a b (Some h) c x y is p q = absurd cc

-- the same where the payload's headers differ in nothing but the formats by which they were read
one_after : (a b : Format) (bytes : List ℕ) (h : Header) (s : Started a bytes h) (q : Payload) (y : Header × Bits)
    → payload_at b (payload_bits_of bytes s.rtp) ≡ Ok q → headed_at b q.extra (data_of bytes s.rtp q) ≡ Ok y → a ≡ b
one_after a b bytes h s q y is headed = at (one_payload a b (payload_bits_of bytes s.rtp) s.payload q s.is_payload is)
  where
    at : (a ≡ b) ⊎ ((s.payload.extra ≡ None) × (s.payload ≡ q)) → a ≡ b
    at (inl same) = same
    at (inr alike) = one_headed a b s.payload.extra (data_of bytes s.rtp s.payload) (h, s.left) y alike.0 s.headed
        (subst (λ (x : Payload). headed_at b x.extra (data_of bytes s.rtp x) ≡ Ok y) (sym alike.1) headed)

pub one_format : (a b : Format) (bytes : List ℕ) (h k : Header) → start_at a bytes ≡ Ok h → start_at b bytes ≡ Ok k
    → a ≡ b
one_format a b bytes h k e f =
    let s = started a bytes h e in
    let t = started b bytes k f in
    let same = ok_is s.rtp t.rtp (sym s.is_rtp ∙ t.is_rtp) in
    one_after a b bytes h s t.payload (k, t.left)
    (subst (λ (r : _). payload_at b (payload_bits_of bytes r) ≡ Ok t.payload) (sym same) t.is_payload)
    (subst (λ (r : _). headed_at b t.payload.extra (data_of bytes r t.payload) ≡ Ok (k, t.left)) (sym same) t.headed)

-- ---- what is found

skipped : (r : Result Header Fault) (other : Option Header) → ((k : Header) → r ≡ Ok k → ⊥) → header_or_else r other
    ≡ other
skipped (Ok k) other none = absurd (none k refl)
skipped (Err fault) other none = refl

-- the start in the expected format is found
found_in : (bytes : List ℕ) (h : Header) (format : Format) → start_at format bytes ≡ Ok h → start_in bytes ≡ Some h
unfolding start_in
found_in bytes h SubQcif e = rw e refl
found_in bytes h Qcif e =
    skipped (start_at SubQcif bytes) _ (λ k is. apart (one_format SubQcif Qcif bytes k h is e)) ∙ rw e refl
  where
    apart : SubQcif ≡ Qcif → ⊥
    apart is = absurd cc
found_in bytes h Cif e =
    skipped (start_at SubQcif bytes) _ (λ k is. low (one_format SubQcif Cif bytes k h is e))
    ∙ skipped (start_at Qcif bytes) _ (λ k is. high (one_format Qcif Cif bytes k h is e)) ∙ rw e refl
  where
    low : SubQcif ≡ Cif → ⊥
    low is = absurd cc

    high : Qcif ≡ Cif → ⊥
    high is = absurd cc

-- what is found is the start in some format
found_of : (bytes : List ℕ) (h : Header) → start_in bytes ≡ Some h → (format : Format) × (start_at format bytes ≡ Ok h)
unfolding start_in
found_of bytes h e = first (start_at SubQcif bytes) (start_at Qcif bytes) (start_at Cif bytes) refl refl refl e
  where
    some_is : (x y : Header) → Some x ≡ Some y → x ≡ y
    some_is x y e = cc

    first : (r s t : Result Header Fault) → start_at SubQcif bytes ≡ r → start_at Qcif bytes ≡ s
        → start_at Cif bytes ≡ t
        → header_or_else r (header_or_else s (result_ok t)) ≡ Some h
        → (format : Format) × (start_at format bytes ≡ Ok h)
    first (Ok x) s t p q u e = (SubQcif, p ∙ ap ok (some_is x h e))
    first (Err f) (Ok x) t p q u e = (Qcif, q ∙ ap ok (some_is x h e))
    first (Err f) (Err g) (Ok x) p q u e = (Cif, u ∙ ap ok (some_is x h e))
    first (Err f) (Err g) (Err i) p q u e = absurd cc

pub found : ((format : Format) (bytes : List ℕ) (h : Header) → start_at format bytes ≡ Ok h → h.format ≡ format)
    → (bytes : List ℕ) (h : Header) → (start_in bytes ≡ Some h) ↔ (start_at h.format bytes ≡ Ok h)
found formats bytes h = (λ e. at (found_of bytes h e), λ e. found_in bytes h h.format e)
  where
    at : (format : Format) × (start_at format bytes ≡ Ok h) → start_at h.format bytes ≡ Ok h
    at is = subst (λ (f : Format). start_at f bytes ≡ Ok h) (sym (formats is.0 bytes h is.1)) is.1
