-- The rows of the table of faults.
use Rattle.std.proofs.Common.{◌≡◌, ℕ, zero, suc, ◌+◌, ◌-◌, ◌<◌, ◌≤◌, ◌^◌, Bool, true, false, cond, refl, sym, ap, subst, ◌∙◌, append_assoc, add_assoc, add-zero, arith, List, [], ◌∷◌, ◌++◌, length, Option, Some, None, Result, Ok, Err, inl, inr}
use Rattle.std.proofs.lemmas.Bool.{lt-ltb, le-ltb, ne_eqb}
use Rattle.std.proofs.lemmas.List.{append-nil, length-append}
use Rattle.h263_types.specs.declared.format.Format.{Format}
use Rattle.h263_types.specs.declared.format.Format.TheVariants.{SubQcif, Qcif, Cif}
use Rattle.h263_types.specs.declared.blocks.Mb.{Mb}
use Rattle.h263_types.specs.Sizes.{mbs_of}
use Rattle.h263_bits.specs.declared.fault.Fault.{Fault}
use Rattle.h263_bits.specs.declared.fault.FaultKind.{FaultKind}
use Rattle.h263_bits.specs.declared.fault.FaultKind.TheVariants as faults
use Rattle.h263_bits.specs.Bits.{spelled, fields}
use Rattle.h263_bits.specs.Reading.{Bits, err, ◌>>=◌}
use Rattle.h263_bits.specs.Syntax.{Syntax, Spells, reading, any, only, done, field, part}
use Rattle.h263_bits.specs.Elements.{HasFault}
use Rattle.h263_bits.proofs.SyntaxLaws.{stands, err_is, err_not_ok, bind_err, sound, complete, fault_found, first_fault_is, only_other, fault_here, fault_after_field, fault_in_part, fault_after_part, fault_of_text}
use Rattle.picture_header.specs.declared.header.Header.{Header}
use Rattle.picture_header.specs.Text.{allowed_quant}
use Rattle.macroblock_layer.specs.Laws.{MbLaws}
use Rattle.slice_layer.specs.Around.{Around, around, quant_after, next_mb}
use Rattle.slice_layer.specs.Head.{address_bits, allowed_first, slice_reference, first_head, place, tail, later_head, head_of_slice}
use Rattle.slice_layer.specs.Text.{is_padding, AreTexts, stops, mbs_at, first_with, body_at, slice_at}
use Rattle.slice_layer.specs.Written.{quant_after_all}
use Rattle.slice_layer.specs.Faults.{TailFaults, HasSliceFault, StopsAt, IsBodyFault, IsSliceFault, SliceFaults}
use Rattle.slice_layer.proofs.Heads.{reference_productive, place_productive, head_productive}
use Rattle.slice_layer.proofs.Marked.{mb_marked}

-- ---- after the picture header

-- a macroblock's number fits its field
zero_fits : (f : Format) → 0 < 2 ^ address_bits f
zero_fits SubQcif = omega arith
zero_fits Qcif = omega arith
zero_fits Cif = omega arith

first_marker : (h : Header) → HasFault (first_head h) (fields ((1, 0) ∷ [])) faults.Marker 0
unfolding first_head
first_marker h =
    fault_here 1 (only 1 faults.Marker) _ 0 [] faults.Marker (omega arith) refl

first_address : (h : Header) (n : ℕ) → n < 2 ^ address_bits h.format → (n ≡ 0 → ⊥)
    → HasFault (first_head h) (fields ((1, 1) ∷ (address_bits h.format, n) ∷ [])) faults.Address 1
unfolding first_head
first_address h n lt other =
    fault_after_field 1 (only 1 faults.Marker) _ 1 (fields (((address_bits h.format), n) ∷ [])) faults.Address 0
    (omega arith) refl
    (fault_here (address_bits h.format) (only 0 faults.Address) _ n [] faults.Address lt
    (only_other 0 n faults.Address other))

first_end : (h : Header)
    → HasFault (first_head h) (fields ((1, 1) ∷ (address_bits h.format, 0) ∷ (1, 0) ∷ [])) faults.Marker
    (1 + (address_bits h.format + 0))
unfolding first_head
first_end h =
    fault_after_field 1 (only 1 faults.Marker) _ 1 (fields (((address_bits h.format), 0) ∷ (1, 0) ∷ [])) faults.Marker
    ((address_bits h.format) + 0) (omega arith) refl
    (fault_after_field (address_bits h.format) (only 0 faults.Address) _ 0 (fields ((1, 0) ∷ [])) faults.Marker 0
    (zero_fits h.format) refl
    (fault_here 1 (only 1 faults.Marker) _ 0 [] faults.Marker (omega arith) refl))

-- ---- a later slice

past_later : (f : Format) (n : ℕ) → mbs_of f ≤ n → 0 < n → allowed_first f n ≡ Some faults.Address
past_later f n le some = rw (ne_eqb n 0 (λ e. omega (arith, e, some)), le-ltb n (mbs_of f) le) refl

some_mbs : (f : Format) → 0 < mbs_of f
some_mbs SubQcif = omega arith
some_mbs Qcif = omega arith
some_mbs Cif = omega arith

good_later : (f : Format) (n : ℕ) → 0 < n → n < mbs_of f → allowed_first f n ≡ None
good_later f n some lt = rw (ne_eqb n 0 (λ e. omega (arith, e, some)), lt-ltb n (mbs_of f) lt) refl

good_quant : (q : ℕ) → 0 < q → allowed_quant q ≡ None
good_quant q some = rw (ne_eqb q 0 (λ e. omega (arith, e, some))) refl

place_start : (f : Format) → HasFault (place f) (fields ((1, 0) ∷ [])) faults.NoStart 0
unfolding place
place_start f =
    fault_here 1 (only 1 faults.NoStart) _ 0 [] faults.NoStart (omega arith) refl

place_marker : (f : Format) → HasFault (place f) (fields ((1, 1) ∷ (1, 0) ∷ [])) faults.Marker 1
unfolding place
place_marker f =
    fault_after_field 1 (only 1 faults.NoStart) _ 1 (fields ((1, 0) ∷ [])) faults.Marker 0 (omega arith) refl
    (fault_here 1 (only 1 faults.Marker) _ 0 [] faults.Marker (omega arith) refl)

place_first : (f : Format) → HasFault (place f) (fields ((1, 1) ∷ (1, 1) ∷ (address_bits f, 0) ∷ [])) faults.Address 2
unfolding place
place_first f =
    fault_after_field 1 (only 1 faults.NoStart) _ 1 (fields ((1, 1) ∷ ((address_bits f), 0) ∷ [])) faults.Address 1
    (omega arith) refl
    (fault_after_field 1 (only 1 faults.Marker) _ 1 (fields (((address_bits f), 0) ∷ [])) faults.Address 0 (omega arith)
    refl
    (fault_here (address_bits f) (allowed_first f) _ 0 [] faults.Address (zero_fits f) refl))

place_past : (f : Format) (n : ℕ) → mbs_of f ≤ n → n < 2 ^ address_bits f
    → HasFault (place f) (fields ((1, 1) ∷ (1, 1) ∷ (address_bits f, n) ∷ [])) faults.Address 2
unfolding place
place_past f n le lt =
    fault_after_field 1 (only 1 faults.NoStart) _ 1 (fields ((1, 1) ∷ ((address_bits f), n) ∷ [])) faults.Address 1
    (omega arith) refl
    (fault_after_field 1 (only 1 faults.Marker) _ 1 (fields (((address_bits f), n) ∷ [])) faults.Address 0 (omega arith)
    refl
    (fault_here (address_bits f) (allowed_first f) _ n [] faults.Address lt
    (past_later f n le (omega (arith, some_mbs f, le)))))

place_quant : (f : Format) (n : ℕ) → 0 < n → n < mbs_of f → n < 2 ^ address_bits f
    → HasFault (place f) (fields ((1, 1) ∷ (1, 1) ∷ (address_bits f, n) ∷ (5, 0) ∷ [])) faults.Quant
    (1 + (1 + (address_bits f + 0)))
unfolding place
place_quant f n some lt fits =
    fault_after_field 1 (only 1 faults.NoStart) _ 1 (fields ((1, 1) ∷ ((address_bits f), n) ∷ (5, 0) ∷ [])) faults.Quant
    (1 + ((address_bits f) + 0)) (omega arith) refl
    (fault_after_field 1 (only 1 faults.Marker) _ 1 (fields (((address_bits f), n) ∷ (5, 0) ∷ [])) faults.Quant
    ((address_bits f) + 0) (omega arith) refl
    (fault_after_field (address_bits f) (allowed_first f) _ n (fields ((5, 0) ∷ [])) faults.Quant 0 fits
    (good_later f n some lt)
    (fault_here 5 allowed_quant _ 0 [] faults.Quant (omega arith) refl)))

place_end : (f : Format) (n q : ℕ) → 0 < n → n < mbs_of f → n < 2 ^ address_bits f → 0 < q → q < 32
    → HasFault (place f) (fields ((1, 1) ∷ (1, 1) ∷ (address_bits f, n) ∷ (5, q) ∷ (1, 0) ∷ [])) faults.Marker
    (1 + (1 + (address_bits f + 5)))
unfolding place
place_end f n q some lt fits more small =
    fault_after_field 1 (only 1 faults.NoStart) _ 1 (fields ((1, 1) ∷ ((address_bits f), n) ∷ (5, q) ∷ (1, 0) ∷ []))
    faults.Marker (1 + ((address_bits f) + 5)) (omega arith) refl
    (fault_after_field 1 (only 1 faults.Marker) _ 1 (fields (((address_bits f), n) ∷ (5, q) ∷ (1, 0) ∷ []))
    faults.Marker ((address_bits f) + 5) (omega arith) refl
    (fault_after_field (address_bits f) (allowed_first f) _ n (fields ((5, q) ∷ (1, 0) ∷ [])) faults.Marker 5 fits
    (good_later f n some lt)
    (fault_after_field 5 allowed_quant _ q (fields ((1, 0) ∷ [])) faults.Marker 0 small (good_quant q more)
    (fault_here 1 (only 1 faults.Marker) _ 0 [] faults.Marker (omega arith) refl))))

-- ---- GFID, TRI, TRPI and TRP, BCI

tail_tri : (trp : Option ℕ) (gfid : ℕ) → gfid < 4
    → HasFault (tail trp) (fields ((2, gfid) ∷ (1, 1) ∷ [])) faults.SliceReference 2
unfolding tail
tail_tri trp gfid lt =
    fault_after_field 2 any _ gfid (fields ((1, 1) ∷ [])) faults.SliceReference 0 lt refl
    (fault_here 1 (only 0 faults.SliceReference) _ 1 [] faults.SliceReference (omega arith) refl)

refers_intra : HasFault (slice_reference None) (fields ((1, 1) ∷ [])) faults.SliceReference 0
unfolding slice_reference
refers_intra =
    fault_here 1 (only 0 faults.SliceReference) _ 1 [] faults.SliceReference (omega arith) refl

refers_inter : (trp : ℕ) → HasFault (slice_reference (Some trp)) (fields ((1, 0) ∷ [])) faults.SliceReference 0
unfolding slice_reference
refers_inter trp =
    fault_here 1 (only 1 faults.SliceReference) _ 0 [] faults.SliceReference (omega arith) refl

refers_other : (trp n : ℕ) → n < 1024 → (n ≡ trp → ⊥)
    → HasFault (slice_reference (Some trp)) (fields ((1, 1) ∷ (10, n) ∷ [])) faults.SliceReference 1
unfolding slice_reference
refers_other trp n lt other =
    fault_after_field 1 (only 1 faults.SliceReference) _ 1 (fields ((10, n) ∷ [])) faults.SliceReference 0 (omega arith)
    refl
    (fault_here 10 (only trp faults.SliceReference) _ n [] faults.SliceReference lt
    (only_other trp n faults.SliceReference other))

-- one field as a text of its own
one_field : (n v : ℕ) (text : List Bool) → fields ((n, v) ∷ []) ++ text ≡ spelled n v ++ text
one_field n v text = ap (λ (t : List Bool). t ++ text) (append-nil (spelled n v))

-- what stands after GFID and TRI
abbrev after_gfid : Option ℕ → Syntax (Unit {0})
after_gfid trp = part (slice_reference trp) any λ again. field 2 (only 1 faults.Bci) λ bci. done tt

after_tri : (trp : Option ℕ) (gfid : ℕ) (text : List Bool) (kind : FaultKind) (place : ℕ) → gfid < 4
    → HasFault (after_gfid trp) text kind place
    → HasFault (tail trp) (fields ((2, gfid) ∷ []) ++ (fields ((1, 0) ∷ []) ++ text)) kind (2 + (1 + place))
unfolding tail
after_tri trp gfid text kind place lt h =
    let same : spelled 2 gfid ++ (spelled 1 0 ++ text) ≡ fields ((2, gfid) ∷ []) ++ (fields ((1, 0) ∷ []) ++ text) =
    sym (one_field 2 gfid (fields ((1, 0) ∷ []) ++ text)
    ∙ ap (λ (t : List Bool). spelled 2 gfid ++ t) (one_field 1 0 text)) in
    fault_of_text (tail trp) (spelled 2 gfid ++ (spelled 1 0 ++ text)) (fields ((2, gfid) ∷ [])
    ++ (fields ((1, 0) ∷ []) ++ text)) kind (2 + (1 + place)) same
    (fault_after_field 2 any _ gfid (spelled 1 0 ++ text) kind (1 + place) lt refl
    (fault_after_field 1 (only 0 faults.SliceReference) _ 0 text kind place (omega arith) refl h))

tail_reference : (trp : Option ℕ) (gfid : ℕ) (text : List Bool) (kind : FaultKind) (place : ℕ) → gfid < 4
    → HasFault (slice_reference trp) text kind place
    → HasFault (tail trp) (fields ((2, gfid) ∷ []) ++ (fields ((1, 0) ∷ []) ++ text)) kind (2 + (1 + place))
tail_reference trp gfid text kind place lt h = after_tri trp gfid text kind place lt
    (fault_in_part (slice_reference trp) any _ text kind place h)

tail_bci : (trp : Option ℕ) (gfid n : ℕ) (a : List Bool) → gfid < 4 → n < 4 → (n ≡ 1 → ⊥)
    → Spells (slice_reference trp) tt a
    → HasFault (tail trp) (fields ((2, gfid) ∷ []) ++ (fields ((1, 0) ∷ []) ++ (a ++ fields ((2, n) ∷ [])))) faults.Bci
    (2 + (1 + (length a + 0)))
tail_bci trp gfid n a lt small other spelt =
    after_tri trp gfid (a ++ fields ((2, n) ∷ [])) faults.Bci (length a + 0) lt
    (fault_after_part (slice_reference trp) any _ tt a (fields ((2, n) ∷ [])) faults.Bci 0 (reference_productive trp)
    spelt
    refl
    (fault_here 2 (only 1 faults.Bci) _ n [] faults.Bci small (only_other 1 n faults.Bci other)))

tail_faults : TailFaults
tail_faults = record {
  tri = tail_tri;
  intra = refers_intra;
  inter = refers_inter;
  other = refers_other;
  of_reference = tail_reference;
  bci = tail_bci;
}

later_place : (h : Header) (text : List Bool) (kind : FaultKind) (at : ℕ) → HasFault (place h.format) text kind at
    → HasFault (later_head h) text kind at
unfolding later_head
later_place h text kind at e = fault_in_part (place h.format) any _ text kind at e

later_tail : (h : Header) (first quant : ℕ) (a text : List Bool) (kind : FaultKind) (at : ℕ)
    → Spells (place h.format) (first, quant) a → HasFault (tail h.trp) text kind at
    → HasFault (later_head h) (a ++ text) kind (length a + at)
unfolding later_head
later_tail h first quant a text kind at spelt e =
    fault_after_part (place h.format) any _ (first, quant) a text kind at (place_productive h.format) spelt refl
    (fault_in_part (tail h.trp) any _ text kind at e)

-- ---- the macroblocks

-- macroblocks that are spelled are read, and the reader goes on after them
mbs_after : MbLaws → (a : Around) (new : List Mb) (room quant at : ℕ) (before : List Mb) (text rest : List Bool)
    → AreTexts a quant before new text
    → mbs_at a (length new + room) quant before (record { at = at; bits = text ++ rest })
    ≡ mbs_at a room (quant_after_all quant new) (before ++ new) (record { at = at + length text; bits = rest })
unfolding mbs_at AreTexts
mbs_after laws a [] room quant at before text rest h =
    let none : 0 + room ≡ room = omega arith in
    rw (h, none, append-nil before, add-zero at) refl
mbs_after laws a (m ∷ new) room quant at before text rest h =
    let front = h.0 in
    let tail = h.1 in
    let reach = a.reaches (a.first + length before) in
    let e : text ++ rest ≡ front ++ (tail ++ rest) = ap (λ (x : List Bool). x ++ rest) h.2
    ∙ append_assoc front tail rest in
    let len : length text ≡ length front + length tail = ap length h.2 ∙ length-append front tail in
    let marked = mb_marked a.kind quant reach (a.predictor before) m front (tail ++ rest) h.3 in
    let one = complete (next_mb a quant before) m front (tail ++ rest) at
    (laws.productive a.kind quant reach (a.predictor before)) h.3 in
    let all : (before ++ m ∷ []) ++ new ≡ before ++ (m ∷ new) = append_assoc before (m ∷ []) new in
    let more = mbs_after laws a new room (quant_after quant m) (at + length front) (before ++ m ∷ []) tail rest h.4 in
    let rooms : length (m ∷ new) + room ≡ suc (length new + room) = omega arith in
    rw (rooms, e, marked, one, more, all, len, add_assoc at (length front) (length tail)) refl

-- no macroblock has no text
no_texts : (a : Around) (quant : ℕ) (mbs : List Mb) (texts : List Bool) → mbs ≡ [] → AreTexts a quant [] mbs texts
    → texts ≡ []
unfolding AreTexts
no_texts a quant [] texts e h = h
no_texts a quant (m ∷ mbs) texts e h = absurd cc

in_head : (h : Header) (begins : Bool) (b : Bits) (d : Fault) → reading (head_of_slice h begins) b ≡ Err d
    → slice_at h begins b ≡ Err d
unfolding slice_at
in_head h begins b d e = rw e refl

stops_empty : (a : Around) (room quant at : ℕ) (padding : List Bool) → is_padding padding ≡ true
    → mbs_at a room quant [] (record { at = at; bits = padding }) ≡ Err (record { kind = faults.Empty; at = at })
unfolding mbs_at
stops_empty a zero quant at padding z = rw z refl
stops_empty a (suc room) quant at padding z = rw z refl

stops_full : (a : Around) (quant at : ℕ) (before : List Mb) (rest : List Bool) → is_padding rest ≡ false
    → mbs_at a 0 quant before (record { at = at; bits = rest }) ≡ Err (record { kind = faults.Trailing; at = at })
unfolding mbs_at
stops_full a quant at before rest z = rw z refl

stops_in_mb : (a : Around) (room quant at place : ℕ) (before : List Mb) (bits : List Bool) (kind : FaultKind)
    → is_padding bits ≡ false → reading (next_mb a quant before) (record { at = at; bits = bits })
    ≡ Err (record { kind = kind; at = place })
    → mbs_at a (suc room) quant before (record { at = at; bits = bits }) ≡ Err (record { kind = kind; at = place })
unfolding mbs_at
stops_in_mb a room quant at place before bits kind z e = rw (z, e) refl

-- ---- the whole slice

head_row : (h : Header) (begins : Bool) (text : List Bool) (kind : FaultKind) (place : ℕ)
    → HasFault (head_of_slice h begins) text kind place → HasSliceFault h begins text kind place
unfolding slice_at
head_row h begins text kind place e = λ at rest. rw (e at rest) refl

-- after its header a slice has the fault of its macroblocks
after_head : (h : Header) (begins : Bool) (first quant at : ℕ) (front rest : List Bool) (kind : FaultKind) (place : ℕ)
    → Spells (head_of_slice h begins) (first, quant) front
    → mbs_at (around h first) (mbs_of h.format - first) quant [] (record { at = at + length front; bits = rest })
    ≡ Err (record { kind = kind; at = place })
    → slice_at h begins (record { at = at; bits = front ++ rest }) ≡ Err (record { kind = kind; at = place })
unfolding slice_at
after_head h begins first quant at front rest kind place spelt e =
    rw (complete (head_of_slice h begins) (first, quant) front rest at (head_productive h begins) spelt, e) refl

empty_row : (h : Header) (begins : Bool) (first quant at : ℕ) (front padding : List Bool)
    → Spells (head_of_slice h begins) (first, quant) front → is_padding padding ≡ true
    → slice_at h begins (record { at = at; bits = front ++ padding })
    ≡ Err (record { kind = faults.Empty; at = at + length front })
empty_row h begins first quant at front padding spelt z = after_head h begins first quant at front padding faults.Empty
    (at + length front) spelt (stops_empty (around h first) (mbs_of h.format - first) quant (at + length front) padding
    z)

trailing_row : MbLaws → (h : Header) (begins : Bool) (first quant at : ℕ) (mbs : List Mb) (front texts rest : List Bool)
    → Spells (head_of_slice h begins) (first, quant) front → AreTexts (around h first) quant [] mbs texts
    → length mbs ≡ mbs_of h.format - first → is_padding rest ≡ false
    → slice_at h begins (record { at = at; bits = front ++ (texts ++ rest) })
    ≡ Err (record { kind = faults.Trailing; at = at + length front + length texts })
trailing_row laws h begins first quant at mbs front texts rest spelt each full z =
    let a = around h first in
    let on = mbs_after laws a mbs 0 quant (at + length front) [] texts rest each in
    let room : mbs_of h.format - first ≡ length mbs + 0 = omega (arith, full) in
    let found : mbs_at a (mbs_of h.format - first) quant [] (record { at = at + length front; bits = texts ++ rest })
    ≡ Err (record { kind = faults.Trailing; at = at + length front + length texts }) =
    ap (λ (n : ℕ). mbs_at a n quant [] (record { at = at + length front; bits = texts ++ rest })) room ∙ on
    ∙ stops_full a (quant_after_all quant mbs) (at + length front + length texts) mbs rest z in
    after_head h begins first quant at front (texts ++ rest) faults.Trailing (at + length front + length texts) spelt
    found

mb_row : MbLaws → (h : Header) (begins : Bool) (first quant : ℕ) (mbs : List Mb) (front texts text : List Bool)
    (kind : FaultKind) (place : ℕ) → Spells (head_of_slice h begins) (first, quant) front
    → AreTexts (around h first) quant [] mbs texts
    → length mbs < mbs_of h.format - first
    → HasFault (next_mb (around h first) (quant_after_all quant mbs) mbs) text kind place
    → ((rest : List Bool) → is_padding (text ++ rest) ≡ false)
    → HasSliceFault h begins (front ++ (texts ++ text)) kind (length front + (length texts + place))
mb_row laws h begins first quant mbs front texts text kind place spelt each lt e some = λ at rest.
    let a = around h first in
    let left = mbs_of h.format - first - length mbs - 1 in
    let on = mbs_after laws a mbs (suc left) quant (at + length front) [] texts (text ++ rest) each in
    let room : mbs_of h.format - first ≡ length mbs + suc left = omega (arith, lt) in
    let there : at + length front + length texts + place ≡ at + (length front + (length texts + place)) = omega arith in
    let found : mbs_at a (mbs_of h.format - first) quant [] (record {
      at = at + length front;
      bits = texts ++ (text ++ rest);
    }) ≡ Err (record { kind = kind; at = at + length front + length texts + place })
    =
    ap (λ (n : ℕ). mbs_at a n quant [] (record { at = at + length front; bits = texts ++ (text ++ rest) })) room ∙ on
    ∙ stops_in_mb a left (quant_after_all quant mbs) (at + length front + length texts)
    (at + length front + length texts + place) mbs (text ++ rest) kind (some rest)
    (e (at + length front + length texts) rest) in
    let parts : (front ++ (texts ++ text)) ++ rest ≡ front ++ (texts ++ (text ++ rest)) = append_assoc front (texts
    ++ text) rest ∙ ap (λ (t : List Bool). front ++ t) (append_assoc texts text rest) in
    ap (λ (t : List Bool). slice_at h begins (record { at = at; bits = t })) parts
    ∙ after_head h begins first quant at front (texts ++ (text ++ rest)) kind (at + length front + length texts + place)
    spelt found
    ∙ ap (λ (k : ℕ). err (stands kind k)) there

-- ---- the first fault of a slice, said of its elements

stop_again : (a : Around) (quant count room : ℕ) (all : List Mb) (b : Bits) (d : Fault)
    → StopsAt a quant count room all b d → StopsAt a quant (suc count) (suc room) all b d
stop_again a quant count room all b d (inl h) = inl h
stop_again a quant count room all b d (inr (inl h)) = inr (inl (ap (λ (n : ℕ). suc n) h.0, h.1, h.2))
stop_again a quant count room all b d (inr (inr h)) = inr (inr (omega (arith, h.0), h.1, h.2))

-- where the reader stops at once
stops_here : (a : Around) (quant room : ℕ) (before : List Mb) (b : Bits) (d : Fault) → StopsAt a quant 0 room before b d
    → IsBodyFault a quant room before b d
unfolding AreTexts
stops_here a quant room before b d h = record {
  mbs = [];
  texts = [];
  left = b.bits;
  parts = refl;
  each = refl;
  stops = subst (λ (l : List Mb). StopsAt a quant 0 room l (record { at = b.at + 0; bits = b.bits }) d)
      (sym (append-nil before))
      (subst (λ (k : ℕ). StopsAt a quant 0 room before (record { at = k; bits = b.bits }) d) (sym (add-zero b.at)) h);
}

empty_is : (before : List Mb) (b : Bits) (d : Fault) → stops before b ≡ Err d
    → (before ≡ []) × (d ≡ stands faults.Empty b.at)
empty_is [] b d e = (refl, sym (err_is {A = List Mb} (stands faults.Empty b.at) d e))
empty_is (m ∷ before) b d e = absurd (err_not_ok d (m ∷ before) (sym e))

mbs_fault : MbLaws → (a : Around) (room quant : ℕ) (before : List Mb) (b : Bits) (d : Fault)
    → mbs_at a room quant before b ≡ Err d → IsBodyFault a quant room before b d
unfolding mbs_at AreTexts
mbs_fault laws a zero quant before b d e = at_end (is_padding b.bits) refl e
  where
    at_end : (t : Bool) → is_padding b.bits ≡ t → cond t (stops before b) (err (stands faults.Trailing b.at)) ≡ err d
        → IsBodyFault a quant zero before b d
    at_end true z e = let f = empty_is before b d e in stops_here a quant zero before b d (inl (f.0, z, f.1))
    at_end false z e = stops_here a quant zero before b d
        (inr (inl (refl, z, sym (err_is {A = List Mb} (stands faults.Trailing b.at) d e))))
mbs_fault laws a (suc room) quant before b d e = at_end (is_padding b.bits) refl e
    (λ m c h. mbs_fault laws a room (quant_after quant m) (before ++ m ∷ []) c d h)
  where
    at_end : (t : Bool) → is_padding b.bits ≡ t
        → cond t (stops before b) (reading (next_mb a quant before) b >>= λ x. mbs_at a room (quant_after quant x.0)
        (before ++ x.0 ∷ []) x.1) ≡ err d
        → ((m : Mb) (c : Bits) → mbs_at a room (quant_after quant m) (before ++ m ∷ []) c ≡ Err d
        → IsBodyFault a (quant_after quant m) room (before ++ m ∷ []) c d)
        → IsBodyFault a quant (suc room) before b d
    at_end true z e more = let f = empty_is before b d e in stops_here a quant (suc room) before b d (inl (f.0, z, f.1))
    at_end false z e more =
        elim (bind_err (reading (next_mb a quant before) b) (λ x. mbs_at a room (quant_after quant x.0) (before
        ++ x.0 ∷ []) x.1) d e) [
          | inl h ↦
              let first = fault_found (next_mb a quant before) b d
              (laws.productive a.kind quant (a.reaches (a.first + length before)) (a.predictor before)) h in
              stops_here a quant (suc room) before b d (inr (inr (omega arith, z, first)))
          | inr h ↦
              let m = h.0.0 in
              let c = h.0.1 in
              let t = sound (next_mb a quant before) b c m h.1 in
              let r = more m c h.2 in
              let all : (before ++ m ∷ []) ++ r.mbs ≡ before ++ (m ∷ r.mbs) = append_assoc before (m ∷ []) r.mbs in
              let place : c.at + length r.texts ≡ b.at + length (t.0 ++ r.texts) = omega (
                arith,
                t.1.at,
                length-append t.0 r.texts,
              ) in
              let q = quant_after_all (quant_after quant m) r.mbs in
              let on = stop_again a q (length r.mbs) room ((before ++ m ∷ [])
              ++ r.mbs) (record { at = c.at + length r.texts; bits = r.left }) d r.stops in
              let moved = subst (λ (l : List Mb). StopsAt a q (suc (length r.mbs)) (suc room) l
              (record { at = c.at + length r.texts; bits = r.left }) d) all on in
              record {
                mbs = m ∷ r.mbs;
                texts = t.0 ++ r.texts;
                left = r.left;
                parts = t.1.parts ∙ ap (λ (x : List Bool). t.0 ++ x) r.parts ∙ sym (append_assoc t.0 r.texts r.left);
                each = (t.0, r.texts, refl, t.2, r.each);
                stops = subst (λ (k : ℕ). StopsAt a q (suc (length r.mbs)) (suc room) (before ++ (m ∷ r.mbs))
                    (record { at = k; bits = r.left }) d) place moved;
              }
        ]

-- and the other way round
mbs_fault_again : MbLaws → (a : Around) (room quant : ℕ) (b : Bits) (d : Fault) → IsBodyFault a quant room [] b d
    → mbs_at a room quant [] b ≡ Err d
mbs_fault_again laws a room quant b d is = whole ∙ at_stop is.stops
  where
    whole : mbs_at a room quant [] b ≡ mbs_at a room quant [] (record { at = b.at; bits = is.texts ++ is.left })
    whole = ap (λ (t : List Bool). mbs_at a room quant [] (record { at = b.at; bits = t })) is.parts

    after : (more : ℕ) → length is.mbs + more ≡ room
        → mbs_at a room quant [] (record { at = b.at; bits = is.texts ++ is.left })
        ≡ mbs_at a more (quant_after_all quant is.mbs) is.mbs (record { at = b.at + length is.texts; bits = is.left })
    after more e =
        ap (λ (n : ℕ). mbs_at a n quant [] (record { at = b.at; bits = is.texts ++ is.left })) (sym e)
        ∙ mbs_after laws a is.mbs more quant b.at [] is.texts is.left is.each

    none : is.mbs ≡ [] → is.texts ≡ []
    none e = no_texts a quant is.mbs is.texts e is.each

    at_stop : StopsAt a (quant_after_all quant is.mbs) (length is.mbs) room is.mbs
        (record { at = b.at + length is.texts; bits = is.left }) d
        → mbs_at a room quant [] (record { at = b.at; bits = is.texts ++ is.left }) ≡ Err d
    at_stop (inl h) =
        let texts = none h.0 in
        let bits : is.texts ++ is.left ≡ is.left = ap (λ (t : List Bool). t ++ is.left) texts in
        let place : b.at ≡ b.at + length is.texts = sym (add-zero b.at)
        ∙ ap (λ (t : List Bool). b.at + length t) (sym texts) in
        ap (λ (t : List Bool). mbs_at a room quant [] (record { at = b.at; bits = t })) bits
        ∙ stops_empty a room quant b.at is.left h.1
        ∙ ap (λ (k : ℕ). err (stands faults.Empty k)) place ∙ ap (λ (f : Fault). err f) (sym h.2)
    at_stop (inr (inl h)) = after 0 (omega (arith, h.0))
        ∙ stops_full a (quant_after_all quant is.mbs) (b.at + length is.texts) is.mbs is.left h.1
        ∙ ap (λ (f : Fault). err f) (sym h.2)
    at_stop (inr (inr h)) =
        let q = quant_after_all quant is.mbs in
        let c : Bits = record { at = b.at + length is.texts; bits = is.left } in
        let read = (first_fault_is (next_mb a q is.mbs) c d
        (laws.productive a.kind q (a.reaches (a.first + length is.mbs)) (a.predictor is.mbs))).1 h.2 in
        let left = room - length is.mbs - 1 in
        after (suc left) (omega (arith, h.0))
        ∙ stops_in_mb a left q (b.at + length is.texts) d.at is.mbs is.left d.kind h.1 read

numbered_err : (first : ℕ) (r : Result (List Mb) Fault) (d : Fault) → first_with first r ≡ Err d → r ≡ Err d
numbered_err first (Ok mbs) d e = absurd (err_not_ok d (first, mbs) (sym e))
numbered_err first (Err fault) d e = ap (λ (f : Fault). err {A = List Mb} f) (err_is {A = ℕ × List Mb} fault d e)

slice_fault_found : MbLaws → (h : Header) (begins : Bool) (b : Bits) (d : Fault) → slice_at h begins b ≡ Err d
    → IsSliceFault h begins b d
unfolding slice_at
slice_fault_found laws h begins b d e =
    elim (bind_err (reading (head_of_slice h begins) b) (λ x. body_at h x.0.0 x.0.1 x.1) d e) [
      | inl f ↦ inl (fault_found (head_of_slice h begins) b d (head_productive h begins) f)
      | inr f ↦
          let first = f.0.0.0 in
          let quant = f.0.0.1 in
          let c = f.0.1 in
          let t = sound (head_of_slice h begins) b c (first, quant) f.1 in
          let body = mbs_fault laws (around h first) (mbs_of h.format - first) quant [] c d
          (numbered_err first (mbs_at (around h first) (mbs_of h.format - first) quant [] c) d f.2) in
          inr (
            first,
            quant,
            t.0,
            c.bits,
            t.2,
            t.1.parts,
            subst (λ (k : ℕ). IsBodyFault (around h first) quant (mbs_of h.format - first) [] (record {
              at = k;
              bits = c.bits;
            }) d) t.1.at body,
          )
    ]

slice_fault_again : MbLaws → (h : Header) (begins : Bool) (b : Bits) (d : Fault) → IsSliceFault h begins b d
    → slice_at h begins b ≡ Err d
slice_fault_again laws h begins b d (inl f) =
    in_head h begins b d ((first_fault_is (head_of_slice h begins) b d (head_productive h begins)).1 f)
slice_fault_again laws h begins b d (inr f) =
    let first = f.0 in
    let quant = f.1 in
    ap (λ (t : List Bool). slice_at h begins (record { at = b.at; bits = t })) f.5
    ∙ after_head h begins first quant b.at f.2 f.3 d.kind d.at f.4 (mbs_fault_again laws (around h first)
    (mbs_of h.format - first) quant (record { at = b.at + length f.2; bits = f.3 }) d f.6)

pub slice_faults : MbLaws → SliceFaults
slice_faults laws = record {
  whole = λ h begins b fault. (slice_fault_found laws h begins b fault, slice_fault_again laws h begins b fault);
  head = λ h begins b fault. first_fault_is (head_of_slice h begins) b fault (head_productive h begins);
  first_head = λ h. record { marker = first_marker h; address = first_address h; end = first_end h };
  places = λ f. record {
    start = place_start f;
    marker = place_marker f;
    first = place_first f;
    past = place_past f;
    quant = place_quant f;
    end = place_end f;
  };
  tails = tail_faults;
  later_head = λ h. record { of_place = later_place h; of_tail = later_tail h };
  body = λ h begins. record {
    of_head = head_row h begins;
    empty = empty_row h begins;
    trailing = trailing_row laws h begins;
    of_mb = mb_row laws h begins;
  };
}
