-- What a reader finds of a slice's macroblocks is their text, and their text is found.
use Rattle.std.proofs.Common.{◌≡◌, ℕ, zero, suc, ◌+◌, ◌-◌, ◌<◌, ◌≤◌, Bool, true, false, cond, List, [], ◌∷◌, ◌++◌, length, drop, None, Result, Ok, Err, refl, sym, ap, subst, ◌∙◌, append_assoc, arith}
use Rattle.std.specs.Prelude.{IfOk, IsOkAnd}
use Rattle.std.proofs.lemmas.List.{append-nil, length-append, length-take-le, length-drop}
use Rattle.h263_types.specs.declared.blocks.Mb.{Mb}
use Rattle.h263_types.specs.declared.blocks.SliceHead.{SliceHead}
use Rattle.h263_types.specs.Sizes.{mbs_of}
use Rattle.h263_bits.specs.declared.fault.Fault.{Fault}
use Rattle.h263_bits.specs.declared.fault.FaultKind.TheVariants as faults
use Rattle.h263_bits.specs.Reading.{Bits, first_fault, ◌>>=◌}
use Rattle.h263_bits.specs.Syntax.{reading}
use Rattle.h263_bits.proofs.SyntaxLaws.{bind_ok, ok_is, err_not_ok, sound, complete}
use Rattle.picture_header.specs.declared.header.Header.{Header}
use Rattle.macroblock_layer.specs.Laws.{MbLaws}
use Rattle.slice_layer.specs.Around.{Around, around, quant_after, next_mb}
use Rattle.slice_layer.specs.Head.{head_of_slice}
use Rattle.slice_layer.specs.Text.{is_padding, AreTexts, IsSliceText, stops, mbs_at, first_with, body_at, slice_at, slice_fault}
use Rattle.slice_layer.specs.Laws.{AreRead}
use Rattle.slice_layer.specs.Filled.{Fills, IsSliceIn, mbs_from}
use Rattle.slice_layer.proofs.Heads.{head_productive}
use Rattle.slice_layer.proofs.Marked.{mb_marked}

-- ---- macroblocks that were read, after earlier ones

record IsRead (a : Around) (quant room : ℕ) (before mbs : List Mb) (bits : List Bool) : Type 0 where
  new : List Mb
  text : List Bool
  padding : List Bool
  all : mbs ≡ before ++ new
  within : length new ≤ room
  whole : bits ≡ text ++ padding
  each : AreTexts a quant before new text
  zeros : is_padding padding ≡ true
  some : 0 < length mbs

stops_ok : (before mbs : List Mb) (b : Bits) → stops before b ≡ Ok mbs → (mbs ≡ before) × (0 < length mbs)
stops_ok [] mbs b e = absurd cc
stops_ok (m ∷ before) mbs b e = let same : m ∷ before ≡ mbs = cc in
    (sym same, subst (λ (l : List Mb). 0 < length l) same (omega arith))

ended : (a : Around) (quant room : ℕ) (before mbs : List Mb) (b : Bits) → is_padding b.bits ≡ true
    → stops before b ≡ Ok mbs → IsRead a quant room before mbs b.bits
unfolding AreTexts
ended a quant room before mbs b z e =
    let s = stops_ok before mbs b e in
    record {
      new = [];
      text = [];
      padding = b.bits;
      all = s.0 ∙ sym (append-nil before);
      within = omega arith;
      whole = refl;
      each = refl;
      zeros = z;
      some = s.1;
    }

mbs_sound : (a : Around) (room quant : ℕ) (before mbs : List Mb) (b : Bits) → mbs_at a room quant before b ≡ Ok mbs
    → IsRead a quant room before mbs b.bits
unfolding mbs_at AreTexts
mbs_sound a zero quant before mbs b e = at_end (is_padding b.bits) refl e
  where
    at_end : (t : Bool) → is_padding b.bits ≡ t
        → cond t (stops before b) (Err (record { kind = faults.Trailing; at = b.at })) ≡ Ok mbs
        → IsRead a quant zero before mbs b.bits
    at_end true z e = ended a quant zero before mbs b z e
    at_end false z e = absurd cc
mbs_sound a (suc room) quant before mbs b e = at_end (is_padding b.bits) refl e
    (λ m c h. mbs_sound a room (quant_after quant m) (before ++ m ∷ []) mbs c h)
  where
    at_end : (t : Bool) → is_padding b.bits ≡ t
        → cond t (stops before b) (reading (next_mb a quant before) b >>= λ x. mbs_at a room (quant_after quant x.0)
        (before ++ x.0 ∷ []) x.1) ≡ Ok mbs
        → ((m : Mb) (c : Bits) → mbs_at a room (quant_after quant m) (before ++ m ∷ []) c ≡ Ok mbs
        → IsRead a (quant_after quant m) room (before ++ m ∷ []) mbs c.bits)
        → IsRead a quant (suc room) before mbs b.bits
    at_end true z e more = ended a quant (suc room) before mbs b z e
    at_end false z e more =
        let one = bind_ok (reading (next_mb a quant before) b) (λ x. mbs_at a room (quant_after quant x.0) (before
        ++ x.0 ∷ []) x.1) mbs e in
        let m = one.0.0 in
        let t = sound (next_mb a quant before) b one.0.1 m one.1 in
        let r = more m one.0.1 one.2 in
        record {
          new = m ∷ r.new;
          text = t.0 ++ r.text;
          padding = r.padding;
          all = r.all ∙ append_assoc before (m ∷ []) r.new;
          within = omega (arith, r.within);
          whole = t.1.parts ∙ ap (λ (x : List Bool). t.0 ++ x) r.whole ∙ sym (append_assoc t.0 r.text r.padding);
          each = (t.0, r.text, refl, t.2, r.each);
          zeros = r.zeros;
          some = r.some;
        }

mbs_complete : MbLaws → (a : Around) (new : List Mb) (room quant at : ℕ) (before : List Mb) (text padding : List Bool)
    → length new ≤ room → 0 < length (before ++ new) → is_padding padding ≡ true → AreTexts a quant before new text
    → mbs_at a room quant before (record { at = at; bits = text ++ padding }) ≡ Ok (before ++ new)
unfolding mbs_at AreTexts
mbs_complete laws a [] room quant at before text padding le some z h =
    rw h (at_room room before (append-nil before) some)
  where
    at_stop : (l : List Mb) → l ++ [] ≡ l → 0 < length (l ++ []) → stops l (record { at = at; bits = padding })
        ≡ Ok (l ++ [])
    at_stop [] e some = absurd (omega arith)
    at_stop (m ∷ l) e some = ap Ok (sym e)

    at_room : (room : ℕ) (l : List Mb) → l ++ [] ≡ l → 0 < length (l ++ [])
        → mbs_at a room quant l (record { at = at; bits = padding }) ≡ Ok (l ++ [])
    at_room zero l e some = rw z (at_stop l e some)
    at_room (suc room) l e some = rw z (at_stop l e some)
mbs_complete laws a (m ∷ new) zero quant at before text padding le some z h = absurd (omega arith)
mbs_complete laws a (m ∷ new) (suc room) quant at before text padding le some z h =
    let front = h.0 in
    let tail = h.1 in
    let reach = a.reaches (a.first + length before) in
    let e : text ++ padding ≡ front ++ (tail ++ padding) = ap (λ (x : List Bool). x ++ padding) h.2
    ∙ append_assoc front tail padding in
    let marked = mb_marked a.kind quant reach (a.predictor before) m front (tail ++ padding) h.3 in
    let one = complete (next_mb a quant before) m front (tail ++ padding) at
    (laws.productive a.kind quant reach (a.predictor before)) h.3 in
    let all : (before ++ m ∷ []) ++ new ≡ before ++ (m ∷ new) = append_assoc before (m ∷ []) new in
    let more = mbs_complete laws a new room (quant_after quant m) (at + length front) (before ++ m ∷ []) tail padding
    (omega (arith, le)) (omega (arith, length-append (before ++ m ∷ []) new, length-append before (m ∷ []))) z h.4
    in
    rw (e, marked, one, more) (ap Ok all)

-- ---- a whole slice

numbered_ok : (first n : ℕ) (mbs : List Mb) (r : Result (List Mb) Fault) → first_with n r ≡ Ok (first, mbs)
    → (n ≡ first) × (r ≡ Ok mbs)
numbered_ok first n mbs (Ok found) e = let f = ok_is (n, found) (first, mbs) e in
    (ap (λ (p : ℕ × List Mb). p.0) f, ap (λ (p : ℕ × List Mb). Ok p.1) f)
numbered_ok first n mbs (Err fault) e = absurd cc

-- what is read is a text
slice_sound : (h : Header) (begins : Bool) (first : ℕ) (mbs : List Mb) (b : Bits)
    → slice_at h begins b ≡ Ok (first, mbs) → IsSliceText h begins first mbs b.bits
unfolding slice_at
slice_sound h begins first mbs b e =
    let one = bind_ok (reading (head_of_slice h begins) b) (λ x. body_at h x.0.0 x.0.1 x.1) (first, mbs) e in
    let n = one.0.0.0 in
    let quant = one.0.0.1 in
    let c = one.0.1 in
    let t = sound (head_of_slice h begins) b c (n, quant) one.1 in
    let r = numbered_ok first n mbs (mbs_at (around h n) (mbs_of h.format - n) quant [] c) one.2 in
    let body = mbs_sound (around h n) (mbs_of h.format - n) quant [] mbs c r.1 in
    let whole : IsSliceText h begins n mbs b.bits = record {
      front = t.0;
      after = c.bits;
      quant = quant;
      parts = t.1.parts;
      opened = t.2;
      body = record {
        text = body.text;
        padding = body.padding;
        whole = body.whole;
        some = body.some;
        within = subst (λ (l : List Mb). length l ≤ mbs_of h.format - n) (sym body.all) body.within;
        each = subst (λ (l : List Mb). AreTexts (around h n) quant [] l body.text) (sym body.all) body.each;
        zeros = body.zeros;
      };
    } in
    subst (λ (k : ℕ). IsSliceText h begins k mbs b.bits) r.0 whole

-- a text is read
pub slice_complete : MbLaws → (h : Header) (begins : Bool) (first : ℕ) (mbs : List Mb) (b : Bits)
    → IsSliceText h begins first mbs b.bits → slice_at h begins b ≡ Ok (first, mbs)
unfolding slice_at
slice_complete laws h begins first mbs b is =
    let one = complete (head_of_slice h begins) (first, is.quant) is.front is.after b.at (head_productive h begins)
    is.opened in
    let opened : reading (head_of_slice h begins) b ≡ Ok (
      (first, is.quant),
      record {
        at = b.at + length is.front;
        bits = is.after;
      },
    ) = ap (λ (t : List Bool). reading (head_of_slice h begins) (record { at = b.at; bits = t })) is.parts
    ∙ one in
    let body = is.body in
    let all = mbs_complete laws (around h first) mbs (mbs_of h.format - first) is.quant (b.at + length is.front) []
    body.text body.padding body.within body.some body.zeros body.each in
    let found : mbs_at (around h first) (mbs_of h.format - first) is.quant [] (record {
      at = b.at + length is.front;
      bits = is.after;
    }) ≡ Ok mbs =
    ap (λ (t : List Bool). mbs_at (around h first) (mbs_of h.format - first) is.quant []
    (record { at = b.at + length is.front; bits = t })) body.whole ∙ all in
    rw (opened, found) refl

-- bits are read as a slice exactly where they are its text
pub are_read : MbLaws → AreRead
are_read laws = λ h begins first mbs b. (slice_sound h begins first mbs b, slice_complete laws h begins first mbs b)

-- ---- in the picture's macroblocks

pub fills_texts : (r : Result SliceHead Fault) (out : List Mb) (h : Header) (begins : Bool) (b : Bits)
    → Fills r out (slice_at h begins b)
    → IfOk r (λ head_of_slice. IsSliceText h begins head_of_slice.first
    (mbs_from head_of_slice.first head_of_slice.count out) b.bits)
fills_texts (Ok slice) out h begins b g = slice_sound h begins slice.first (mbs_from slice.first slice.count out) b g
fills_texts (Err fault) out h begins b g = tt

pub texts_fill : MbLaws → (r : Result SliceHead Fault) (out : List Mb) (h : Header) (begins : Bool) (b : Bits)
    → IfOk r (IsSliceIn h out) → length out ≡ mbs_of h.format → Fills r out (slice_at h begins b)
    → (first : ℕ) (mbs : List Mb) → IsSliceText h begins first mbs b.bits
    → IsOkAnd r (λ head_of_slice. (head_of_slice.first ≡ first) × (head_of_slice.count ≡ length mbs)
    × (mbs_from head_of_slice.first head_of_slice.count out
    ≡ mbs))
texts_fill laws (Ok slice) out h begins b range size g first mbs is =
    let f = ok_is (slice.first, mbs_from slice.first slice.count out) (first, mbs) (sym g
    ∙ slice_complete laws h begins first mbs b is) in
    let same : mbs_from slice.first slice.count out ≡ mbs = ap (λ (p : ℕ × List Mb). p.1) f in
    let long : length (mbs_from slice.first slice.count out)
    ≡ slice.count = length-take-le slice.count (drop slice.first out) (omega (
      arith,
      length-drop slice.first out,
      range.head.within,
    )) in
    (ap (λ (p : ℕ × List Mb). p.0) f, sym long ∙ ap length same, same)
texts_fill laws (Err fault) out h begins b range size g first mbs is = err_not_ok fault (first, mbs) (sym g
    ∙ slice_complete laws h begins first mbs b is)

-- ---- laws

pub no_fault : (h : Header) (begins : Bool) (b : Bits) → slice_fault h begins b ≡ None → (first : ℕ) × (mbs : List Mb)
    × IsSliceText h begins first mbs b.bits
no_fault h begins b e = at (slice_at h begins b) refl e
  where
    at : (r : Result (ℕ × List Mb) Fault) → slice_at h begins b ≡ r → first_fault r ≡ None
        → (first : ℕ) × (mbs : List Mb) × IsSliceText h begins first mbs b.bits
    at (Ok (first, mbs)) is e = (first, mbs, slice_sound h begins first mbs b is)
    at (Err fault) is e = absurd cc

pub one_slice : MbLaws → (h : Header) (begins : Bool) (first other : ℕ) (mbs others : List Mb) (bits : List Bool)
    → IsSliceText h begins first mbs bits → IsSliceText h begins other others bits → (first ≡ other) × (mbs ≡ others)
one_slice laws h begins first other mbs others bits p q =
    let b : Bits = record { at = 0; bits = bits } in
    let f = ok_is (first, mbs) (other, others) (sym (slice_complete laws h begins first mbs b p)
    ∙ slice_complete laws h begins other others b q) in
    (ap (λ (x : ℕ × List Mb). x.0) f, ap (λ (x : ℕ × List Mb). x.1) f)
