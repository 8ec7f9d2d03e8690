-- What one more macroblock makes of a slice's text, of its vectors and of its quantiser.
use Rattle.std.proofs.Common.{◌≡◌, ℕ, ◌*◌, ◌<◌, ◌≤◌, Bool, List, [], ◌∷◌, ◌++◌, length, map, replicate, refl, sym, ap, ◌∙◌, append_assoc, arith}
use Rattle.std.proofs.lemmas.List.{length-append, append-nil, map-append}
use Rattle.std.proofs.lemmas.Bool.{lt-ltb, le-ltb}
use Rattle.h263_types.specs.declared.vector.Vector.{Vector}
use Rattle.h263_types.specs.declared.blocks.Mb.{Mb}
use Rattle.h263_types.specs.Blocks.{HasWholeBlocks}
use Rattle.picture_header.specs.declared.header.Header.{Header}
use Rattle.macroblock_layer.specs.Prediction.{no_vector}
use Rattle.picture_header.specs.Laws.{HeaderLaws}
use Rattle.picture_header.specs.Ranges.{IsHeader}
use Rattle.macroblock_layer.specs.Written.{mb_text}
use Rattle.macroblock_layer.specs.Laws.{MbLaws}
use Rattle.slice_layer.specs.Laws.{AreSlicesShort}
use Rattle.slice_layer.proofs.Openings.{length-begins, length-later, opening_short}
use Rattle.slice_layer.specs.Around.{Around, around, vector_of, vectors_of, next_predictor, quant_after}
use Rattle.slice_layer.specs.Written.{opening_text, mbs_text, slice_text, bytes_filled_by, quant_after_all}
use Rattle.slice_layer.specs.declared.writing.Added.TheVariants.{Fits, Full}
use Rattle.slice_layer.specs.Writer.{added_within}

pub quant_after_all-append : (quant : ℕ) (mbs : List Mb) (m : Mb) → quant_after_all quant (mbs ++ m ∷ [])
    ≡ quant_after (quant_after_all quant mbs) m
quant_after_all-append quant [] m = refl
quant_after_all-append quant (n ∷ mbs) m = quant_after_all-append (quant_after quant n) mbs m

pub vectors_of-append : (first : ℕ) (mbs : List Mb) (m : Mb) → vectors_of first (mbs ++ m ∷ []) ≡ vectors_of first mbs
    ++ vector_of m ∷ []
vectors_of-append first mbs m =
    ap (λ (t : List Vector). replicate first no_vector ++ t) (map-append vector_of mbs (m ∷ []))
    ∙ sym (append_assoc (replicate first no_vector) (map vector_of mbs) (vector_of m ∷ []))

pub mbs_text-append : (a : Around) (quant : ℕ) (before mbs : List Mb) (m : Mb)
    → mbs_text a quant before (mbs ++ m ∷ []) ≡ mbs_text a quant before mbs
    ++ mb_text a.kind (quant_after_all quant mbs) (a.predictor (before ++ mbs)) m
unfolding mbs_text
mbs_text-append a quant before [] m =
    let e : before ++ [] ≡ before = append-nil before in
    append-nil _ ∙ ap (λ (l : List Mb). mb_text a.kind quant (a.predictor l) m) (sym e)
mbs_text-append a quant before (n ∷ mbs) m =
    let front = mb_text a.kind quant (a.predictor before) n in
    let more = mbs_text-append a (quant_after quant n) (before ++ n ∷ []) mbs m in
    let e : (before ++ n ∷ []) ++ mbs ≡ before ++ n ∷ mbs = append_assoc before (n ∷ []) mbs in
    let last = λ (l : List Mb). mb_text a.kind (quant_after_all (quant_after quant n) mbs) (a.predictor l) m in
    let after = mbs_text a (quant_after quant n) (before ++ n ∷ []) mbs in
    ap (λ (t : List Bool). front ++ t) (more ∙ ap (λ (l : List Mb). after ++ last l) e)
    ∙ sym (append_assoc front after (last (before ++ n ∷ mbs)))

-- the text of the next macroblock
abbrev pub next_text : Header → ℕ → List Mb → Mb → List Bool
next_text h first mbs m = mb_text h.kind (quant_after_all h.quant mbs) (next_predictor h.format first mbs) m

pub slice_text-append : (h : Header) (begins : Bool) (first : ℕ) (mbs : List Mb) (m : Mb)
    → slice_text h begins first (mbs ++ m ∷ []) ≡ slice_text h begins first mbs ++ next_text h first mbs m
slice_text-append h begins first mbs m =
    let opening = opening_text h begins first in
    let text = mbs_text (around h first) h.quant [] mbs in
    ap (λ (t : List Bool). opening ++ t) (mbs_text-append (around h first) h.quant [] mbs m)
    ∙ sym (append_assoc opening text (next_text h first mbs m))

-- a slice without macroblocks is what it opens with
pub no_text : (h : Header) (begins : Bool) (first : ℕ) → slice_text h begins first [] ≡ opening_text h begins first
unfolding mbs_text
no_text h begins first = append-nil (opening_text h begins first)

-- ---- bytes

-- a text takes no more bytes than there is room for, exactly where it has no more bits
pub bytes_within : (room : ℕ) (text : List Bool) → length text ≤ 8 * room → bytes_filled_by text ≤ room
bytes_within room text h = omega arith

pub bytes_past : (room : ℕ) (text : List Bool) → 8 * room < length text → room < bytes_filled_by text
bytes_past room text h = omega arith

pub answer_fits : (room : ℕ) (text : List Bool) → length text ≤ 8 * room
    → Fits ≡ added_within room (bytes_filled_by text)
answer_fits room text h = rw (le-ltb room (bytes_filled_by text) (bytes_within room text h)) refl

pub answer_full : (room : ℕ) (text : List Bool) → 8 * room < length text
    → Full ≡ added_within room (bytes_filled_by text)
answer_full room text h = rw (lt-ltb room (bytes_filled_by text) (bytes_past room text h)) refl

-- a slice of one macroblock
one_short : HeaderLaws → MbLaws → (h : Header) (begins : Bool) (first : ℕ) (m : Mb) → IsHeader h → HasWholeBlocks m
    → bytes_filled_by (slice_text h begins first (m ∷ [])) ≤ 1095
one_short laws of_mbs h begins first m is whole =
    let bits : length (slice_text h begins first (m ∷ [])) ≤ 8754 =
    omega (
      arith,
      ap length (slice_text-append h begins first [] m),
      length-append (slice_text h begins first []) (next_text h first [] m),
      ap length (no_text h begins first),
      opening_short laws h begins first is,
      of_mbs.short h.kind (quant_after_all h.quant []) (next_predictor h.format first []) m whole,
    ) in
    bytes_within 1095 (slice_text h begins first (m ∷ [])) (omega (arith, bits))

-- how many bits the text of a slice has at most
pub are_short : HeaderLaws → MbLaws → AreSlicesShort
are_short laws of_mbs = record {
  begins = length-begins laws;
  later = length-later;
  opening = opening_short laws;
  one = one_short laws of_mbs;
}
