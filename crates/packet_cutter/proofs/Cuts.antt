-- The laws of the cut: there is one, and one only.
use Rattle.std.proofs.Common.{◌≡◌, ℕ, zero, suc, ◌+◌, ◌/◌, ◌<◌, ◌≤◌, Bool, List, [], ◌∷◌, ◌++◌, length, refl, sym, ap, subst, ◌∙◌, append_assoc, arith, inl, inr}
use Rattle.std.specs.Prelude.{◌⊎◌, All}
use Rattle.std.proofs.Math.Seq.{drop-append_seam}
use Rattle.std.proofs.lemmas.Bool.{cases_lt}
use Rattle.std.proofs.lemmas.List.{append-nil, length-append}
use Rattle.std.proofs.lemmas.List.Elements.{All-drop}
use Rattle.h263_types.specs.declared.blocks.Mb.{Mb}
use Rattle.h263_types.specs.Blocks.{HasWholeBlocks}
use Rattle.h263_bits.specs.Written.{to_byte}
use Rattle.picture_header.specs.declared.header.Header.{Header}
use Rattle.picture_header.specs.Ranges.{IsHeader}
use Rattle.macroblock_layer.specs.Written.{mb_text}
use Rattle.slice_layer.specs.Around.{Around, around, quant_after}
use Rattle.slice_layer.specs.Written.{opening_text, mbs_text}
use Rattle.slice_layer.specs.Laws.{AreSlicesShort}
use Rattle.packet_cutter.specs.Cut.{begins_at, packet_bytes, IsLongest, IsCut, runs_joined, Fit}
use Rattle.packet_cutter.proofs.Fronts.{AllShort, front_short}

-- ---- a longer slice has no shorter packet

mbs_text-after : (a : Around) (quant : ℕ) (before mbs more : List Mb)
    → (after : List Bool) × (mbs_text a quant before (mbs ++ more) ≡ mbs_text a quant before mbs ++ after)
unfolding mbs_text
mbs_text-after a quant before [] more = (mbs_text a quant before more, refl)
mbs_text-after a quant before (m ∷ mbs) more =
    let front = mb_text a.kind quant (a.predictor before) m in
    let next = mbs_text-after a (quant_after quant m) (before ++ m ∷ []) mbs more in
    let text = mbs_text a (quant_after quant m) (before ++ m ∷ []) mbs in
    (next.0, ap (λ (t : List Bool). front ++ t) next.1 ∙ sym (append_assoc front text next.0))

bytes_grow : (a b : ℕ) → a ≤ b → (a + to_byte a) / 8 ≤ (b + to_byte b) / 8
bytes_grow a b h = omega arith

pub packet_grows : (h : Header) (first : ℕ) (run more : List Mb)
    → packet_bytes h first run ≤ packet_bytes h first (run ++ more)
packet_grows h first run more =
    let opening = opening_text h (begins_at first) first in
    let text = mbs_text (around h first) h.quant [] run in
    let longer = mbs_text (around h first) h.quant [] (run ++ more) in
    let after = mbs_text-after (around h first) h.quant [] run more in
    let bits : length (opening ++ text) ≤ length (opening ++ longer) =
    omega (
      arith,
      length-append opening text,
      length-append opening longer,
      ap length after.1,
      length-append text after.0,
    ) in
    omega (arith, bytes_grow (length (opening ++ text)) (length (opening ++ longer)) bits)

-- a slice is the longest where the next macroblock doesn't fit
pub longest_by_next : (h : Header) (limit first : ℕ) (run rest : List Mb) → 0 < length run
    → packet_bytes h first run ≤ limit
    → ((m : Mb) (others : List Mb) → rest ≡ m ∷ others → limit < packet_bytes h first (run ++ m ∷ []))
    → IsLongest h limit first run rest
longest_by_next h limit first run rest some fits next = record {
  some = some;
  fits = fits;
  longest = longest;
}
  where
    longest : (more others : List Mb) → rest ≡ more ++ others → 0 < length more
        → limit < packet_bytes h first (run ++ more)
    longest [] others e more_some = absurd (omega arith)
    longest (m ∷ more) others e more_some =
        let grows = packet_grows h first (run ++ m ∷ []) more in
        let whole : (run ++ m ∷ []) ++ more ≡ run ++ m ∷ more = append_assoc run (m ∷ []) more in
        omega (arith, next m (more ++ others) e, grows, ap (packet_bytes h first) whole)

-- ---- one cut

-- of two divisions of one list one is the same or has a longer first part
pub record IsFurther (a b c d : List Mb) : Type 0 where
  pub more : List Mb
  pub front : c ≡ a ++ more
  pub after : b ≡ more ++ d

divided : (a b c d : List Mb) → a ++ b ≡ c ++ d → IsFurther a b c d ⊎ IsFurther c d a b
divided [] b c d e = inl (record { more = c; front = refl; after = e })
divided (x ∷ a) b [] d e = inr (record { more = x ∷ a; front = refl; after = sym e })
divided (x ∷ a) b (y ∷ c) d e =
    let same : x ≡ y = cc in
    let tails : a ++ b ≡ c ++ d = cc in
    elim (divided a b c d tails) [
      | inl w ↦ inl (record {
        more = w.more;
        front = ap (λ (t : List Mb). y ∷ t) w.front
            ∙ ap (λ (z : Mb). z ∷ (a ++ w.more)) (sym same);
        after = w.after;
      })
      | inr w ↦ inr (record {
        more = w.more;
        front = ap (λ (t : List Mb). x ∷ t) w.front
            ∙ ap (λ (z : Mb). z ∷ (c ++ w.more)) same;
        after = w.after;
      })
    ]

no_further : (h : Header) (limit first : ℕ) (run rest other left : List Mb) → IsLongest h limit first run rest
    → IsLongest h limit first other left → IsFurther run rest other left → (run ≡ other) × (rest ≡ left)
no_further h limit first run rest other left a b w = at_more w.more w.front w.after
  where
    at_more : (more : List Mb) → other ≡ run ++ more → rest ≡ more ++ left → (run ≡ other) × (rest ≡ left)
    at_more [] front after = (sym (front ∙ append-nil run), after)
    at_more (m ∷ more) front after =
        absurd (omega (arith, a.longest (m ∷ more) left after (omega arith), b.fits, ap (packet_bytes h first) front))

same_run : (h : Header) (limit first : ℕ) (run rest other left : List Mb) → IsLongest h limit first run rest
    → IsLongest h limit first other left → run ++ rest ≡ other ++ left → (run ≡ other) × (rest ≡ left)
same_run h limit first run rest other left a b e =
    elim (divided run rest other left e) [
      | inl w ↦ no_further h limit first run rest other left a b w
      | inr w ↦ let p = no_further h limit first other left run rest b a w in (sym p.0, sym p.1)
    ]

no_slice : (mbs run rest : List Mb) → mbs ≡ [] → mbs ≡ run ++ rest → 0 < length run → ⊥
no_slice mbs run rest none e some = omega (arith, ap length none, ap length e, length-append run rest)

pub one_cut : (h : Header) (limit first : ℕ) (mbs : List Mb) (runs others : List (List Mb))
    → IsCut h limit first mbs runs → IsCut h limit first mbs others → runs ≡ others
unfolding IsCut
one_cut h limit first mbs [] [] a b = refl
one_cut h limit first mbs [] (other ∷ others) a b = absurd (no_slice mbs other b.0 a b.1 b.2.some)
one_cut h limit first mbs (run ∷ runs) [] a b = absurd (no_slice mbs run a.0 b a.1 a.2.some)
one_cut h limit first mbs (run ∷ runs) (other ∷ others) a b =
    let same = same_run h limit first run a.0 other b.0 a.2 b.2 (sym a.1 ∙ b.1) in
    let after = subst (λ (l : List Mb). IsCut h limit (first + length run) l others) (sym same.1)
    (subst (λ (l : List Mb). IsCut h limit (first + length l) b.0 others) (sym same.0) b.3) in
    ap (λ (l : List (List Mb)). run ∷ l) (one_cut h limit (first + length run) a.0 runs others a.3 after)
    ∙ ap (λ (l : List Mb). l ∷ others) same.0

-- ---- its parts

pub covers : (h : Header) (limit first : ℕ) (mbs : List Mb) (runs : List (List Mb)) → IsCut h limit first mbs runs
    → runs_joined runs ≡ mbs
unfolding IsCut
covers h limit first mbs [] a = sym a
covers h limit first mbs (run ∷ runs) a = ap (λ (l : List Mb). run
    ++ l) (covers h limit (first + length run) a.0 runs a.3) ∙ sym a.1

-- each slice of a cut keeps its packet within the limit
pub fit : (h : Header) (limit first : ℕ) (mbs : List Mb) (runs : List (List Mb)) → IsCut h limit first mbs runs
    → Fit h limit first runs
unfolding IsCut Fit
fit h limit first mbs [] a = tt
fit h limit first mbs (run ∷ runs) a = (a.2.some, a.2.fits, fit h limit (first + length run) a.0 runs a.3)

-- ---- a cut

-- the longest slice that begins with these macroblocks
record IsGrown (h : Header) (limit first : ℕ) (run rest : List Mb) : Type 0 where
  more : List Mb
  others : List Mb
  parts : rest ≡ more ++ others
  longest : IsLongest h limit first (run ++ more) others

grown : (h : Header) (limit first : ℕ) (run rest : List Mb) → 0 < length run → packet_bytes h first run ≤ limit
    → IsGrown h limit first run rest
grown h limit first run [] some fits = record {
  more = [];
  others = [];
  parts = refl;
  longest = subst (λ (l : List Mb). IsLongest h limit first l []) (sym (append-nil run))
      (longest_by_next h limit first run [] some fits (λ m others e. absurd cc));
}
grown h limit first run (m ∷ rest) some fits =
    elim (cases_lt limit (packet_bytes h first (run ++ m ∷ []))) [
      | inl past ↦ record {
        more = [];
        others = m ∷ rest;
        parts = refl;
        longest = subst (λ (l : List Mb). IsLongest h limit first l (m ∷ rest)) (sym (append-nil run))
            (longest_by_next h limit first run (m ∷ rest) some fits (λ n others e. here n others e past));
      }
      | inr within ↦ one_further (grown h limit first (run ++ m ∷ []) rest (omega (arith, length-append run (m ∷ [])))
          within)
    ]
  where
    here : (n : Mb) (others : List Mb) → m ∷ rest ≡ n ∷ others → limit < packet_bytes h first (run ++ m ∷ [])
        → limit < packet_bytes h first (run ++ n ∷ [])
    here n others e past = let same : m ≡ n = cc in
        subst (λ (k : Mb). limit < packet_bytes h first (run ++ k ∷ [])) same past

    one_further : IsGrown h limit first (run ++ m ∷ []) rest → IsGrown h limit first run (m ∷ rest)
    one_further g = record {
      more = m ∷ g.more;
      others = g.others;
      parts = ap (λ (l : List Mb). m ∷ l) g.parts;
      longest = subst (λ (l : List Mb). IsLongest h limit first l g.others) (append_assoc run (m ∷ []) g.more)
          g.longest;
    }

one_fits : AreSlicesShort → AllShort → (h : Header) (limit first : ℕ) (m : Mb) → IsHeader h → 1200 ≤ limit
    → HasWholeBlocks m
    → packet_bytes h first (m ∷ []) ≤ limit
one_fits slices short h limit first m is room whole = omega (
  arith,
  front_short short h first is,
  slices.one h (begins_at first) first m is whole,
)

-- a picture whose macroblocks are short can be cut
pub cut_exists : AreSlicesShort → AllShort → (h : Header) (limit : ℕ) → IsHeader h → 1200 ≤ limit
    → (n first : ℕ) (mbs : List Mb) → length mbs ≤ n → All HasWholeBlocks mbs → (runs : List (List Mb))
    × IsCut h limit first mbs runs
unfolding IsCut
cut_exists slices short h limit is room n first [] few whole = ([], refl)
cut_exists slices short h limit is room zero first (m ∷ mbs) few whole = absurd (omega arith)
cut_exists slices short h limit is room (suc n) first (m ∷ mbs) few whole =
    let g = grown h limit first (m ∷ []) mbs (omega arith) (one_fits slices short h limit first m is room
    (whole 0 m (omega arith))) in
    let run = m ∷ g.more in
    let parts : m ∷ mbs ≡ run ++ g.others = ap (λ (l : List Mb). m ∷ l) g.parts in
    let after : All HasWholeBlocks g.others = subst (All HasWholeBlocks) (drop-append_seam run g.others)
    (All-drop HasWholeBlocks (length run) (run ++ g.others) (subst (All HasWholeBlocks) parts whole)) in
    let fewer : length g.others ≤ n = omega (arith, ap length g.parts, length-append g.more g.others) in
    let next = cut_exists slices short h limit is room n (first + length run) g.others fewer after in
    (run ∷ next.0, (g.others, parts, g.longest, next.1))
