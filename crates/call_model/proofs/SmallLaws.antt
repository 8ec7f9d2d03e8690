-- The coding of pictures of two samples meets the laws that are asked of a coding.
use Rattle.std.proofs.Common.{◌≡◌, ◌↔◌, ◌&&◌, ℕ, zero, suc, ◌+◌, ◌-◌, ◌<◌, ◌≤◌, Bool, true, false, refl, sym, ap, ◌∙◌, subst, arith, inl, inr, Option, Some, None, Result, Ok, Err, List, [], ◌∷◌, length, eqb, leb, ◌%◌}
use Rattle.std.specs.Prelude.{reverse, slice_get, map, slice_index_or, if◌then◌else◌}
use Rattle.std.specs.Option.{option_map}
use Rattle.std.proofs.lemmas.Bool.{and_parts, leb-true, le-leb, lt-ltb, lt-leb, le-ltb, and_from, and_left, and_right, eq-eqb, eqb-true, ne_eqb, cases_eq, cases_lt}
use Rattle.std.proofs.lemmas.Option.{slice_get-map}
use Rattle.call_model.specs.Coding.{Rules, Slice, has_mb, Header, Piece, Message, Ack, Nack}
use Rattle.call_model.specs.SmallCoding.{SmallMb, Same, Value, SmallStyle, SmallFault, Unread, small_sample, option_word, word_option, flag_words, word_flags, small_packet, small_header, small_piece, small_read, small_message, small_read_message, small_pictures, small_decoding, small}
use Rattle.call_model.specs.IdealCall.{encoded}
use Rattle.call_model.specs.Worked.{Scene, IsScene, always_8, by_sizes, ScenesAgree, ScenesAreLawful, window_scene, offer_scene, far_offer_scene, chain_scene, late_scene, shuffled_scene, patched_scene, wrap_scene, newer_offer_scene, flags_scene, wide_window_scene, wide_late_scene, paced_scene}
use Rattle.std.specs.List.{sum}
use Rattle.std.proofs.Math.Nat.{mod-lt}
use Rattle.call_model.proofs.Refusing.{passed_where_near}
use Rattle.call_model.proofs.TwoStores.{two_stores}
use Rattle.call_model.specs.Lawful.{Divides, IsDecoding, IsCoding, IsRules, IsPace}

abbrev one : ℕ → SmallMb → Slice SmallMb
one place mb = record { first = place; mbs = mb ∷ [] }

abbrev cut : List SmallMb → List (Slice SmallMb)
cut mbs = one 0 (slice_index_or mbs 0 Same) ∷ one 1 (slice_index_or mbs 1 Same) ∷ []

cut_at : (mbs : List SmallMb) (j : ℕ) (slice : Slice SmallMb) → slice_get (cut mbs) j ≡ Some slice
    → (j < 2) × (one j (slice_index_or mbs j Same) ≡ slice)
cut_at mbs zero slice e = (omega arith, cc)
cut_at mbs (suc zero) slice e = (omega arith, cc)
cut_at mbs (suc (suc j)) slice e = cc

has_one : (place : ℕ) (mb : SmallMb) (k : ℕ) → has_mb (one place mb) k ≡ eqb place k
unfolding has_mb
has_one place mb k =
    elim (cases_eq place k) [
      | inl same ↦ and_from _ _ (le-leb place k (omega arith)) (lt-ltb k (place + 1) (omega arith))
          ∙ sym (eq-eqb place k same)
      | inr differ ↦ (elim (cases_lt k place) [
        | inl below ↦ and_left _ _ (lt-leb place k below)
        | inr above ↦ and_right _ _ (le-ltb k (place + 1) (omega arith))
      ]) ∙ sym (ne_eqb place k differ)
    ]

option_back : (o : Option ℕ) → word_option (option_word o) ≡ o
option_back None = refl
option_back (Some m) = refl

read_one : (header : Header SmallStyle) (place : ℕ) (mb : SmallMb) → place < 2
    → small_read (small_packet header (one place mb)) ≡ Ok (record { header = header; slice = one place mb })
read_one header place Same lt = rw (le-leb (place + 1) 2 (omega arith), option_back header.reference) refl
read_one header place (Value value) lt = rw (le-leb (place + 1) 2 (omega arith), option_back header.reference) refl

none_left : (header : Header SmallStyle) (slices : List (Slice SmallMb)) (j : ℕ) → slice_get slices j ≡ None
    → slice_get (map (small_packet header) slices) j ≡ None
none_left header slices j e = slice_get-map (small_packet header) slices j ∙ ap (option_map (small_packet header)) e

flags_back : (flags : List Bool) → word_flags (flag_words flags) ≡ flags
flags_back [] = refl
flags_back (true ∷ flags) = ap (λ (rest : List Bool). true ∷ rest) (flags_back flags)
flags_back (false ∷ flags) = ap (λ (rest : List Bool). false ∷ rest) (flags_back flags)

message_back : (m : Message) → small_read_message (small_message m) ≡ Ok m
message_back (Ack n flags) = rw (flags_back flags) refl
message_back (Nack n q flags) = rw (flags_back flags) refl

abbrev IsInside : Piece SmallStyle SmallMb → Type 0
IsInside piece = (0 < length piece.slice.mbs) × (piece.slice.first + length piece.slice.mbs ≤ 2)

inside_piece : (header : Header SmallStyle) (place : ℕ) (mbs : List SmallMb) (piece : Piece SmallStyle SmallMb)
    → 0 < length mbs → small_piece header place mbs ≡ Ok piece → IsInside piece
inside_piece header place mbs piece some e = go (leb (place + length mbs) 2) refl e
  where
    read : Piece SmallStyle SmallMb
    read = record { header = header; slice = record { first = place; mbs = mbs } }

    go : (t : Bool) → leb (place + length mbs) 2 ≡ t
        → (let answer : Result (Piece SmallStyle SmallMb) SmallFault = if t then Ok read else Err Unread in answer)
        ≡ Ok piece → IsInside piece
    go true is got =
        let same : read ≡ piece = cc in
        subst IsInside same (some, leb-true (place + length mbs) 2 is)
    go false is got = cc

inside : (bytes : List ℕ) (piece : Piece SmallStyle SmallMb) → small_read bytes ≡ Ok piece → IsInside piece
inside [] piece e = cc
inside (a ∷ []) piece e = cc
inside (a ∷ b ∷ []) piece e = cc
inside (a ∷ b ∷ c ∷ []) piece e = cc
inside (a ∷ b ∷ c ∷ d ∷ []) piece e = cc
inside (a ∷ b ∷ c ∷ d ∷ f ∷ []) piece e = cc
inside (a ∷ b ∷ c ∷ d ∷ f ∷ g ∷ []) piece e = inside_piece (small_header a b c d f) g (Same ∷ []) piece (omega arith) e
inside (a ∷ b ∷ c ∷ d ∷ f ∷ g ∷ h ∷ []) piece e = inside_piece (small_header a b c d f) g (Value h ∷ []) piece
    (omega arith) e
inside (a ∷ b ∷ c ∷ d ∷ f ∷ g ∷ h ∷ i ∷ []) piece e = inside_piece (small_header a b c d f) g (Value h ∷ Value i ∷ [])
    piece (omega arith) e
inside (a ∷ b ∷ c ∷ d ∷ f ∷ g ∷ h ∷ i ∷ k ∷ bytes) piece e = cc

sample_back : (f : ℕ → ℕ) (s : ℕ) → s < 2 → small_sample (record { left = f 0; right = f 1 }) s ≡ f s
sample_back f zero lt = refl
sample_back f (suc zero) lt = refl
sample_back f (suc (suc s)) lt = absurd (omega arith)

same_place : (place k : ℕ) (mb : SmallMb) (mbs : List SmallMb) → has_mb (one place mb) k ≡ true → place ≡ k
same_place place k mb mbs has = eqb-true place k (sym (has_one place mb k) ∙ has)

same_style_test : (a b : SmallStyle) → (small_decoding.same_style a b ≡ true) ↔ (a ≡ b)
same_style_test a b = (forth, back)
  where
    forth : (eqb a.depth b.depth && eqb a.quant b.quant) ≡ true → a ≡ b
    forth e =
        let parts = and_parts (eqb a.depth b.depth) (eqb a.quant b.quant) e in
        let depth : a.depth ≡ b.depth = eqb-true a.depth b.depth parts.0 in
        let quant : a.quant ≡ b.quant = eqb-true a.quant b.quant parts.1 in
        ap (λ (d : ℕ). let s : SmallStyle = record { depth = d; quant = a.quant } in s) depth
        ∙ ap (λ (q : ℕ). let s : SmallStyle = record { depth = b.depth; quant = q } in s) quant

    back : a ≡ b → (eqb a.depth b.depth && eqb a.quant b.quant) ≡ true
    back e = and_from _ _ (eq-eqb a.depth b.depth (ap (λ (s : SmallStyle). s.depth) e))
        (eq-eqb a.quant b.quant (ap (λ (s : SmallStyle). s.quant) e))

small_divides : (count : ℕ) → count ≡ 2 → (mbs : List SmallMb) → Divides Same count (cut mbs) mbs
small_divides count two mbs = record {
  covers = record {
    place_of = λ k. k;
    below = λ k lt. omega arith;
    has = λ j k slice lt e.
        let at = cut_at mbs j slice e in
        subst (λ (s : Slice SmallMb). has_mb s k ≡ eqb j k) at.1 (has_one j (slice_index_or mbs j Same) k);
    inside = λ j slice e.
        let at = cut_at mbs j slice e in
        subst (λ (s : Slice SmallMb). (0 < length s.mbs) × (s.first + length s.mbs ≤ count)) at.1 (
          omega arith,
          omega (arith, at.0),
        );
  };
  same = λ j k slice e has.
      let at = cut_at mbs j slice e in
      let has_k : has_mb (one j (slice_index_or mbs j Same)) k ≡ true = subst (λ (s : Slice SmallMb). has_mb s k
      ≡ true) (sym at.1) has in
      let is : j ≡ k = same_place j k (slice_index_or mbs j Same) mbs has_k in
      let none : k - j ≡ 0 = omega arith in
      subst (λ (s : Slice SmallMb). slice_index_or s.mbs (k - s.first) Same ≡ slice_index_or mbs k Same) at.1
      (rw none (ap (λ (i : ℕ). slice_index_or mbs i Same) is));
}

pub small_decodes : (rules : Rules) → rules.mbs ≡ 2 → IsDecoding small_decoding rules
small_decodes rules two = record {
  pictures = record {
    picture_same = λ f g each.
        let left : f 0 ≡ g 0 = each 0 (omega arith) in
        let right : f 1 ≡ g 1 = each 1 (omega arith) in
        rw (left, right) refl;
    sample_is = λ f s lt. sample_back f s (omega arith);
  };
  read_inside = λ bytes piece e. let at = inside bytes piece e in (at.0, omega (arith, at.1));
  same_style_is = same_style_test;
}

pub small_lawful : (rules : Rules) → rules.mbs ≡ 2 → IsCoding small rules
unfolding small
small_lawful rules two = record {
  decodes = small_decodes rules two;
  encodes = record {
    divides = λ predicted style mbs chosen. small_divides rules.mbs two mbs;
    sequence_wraps = λ n sequence header slices. refl;
    message_again = λ message fits count. message_back message;
  };
  read_again = λ n sequence predicted header mbs j slice chosen fits e.
      let at = cut_at mbs j slice e in (
        small_packet header slice,
        slice_get-map (small_packet header) (cut mbs) j ∙ ap (option_map (small_packet header)) e,
        subst (λ (s : Slice SmallMb). small_read (small_packet header s) ≡ Ok (record { header = header; slice = s }))
            at.1 (read_one header j (slice_index_or mbs j Same) at.0),
      );
  no_packet = λ n sequence header slices j e. none_left header slices j e;
}

-- a scene whose events pass is near, and so both ends do what the ideal call says
pub scenes_agree : ScenesAgree
unfolding small
scenes_agree scene fits passed =
    let near = (passed_where_near small_pictures scene.rules (encoded small scene.rules scene.pace scene.frames)
    (length scene.frames) (reverse scene.events)).0 passed in
    (two_stores small scene.rules (small_lawful scene.rules fits.two) fits.rules scene.pace scene.frames fits.pace
    (reverse scene.events) near).agree

steady_pace : IsPace always_8
steady_pace sizes few = (omega arith, omega arith)

small_rules : (rules : Rules) → rules.mbs ≡ 2 → rules.lead + 2 ≤ rules.slots → rules.slots ≤ rules.half → IsRules rules
small_rules rules two lead slots = record { some_mbs = omega (arith, two); lead_small = lead; slots_small = slots }

steady_scene : (scene : Scene) → scene.rules.mbs ≡ 2 → scene.rules.lead + 2 ≤ scene.rules.slots
    → scene.rules.slots ≤ scene.rules.half → scene.pace ≡ always_8 → IsScene scene
steady_scene scene two lead slots pace = record {
  two = two;
  rules = small_rules scene.rules two lead slots;
  pace = subst (λ (p : List ℕ → ℕ). IsPace p) (sym pace) steady_pace;
}

sizes_pace : IsPace by_sizes
sizes_pace sizes few = let small : sum sizes % 31 < 31 = mod-lt (sum sizes) (omega arith) in
    (omega arith, omega (arith, small))

pub scenes_are_lawful : ScenesAreLawful
scenes_are_lawful = (
  steady_scene window_scene refl (omega arith) (omega arith) refl,
  steady_scene offer_scene refl (omega arith) (omega arith) refl,
  steady_scene far_offer_scene refl (omega arith) (omega arith) refl,
  steady_scene chain_scene refl (omega arith) (omega arith) refl,
  steady_scene late_scene refl (omega arith) (omega arith) refl,
  steady_scene shuffled_scene refl (omega arith) (omega arith) refl,
  steady_scene patched_scene refl (omega arith) (omega arith) refl,
  steady_scene wrap_scene refl (omega arith) (omega arith) refl,
  steady_scene newer_offer_scene refl (omega arith) (omega arith) refl,
  steady_scene (flags_scene 14) refl (omega arith) (omega arith) refl,
  steady_scene (flags_scene 0) refl (omega arith) (omega arith) refl,
  steady_scene wide_window_scene refl (omega arith) (omega arith) refl,
  steady_scene wide_late_scene refl (omega arith) (omega arith) refl,
  record { two = refl; rules = small_rules paced_scene.rules refl (omega arith) (omega arith); pace = sizes_pace },
)
