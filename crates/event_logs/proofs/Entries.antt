-- An entry is read exactly where its parts stand first.
use Rattle.std.proofs.Common.{◌≡◌, ℕ, suc, ◌+◌, ◌≤◌, ◌==◌, ◌++◌, nat_lt, Bool, true, false, cond, List, [], ◌∷◌, length, take, drop, get_or, Some, None, refl, sym, ap, ◌∙◌, arith, append-nil, length-append, length-take}
use Rattle.std.proofs.lemmas.List.{take-append-drop}
use Rattle.std.proofs.Math.Seq.{take-append_seam, drop-append_seam}
use borrow.Author.Tests.{ltb-false, eqb-true}
use Rattle.byteorder.specs.Endian.{big_number, big_bytes}
use Rattle.byteorder.specs.Numbers.{length-bytes_high_first, big_number-reads_back}
use Rattle.event_logs.specs.declared.entry.Side.{Side}
use Rattle.event_logs.specs.declared.entry.Entry.{Entry}
use Rattle.event_logs.specs.declared.entry.Entry.TheVariants.{Capture, Back, Packet, Play}
use Rattle.event_logs.specs.Entry.{has_letter, entry_of, entry_with, entry_size, entry_begun, entry_reach, reach, entry_in}
use Rattle.event_logs.specs.Log.{EntryParts, text_of_entry, IsEntry}
use Rattle.event_logs.proofs.Heads.{long_begins, begins_long, begins_front, whole_entry}

-- an entry has as many bytes as are told
no_bytes : (entry known : Entry) (len : ℕ) → entry_size known ≡ 0 → (t : Bool) → (len == 0) ≡ t
    → cond t (Some known) None
    ≡ Some entry → entry_size entry ≡ len
no_bytes entry known len none true is e =
    let same : known ≡ entry = cc in
    ap entry_size (sym same) ∙ none ∙ sym (eqb-true len 0 is)
no_bytes entry known len none false is e = absurd (cc)

some_bytes : (entry known : Entry) (len : ℕ) → entry_size known ≡ len → Some known ≡ Some entry → entry_size entry ≡ len
some_bytes entry known len is e = let same : known ≡ entry = cc in ap entry_size (sym same) ∙ is

module _ (entry : Entry) (len : ℕ) where
  by_play : (t : Bool) → cond t (cond (len == 0) (Some Play) None) None ≡ Some entry → entry_size entry ≡ len
  by_play true e = no_bytes entry Play len refl (len == 0) refl e
  by_play false e = absurd (cc)

  by_packet : (t u : Bool) → cond t (Some (Packet len)) (cond u (cond (len == 0) (Some Play) None) None) ≡ Some entry
      → entry_size entry ≡ len
  by_packet true u e = some_bytes entry (Packet len) len refl e
  by_packet false u e = by_play u e

  by_back : (s t u : Bool)
      → cond s (Some (Back len)) (cond t (Some (Packet len)) (cond u (cond (len == 0) (Some Play) None) None))
      ≡ Some entry → entry_size entry ≡ len
  by_back true t u e = some_bytes entry (Back len) len refl e
  by_back false t u e = by_packet t u e

  by_letter : (r s t u : Bool)
      → cond r (cond (len == 0) (Some Capture) None)
      (cond s (Some (Back len)) (cond t (Some (Packet len)) (cond u (cond (len == 0) (Some Play) None) None)))
      ≡ Some entry → entry_size entry ≡ len
  by_letter true s t u e = no_bytes entry Capture len refl (len == 0) refl e
  by_letter false s t u e = by_back s t u e

  by_side : (letter : ℕ) (t : Bool) → cond t (entry_of letter len) None ≡ Some entry → entry_size entry ≡ len
  by_side letter true e = by_letter (letter == 83) (letter == 66) (letter == 75) (letter == 80) e
  by_side letter false e = absurd (cc)

pub bytes_are : (side : Side) (entry : Entry) (letter len : ℕ) → entry_with side letter len ≡ Some entry
    → entry_size entry ≡ len
bytes_are side entry letter len e = by_side entry len letter (has_letter side letter) e

-- an entry that is spelled is read
module _ (side : Side) (entry : Entry) (letter a b : ℕ) (bytes more : List ℕ) (told : big_number 2 (a ∷ b ∷ [])
    ≡ length bytes) (says : entry_with side letter (length bytes) ≡ Some entry) where
  abbrev text : List ℕ
  text = letter ∷ a ∷ b ∷ (bytes ++ more)

  size : entry_size entry ≡ length bytes
  size = bytes_are side entry letter (length bytes) says

  begins : entry_begun side text ≡ Some entry
  begins = long_begins side text (omega arith) ∙ ap (λ (n : ℕ). entry_with side letter n) told ∙ says

  pub spelled_is_read : entry_in side text ≡ Some entry
  spelled_is_read =
      let all : reach side text ≤ length text = omega (arith, ap entry_reach begins, size, length-append bytes more) in
      whole_entry side text all ∙ begins

  pub spelled_bytes : take (entry_size entry) (drop 3 text) ≡ bytes
  spelled_bytes = ap (λ (n : ℕ). take n (bytes ++ more)) size ∙ take-append_seam bytes more

  pub spelled_after : drop (3 + entry_size entry) text ≡ more
  spelled_after =
      let place : 3 + entry_size entry ≡ suc (suc (suc (length bytes))) = omega (arith, size) in
      ap (λ (n : ℕ). drop n text) place ∙ drop-append_seam bytes more

module _ (side : Side) (entry : Entry) (parts : EntryParts) (more : List ℕ) (is : IsEntry side entry parts) where
  two_bytes : (size : List ℕ) → length size ≡ 2 → (a : ℕ) × (b : ℕ) × (size ≡ a ∷ b ∷ [])
  two_bytes [] two = absurd (omega (arith, two))
  two_bytes (a ∷ []) two = absurd (omega (arith, two))
  two_bytes (a ∷ b ∷ []) two = (a, b, refl)
  two_bytes (a ∷ b ∷ c ∷ size) two = absurd (omega (arith, two))

  abbrev whole : List ℕ
  whole = text_of_entry parts ++ more

  abbrev size_of : (a : ℕ) × (b : ℕ) × (parts.size ≡ a ∷ b ∷ [])
  size_of = two_bytes parts.size is.two

  told_of : big_number 2 (size_of.0 ∷ size_of.1 ∷ []) ≡ length parts.bytes
  told_of = ap (big_number 2) (sym size_of.2) ∙ is.told

  whole_is : whole ≡ parts.letter ∷ size_of.0 ∷ size_of.1 ∷ (parts.bytes ++ more)
  whole_is = ap (λ (l : List ℕ). ((parts.letter ∷ l) ++ parts.bytes) ++ more) size_of.2

  -- an entry is found where its text stands
  pub entry_found : entry_in side (text_of_entry parts ++ more) ≡ Some entry
  entry_found = ap (entry_in side) whole_is
      ∙ spelled_is_read side entry parts.letter size_of.0 size_of.1 parts.bytes more told_of is.says

  -- with its bytes
  pub bytes_found : take (entry_size entry) (drop 3 (text_of_entry parts ++ more)) ≡ parts.bytes
  bytes_found = ap (λ (l : List ℕ). take (entry_size entry) (drop 3 l)) whole_is
      ∙ spelled_bytes side entry parts.letter size_of.0 size_of.1 parts.bytes more told_of is.says

  -- and what lies after it
  pub after_found : drop (3 + entry_size entry) (text_of_entry parts ++ more) ≡ more
  after_found = ap (λ (l : List ℕ). drop (3 + entry_size entry) l) whole_is
      ∙ spelled_after side entry parts.letter size_of.0 size_of.1 parts.bytes more told_of is.says

  pub text_len : length (text_of_entry parts) ≡ 3 + entry_size entry
  text_len = omega (
    arith,
    length-append (parts.letter ∷ parts.size) parts.bytes,
    is.two,
    bytes_are side entry parts.letter (length parts.bytes) is.says,
  )

-- what is written has such parts
pub written : (side : Side) (entry : Entry) (letter : ℕ) (bytes : List ℕ) → length bytes ≤ 65535
    → entry_with side letter (length bytes) ≡ Some entry
    → IsEntry side entry (record { letter = letter; size = big_bytes 2 (length bytes); bytes = bytes })
written side entry letter bytes few says = record {
  two = length-bytes_high_first 2 (length bytes);
  told = ap (big_number 2) (sym (append-nil (big_bytes 2 (length bytes))))
      ∙ big_number-reads_back 2 (length bytes) [] (omega (arith, few));
  says = says;
}

-- what is read has such parts
read_cases : (side : Side) (entry : Entry) (text : List ℕ) (t : Bool) → nat_lt (length text) (reach side text) ≡ t
    → cond t None (entry_begun side text) ≡ Some entry → (entry_begun side text ≡ Some entry)
    × (reach side text ≤ length text)
read_cases side entry text true short e = absurd (cc)
read_cases side entry text false long e = (e, ltb-false (length text) (reach side text) long)

pub read_whole : (side : Side) (entry : Entry) (text : List ℕ) → entry_in side text ≡ Some entry
    → (entry_begun side text ≡ Some entry) × (reach side text ≤ length text)
read_whole side entry text e = read_cases side entry text (nat_lt (length text) (reach side text)) refl e

abbrev parts_in : ℕ → List ℕ → EntryParts
parts_in n text = record { letter = get_or text 0 0; size = take 2 (drop 1 text); bytes = take n (drop 3 text) }

module _ (side : Side) (entry : Entry) where
  spells : (text : List ℕ) → entry_begun side text ≡ Some entry → reach side text ≤ length text
      → IsEntry side entry (parts_in (entry_size entry) text) × (text ≡ text_of_entry (parts_in (entry_size entry) text)
      ++ drop (3 + entry_size entry) text)
  spells [] is all = absurd (omega (arith, begins_long side [] entry is))
  spells (a ∷ []) is all = absurd (omega (arith, begins_long side (a ∷ []) entry is))
  spells (a ∷ b ∷ []) is all = absurd (omega (arith, begins_long side (a ∷ b ∷ []) entry is))
  spells (a ∷ b ∷ c ∷ text) is all =
      let says : entry_with side a (big_number 2 (b ∷ c ∷ []))
      ≡ Some entry = sym (long_begins side (a ∷ b ∷ c ∷ text) (omega arith)) ∙ is in
      let told : entry_size entry ≡ big_number 2 (b ∷ c ∷ []) = bytes_are side entry a (big_number 2 (b ∷ c ∷ [])) says
      in
      let there : length (take (entry_size entry) text)
      ≡ entry_size entry = omega (arith, length-take (entry_size entry) text, ap entry_reach is, all) in
      let place : 3 + entry_size entry ≡ suc (suc (suc (entry_size entry))) = omega arith in (
        record {
          two = refl;
          told = sym (there ∙ told);
          says = ap (λ (n : ℕ). entry_with side a n) (there ∙ told)
              ∙ says;
        },
        ap (λ (l : List ℕ). a ∷ b ∷ c ∷ l) (sym (take-append-drop (entry_size entry) text))
            ∙ ap (λ (n : ℕ). a ∷ b ∷ c ∷ (take (entry_size entry) text ++ drop n (a ∷ b ∷ c ∷ text))) (sym place),
      )

  -- an entry that is found has its text there
  pub entry_is : (text : List ℕ) → entry_in side text ≡ Some entry → (parts : EntryParts) × IsEntry side entry parts
      × (text ≡ text_of_entry parts ++ drop (3 + entry_size entry) text)
      × (parts.bytes ≡ take (entry_size entry) (drop 3 text))
  entry_is text e =
      let h = read_whole side entry text e in
      let s = spells text h.0 h.1 in
      (parts_in (entry_size entry) text, s.0, s.1, refl)

  -- a whole entry stays one where the text is cut after it
  pub stays : (text : List ℕ) (k : ℕ) → entry_in side text ≡ Some entry → 3 + entry_size entry ≤ k
      → entry_in side (take k text) ≡ Some entry
  stays text k e le =
      let h = read_whole side entry text e in
      let begins : entry_begun side (take k text) ≡ Some entry = begins_front side k text (omega (arith, le)) ∙ h.0 in
      let all : reach side (take k text) ≤ length (take k text) = omega (
        arith,
        ap entry_reach begins,
        ap entry_reach h.0,
        h.1,
        length-take k text,
        le,
      ) in
      whole_entry side (take k text) all ∙ begins
