-- The rule that is told of a log is broken by its picture, and nothing before it breaks one.
use Rattle.std.proofs.Common.{Ok, Err, ◌∙◌, ap, None, ◌≡◌, ◌⊎◌, inl, inr, ℕ, ◌+◌, ◌%◌, ◌<◌, ◌≤◌, Bool, true, false, refl, sym, subst, arith, Some, Option, List, [], ◌∷◌, length, eqb, leb}
use Rattle.std.specs.Prelude.{if◌then◌else◌, Result, not}
use Rattle.std.specs.Option.{option_map, option_map_or}
use Rattle.std.proofs.lemmas.Bool.{and_from, and_parts, eqb-true, eq-eqb, false≢true, le-leb, leb-true, lt-ltb}
use Rattle.call_model.specs.Numbers.{AllBelowIs}
use Rattle.call_model.specs.Coding.{Rules, window, period, Slice, has_mb, Header, Piece, Message, Decoding, same_header}
use Rattle.call_model.specs.CodedPictures.{is_among}
use Rattle.call_model.specs.Receiving.{none_in}
use Rattle.call_model.specs.Sending.{nearest_below}
use Rattle.call_model.specs.Lawful.{IsDecoding}
use Rattle.stream_audit.specs.declared.verdict.Broken.{Broken}
use Rattle.stream_audit.specs.declared.verdict.Rule.{Rule}
use Rattle.stream_audit.specs.declared.verdict.Rule.TheVariants as rule
use Rattle.stream_audit.specs.declared.verdict.Verdict.{Verdict}
use Rattle.stream_audit.specs.declared.verdict.Verdict.TheVariants.{Yes, No}
use Rattle.stream_audit.specs.Breaks.{Breaks, BreaksFirst, IsOfLast, IsOfNext, LacksAtEnd, LastIsWhole, NoIsFirst, NoneBreaks}
use Rattle.stream_audit.specs.Sound.{IsReadable}
use Rattle.stream_audit.specs.Stream.{LogEntry, Sent, Fed, Item, StreamPicture, is_of_piece, known_of, last_picture, pictures_in, stream_of}
use Rattle.stream_audit.specs.Verdict.{broken_at, broken_by, broken_in, broken_next, broken_within, first_broken, first_broken_of, has, item_has_reference, is_picture_whole, last_is_whole, may_refer, present, verdict_by}
use Rattle.stream_audit.proofs.Headers.{header_self, same_header_is}
use Rattle.stream_audit.proofs.Verdicts.{none_of}

-- ---- tests

clash : (b : Bool) → b ≡ true → b ≡ false → ⊥
clash b yes' no' = false≢true (sym no' ∙ yes')

turned : (b : Bool) → not b ≡ true → b ≡ false
turned true e = sym e
turned false e = refl

kept : (b : Bool) → not b ≡ false → b ≡ true
kept true e = refl
kept false e = sym e

-- a macroblock of a slice
held_at : {Mb : Type 0} (slice : Slice Mb) (i : ℕ) → i < length slice.mbs → has_mb slice (slice.first + i) ≡ true
unfolding has_mb
held_at slice i lt = and_from _ _ (le-leb slice.first (slice.first + i) (omega arith))
    (lt-ltb (slice.first + i) (slice.first + length slice.mbs) (omega (arith, lt)))

opposite : (b : Bool) → b ≡ false → not b ≡ true
opposite true e = sym e
opposite false e = refl

-- where the macroblocks of a slice are all new, the test says so
all_new : AllBelowIs → {Mb : Type 0} (slice : Slice Mb) (test : ℕ → Bool)
    → ((k : ℕ) → has_mb slice k ≡ true → test k ≡ false) → none_in slice test ≡ true
all_new below slice test fresh =
    (below (length slice.mbs) (λ i. not (test (slice.first + i)))).1 (λ i lt. opposite (test (slice.first + i))
    (fresh (slice.first + i) (held_at slice i lt)))

module _ {Style Mb P Fault MessageFault : Type 0} (decoding : Decoding Style Mb P Fault) (read : List ℕ
    → Result Message MessageFault) (rules : Rules) (lawful : IsDecoding decoding rules) (below : AllBelowIs) where
  -- ---- the last picture

  whole_told : (items : List (Item Style Mb)) → last_is_whole rules items ≡ true → LastIsWhole rules items
  whole_told items is p last k lt =
      (below rules.mbs (has p)).0
      (ap (λ (o : Option (StreamPicture Style Mb)). option_map_or (is_picture_whole rules) o true)
      (sym last) ∙ is) k lt

  whole_tested : (items : List (Item Style Mb)) (o : Option (StreamPicture Style Mb)) → last_picture items ≡ o
      → LastIsWhole rules items → option_map_or (is_picture_whole rules) o true ≡ true
  whole_tested items None last whole = refl
  whole_tested items (Some p) last whole = (below rules.mbs (has p)).1 (λ k lt. whole p last k lt)

  module _ (items : List (Item Style Mb)) (bytes : List ℕ) where
    abbrev B : ℕ → Rule → Type 0
    B n r = Breaks decoding read rules items bytes n r

    -- what is told of the packet holds of it
    abbrev Holds : Option Broken → Type 0
    Holds None = (n : ℕ) (r : Rule) → B n r → ⊥
    Holds (Some b) = B b.number b.rule

    holds_if : (t : Bool) (x y : Option Broken) → (t ≡ true → Holds x) → (t ≡ false → Holds y)
        → Holds (if t then x else y)
    holds_if true x y one two = one refl
    holds_if false x y one two = two refl

    abbrev at_present : Option Rule → Option Broken
    at_present o = option_map (broken_at (present items)) o

    holds_at : (t : Bool) (x y : Option Rule) → (t ≡ true → Holds (at_present x)) → (t ≡ false → Holds (at_present y))
        → Holds (at_present (if t then x else y))
    holds_at true x y one two = one refl
    holds_at false x y one two = two refl

    module _ (piece : Piece Style Mb) (is : decoding.read bytes ≡ Ok piece) where
      same_piece : (q : Piece Style Mb) → decoding.read bytes ≡ Ok q → q ≡ piece
      same_piece q there = let e : Ok q ≡ Ok piece = sym there ∙ is in cc

      module _ (half : piece.header.half ≡ rules.half) where
        readable : IsReadable decoding rules bytes
        readable = (piece, is, half)

        -- ---- a packet of the last picture

        module _ (p : StreamPicture Style Mb) (last : last_picture items ≡ Some p) (number : p.header.number
            ≡ piece.header.number) where
          abbrev own : IsOfLast decoding rules items bytes
          own = record { picture = p; last = last; piece = piece; read_as = is; half = half; number = number }

          same_picture : (y : IsOfLast decoding rules items bytes) → y.picture ≡ p
          same_picture y = let e : Some y.picture ≡ Some p = sym y.last ∙ last in cc

          not_next : IsOfNext decoding rules items bytes → ⊥
          not_next y = y.number p last (number
              ∙ ap (λ (q : Piece Style Mb). q.header.number) (sym (same_piece y.piece y.read_as)))

          other_header : same_header decoding p.header piece.header ≡ false → B (present items) rule.Header
          other_header differ = (
            refl,
            own,
            λ (e : piece.header ≡ p.header). clash (same_header decoding p.header piece.header)
                (subst (λ (h : Header Style). same_header decoding p.header h ≡ true) (sym e)
                (header_self decoding rules lawful p.header)) differ,
          )

          taken_twice : none_in piece.slice (has p) ≡ false → B (present items) rule.Overlap
          taken_twice some = (
            refl,
            own,
            λ fresh. clash (none_in piece.slice (has p)) (all_new below piece.slice (has p) fresh) some,
          )

          sound_there : same_header decoding p.header piece.header ≡ true → none_in piece.slice (has p) ≡ true
              → (n : ℕ) (r : Rule) → B n r → ⊥
          sound_there same fresh n rule.Packet h = h.1 readable
          sound_there same fresh n rule.Header h =
              h.2
              (ap (λ (q : Piece Style Mb). q.header) (same_piece h.1.piece h.1.read_as)
              ∙ sym (same_header_is decoding rules lawful p.header piece.header same)
              ∙ ap (λ (q : StreamPicture Style Mb). q.header) (sym (same_picture h.1)))
          sound_there same fresh n rule.Overlap h =
              h.2
              (λ k held.
              subst (λ (q : StreamPicture Style Mb). has q k ≡ false) (sym (same_picture h.1))
              (none_of below piece.slice (has p) k fresh (subst (λ (q : Piece Style Mb). has_mb q.slice k
              ≡ true) (same_piece h.1.piece h.1.read_as) held)))
          sound_there same fresh n rule.Gap h = not_next h.1
          sound_there same fresh n rule.Number h = not_next h.1
          sound_there same fresh n rule.Reference h = not_next h.1

          own_holds : Holds (at_present (broken_within decoding read rules (Some p) piece))
          own_holds =
              holds_at (not (same_header decoding p.header piece.header)) (Some rule.Header) _
              (λ t. other_header (turned _ t))
              (λ t. holds_at (not (none_in piece.slice (has p))) (Some rule.Overlap) None
              (λ u. taken_twice (turned _ u)) (λ u. sound_there (kept _ t) (kept _ u)))

        -- ---- a packet of the next picture

        module _ (apart : (p : StreamPicture Style Mb) → last_picture items ≡ Some p
            → p.header.number ≡ piece.header.number → ⊥) where
          abbrev next : IsOfNext decoding rules items bytes
          next = record { piece = piece; read_as = is; half = half; number = apart }

          not_last : IsOfLast decoding rules items bytes → ⊥
          not_last y = apart y.picture y.last (y.number
              ∙ ap (λ (q : Piece Style Mb). q.header.number) (same_piece y.piece y.read_as))

          abbrev count : ℕ
          count = pictures_in items

          abbrev known : List ℕ
          known = known_of read rules items

          abbrev MayRefer : ℕ → ℕ → Type 0
          MayRefer rest m = (nearest_below rules count rest ≡ Some m) × (count ≤ m + window rules)
              × (is_among known m ≡ true)

          -- what the test of a reference says
          referred : (rest : ℕ) (o : Option ℕ) → nearest_below rules count rest ≡ o
              → option_map_or (may_refer rules known count) o false ≡ true → (m : ℕ) × MayRefer rest m
          referred rest None there e = absurd (false≢true e)
          referred rest (Some m) there e =
              let parts = and_parts (is_among known m) (leb count (m + window rules)) e in
              (m, (there, leb-true _ _ parts.1, parts.0))

          tested : (rest m : ℕ) → MayRefer rest m
              → option_map_or (may_refer rules known count) (nearest_below rules count rest) false ≡ true
          tested rest m may =
              ap (λ (o : Option ℕ). option_map_or (may_refer rules known count) o false) may.0
              ∙ and_from _ _ may.2 (le-leb count (m + window rules) may.1)

          none_known : (o : Option ℕ) → piece.header.reference ≡ o
              → option_map_or (λ rest. option_map_or (may_refer rules known count) (nearest_below rules count rest)
              false) o true ≡ false → B count rule.Reference
          none_known None there e = absurd (false≢true (sym e))
          none_known (Some rest) there e =
              (refl, next, rest, there, λ m near close is_known. clash _ (tested rest m (near, close, is_known)) e)

          no_gap : last_is_whole rules items ≡ false → B (present items) rule.Gap
          no_gap lacks = (
            refl,
            next,
            λ whole. clash (last_is_whole rules items) (whole_tested items (last_picture items) refl whole) lacks,
          )

          other_number : eqb piece.header.number (count % period rules) ≡ false → B count rule.Number
          other_number differ = (
            refl,
            next,
            λ (e : piece.header.number ≡ count % period rules). clash _
                (eq-eqb piece.header.number (count % period rules) e) differ,
          )

          sound_next : last_is_whole rules items ≡ true → eqb piece.header.number (count % period rules) ≡ true
              → item_has_reference decoding read rules items piece.header ≡ true → (n : ℕ) (r : Rule) → B n r → ⊥
          sound_next whole number reference n rule.Packet h = h.1 readable
          sound_next whole number reference n rule.Header h = not_last h.1
          sound_next whole number reference n rule.Overlap h = not_last h.1
          sound_next whole number reference n rule.Gap h = h.2 (whole_told items whole)
          sound_next whole number reference n rule.Number h =
              h.2
              (ap (λ (q : Piece Style Mb). q.header.number) (same_piece h.1.piece h.1.read_as)
              ∙ eqb-true piece.header.number (count % period rules) number
              ∙ ap (λ (k : ℕ). k % period rules) (sym h.0))
          sound_next whole number reference n rule.Reference h =
              let named : piece.header.reference ≡ Some h.2 = ap (λ (q : Piece Style Mb). q.header.reference)
              (sym (same_piece h.1.piece h.1.read_as)) ∙ h.3 in
              let r = referred h.2 (nearest_below rules count h.2) refl
              (ap (λ (o : Option ℕ). option_map_or (λ rest. option_map_or (may_refer rules known count)
              (nearest_below rules count rest) false) o true) (sym named) ∙ reference)
              in
              h.4 r.0 (ap (λ (k : ℕ). nearest_below rules k h.2) h.0 ∙ r.1.0) (omega (arith, h.0, r.1.1)) r.1.2

          next_holds : Holds (broken_next decoding read rules items piece)
          next_holds =
              holds_if (not (last_is_whole rules items)) (Some (broken_at (present items) rule.Gap)) _
              (λ t. no_gap (turned _ t))
              (λ t. holds_if (not (eqb piece.header.number (count % period rules))) (Some (broken_at count rule.Number))
              _ (λ u. other_number (turned _ u))
              (λ u. holds_if (not (item_has_reference decoding read rules items piece.header))
              (Some (broken_at count rule.Reference)) None
              (λ v. none_known piece.header.reference refl (turned _ v)) (λ v. sound_next (kept _ t) (kept _ u)
              (kept _ v))))

        by_last : (o : Option (StreamPicture Style Mb)) → last_picture items ≡ o → is_of_piece o piece ≡ true
            → Holds (at_present (broken_within decoding read rules o piece))
        by_last None last t = absurd (false≢true t)
        by_last (Some p) last t = own_holds p last (eqb-true p.header.number piece.header.number t)

        apart_from : is_of_piece (last_picture items) piece ≡ false → (p : StreamPicture Style Mb)
            → last_picture items ≡ Some p → p.header.number ≡ piece.header.number → ⊥
        apart_from t p last number =
            clash (is_of_piece (last_picture items) piece)
            (ap (λ (o : Option (StreamPicture Style Mb)). is_of_piece o piece) last
            ∙ eq-eqb p.header.number piece.header.number number) t

      other_clock : eqb piece.header.half rules.half ≡ false → B (present items) rule.Packet
      other_clock differ = (
        refl,
        λ fits.
            clash (eqb piece.header.half rules.half)
            (eq-eqb piece.header.half rules.half (ap (λ (q : Piece Style Mb). q.header.half)
            (sym (same_piece fits.0 fits.1)) ∙ fits.2)) differ,
      )

    packet_holds : (r : Result (Piece Style Mb) Fault) → decoding.read bytes ≡ r
        → Holds (broken_by decoding read rules items r)
    packet_holds (Err fault) is = (refl, λ fits. let e : Err fault ≡ Ok fits.0 = sym is ∙ fits.1 in absurd (cc e))
    packet_holds (Ok piece) is =
        holds_if (not (eqb piece.header.half rules.half)) (Some (broken_at (present items) rule.Packet)) _
        (λ t. other_clock piece is (turned _ t))
        (λ t.
        let half = eqb-true piece.header.half rules.half (kept _ t) in
        holds_if (is_of_piece (last_picture items) piece) _ _ (by_last piece is half (last_picture items) refl)
        (λ u. next_holds piece is half (apart_from piece is half u)))

  -- ---- a log

  abbrev no_break : List LogEntry → Type 0
  no_break log = NoneBreaks decoding read rules log

  abbrev found_in : LogEntry → List LogEntry → Option Broken
  found_in e past = broken_in decoding read rules (stream_of decoding past) e

  first_none : (x y : Option Broken) → first_broken_of x y ≡ None → (x ≡ None) × (y ≡ None)
  first_none None y e = (refl, e)
  first_none (Some b) y e = absurd (cc e)

  none_broken : (log : List LogEntry) → first_broken decoding read rules log ≡ None → no_break log
  none_broken [] e = tt
  none_broken (Sent bytes ∷ past) e =
      let both = first_none (first_broken decoding read rules past) (found_in (Sent bytes) past) e in (
        subst (λ (o : Option Broken). Holds (stream_of decoding past) bytes o) both.1
            (packet_holds (stream_of decoding past) bytes (decoding.read bytes) refl),
        none_broken past both.0,
      )
  none_broken (Fed bytes ∷ past) e = none_broken past (first_none (first_broken decoding read rules past) None e).0

  abbrev First : List LogEntry → Broken → Type 0
  First log b = BreaksFirst decoding read rules log b.number b.rule

  later_too : (e : LogEntry) (past : List LogEntry) (b : Broken) → First past b → First (e ∷ past) b
  later_too e past b f = record {
    later = e ∷ f.later;
    bytes = f.bytes;
    past = f.past;
    split = ap (λ (l : List LogEntry). e ∷ l) f.split;
    breaks = f.breaks;
    none = f.none;
  }

  one_broken : (log : List LogEntry) (b : Broken) → first_broken decoding read rules log ≡ Some b → First log b
  one_broken [] b e = absurd (cc e)
  one_broken (x ∷ past) b e = by_past (first_broken decoding read rules past) refl (one_broken past) x e
    where
      same_break : (c : Broken) → Some c ≡ Some b → c ≡ b
      same_break c e = cc

      here : (x : LogEntry) → first_broken decoding read rules past ≡ None → found_in x past ≡ Some b
          → First (x ∷ past) b
      here (Sent bytes) none e = record {
        later = [];
        bytes = bytes;
        past = past;
        split = refl;
        breaks = subst (λ (o : Option Broken). Holds (stream_of decoding past) bytes o) e
            (packet_holds (stream_of decoding past) bytes (decoding.read bytes) refl);
        none = none_broken past none;
      }
      here (Fed bytes) none e = absurd (cc e)

      by_past : (o : Option Broken) → first_broken decoding read rules past ≡ o
          → ((c : Broken) → first_broken decoding read rules past ≡ Some c → First past c)
          → (x : LogEntry) → first_broken_of o (found_in x past) ≡ Some b → First (x ∷ past) b
      by_past None is before x e = here x is e
      by_past (Some c) is before x e = later_too x past b (before b (is ∙ e))

  verdict_no : (n m : ℕ) (r s : Rule) → No n r ≡ No m s → (m ≡ n) × (s ≡ r)
  verdict_no n m r s e = (ap number_of (sym e), ap rule_of (sym e))
    where
      number_of : Verdict → ℕ
      number_of (Yes k) = k
      number_of (No k q) = k

      rule_of : Verdict → Rule
      rule_of (Yes k) = r
      rule_of (No k q) = q

  pub no_is_first : NoIsFirst decoding read rules
  no_is_first log n r = by_first (first_broken decoding read rules log) refl
    where
      at_end : (t : Bool) → last_is_whole rules (stream_of decoding log) ≡ t → first_broken decoding read rules log
          ≡ None
          → (if t then Yes (pictures_in (stream_of decoding log)) else No (present (stream_of decoding log)) rule.Gap)
          ≡ No n r → LacksAtEnd decoding read rules log n r
      at_end true is none e = absurd (cc e)
      at_end false is none e =
          let told = verdict_no (present (stream_of decoding log)) n rule.Gap r e in
          record {
            rule = told.1;
            number = told.0;
            lacks = λ whole. clash (last_is_whole rules (stream_of decoding log)) (whole_tested (stream_of decoding log)
                (last_picture (stream_of decoding log)) refl whole) is;
            none = none_broken log none;
          }

      by_first : (o : Option Broken) → first_broken decoding read rules log ≡ o
          → verdict_by decoding read rules o (stream_of decoding log) ≡ No n r → BreaksFirst decoding read rules log n r
          ⊎ LacksAtEnd decoding read rules log n r
      by_first None is e = inr (at_end (last_is_whole rules (stream_of decoding log)) refl is e)
      by_first (Some b) is e =
          let told = verdict_no b.number n b.rule r e in
          inl
          (subst (λ (k : ℕ). BreaksFirst decoding read rules log k r) (sym told.0)
          (subst (λ (s : Rule). BreaksFirst decoding read rules log b.number s) (sym told.1) (one_broken log b is)))
