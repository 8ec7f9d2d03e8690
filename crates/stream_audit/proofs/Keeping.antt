-- What an audit judges by what it keeps is what the rules say of the stream.
use Rattle.std.proofs.Common.{Result, Ok, ◌++◌, ◌||◌, ◌∙◌, ap, None, ◌≡◌, ℕ, ◌+◌, ◌-◌, ◌<◌, ◌≤◌, Bool, true, false, ◌&&◌, refl, sym, subst, arith, Some, Option, List, ◌∷◌}
use Rattle.std.specs.Prelude.{if◌then◌else◌, not, ◌==◌}
use Rattle.std.specs.Result.{result_ok}
use Rattle.back_messages.specs.declared.message.MessageFault.{MessageFault}
use Rattle.reference_selector.specs.declared.Selector.{Selector}
use Rattle.reference_selector.specs.Stands.{SelectorStands}
use Rattle.std.specs.Option.{option_map, option_map_or}
use Rattle.std.proofs.lemmas.Bool.{and_right, false_from_ne_true, le-leb, lt-leb}
use Rattle.h263_types.specs.declared.blocks.Mb.{Mb}
use Rattle.h263_types.specs.Blocks.{IsHeadOf}
use Rattle.h263_types.specs.Sizes.{mbs_of}
use Rattle.picture_header.specs.declared.header.Header.{Header}
use Rattle.packet_collector.specs.declared.piece.Piece.{Piece}
use Rattle.packet_collector.specs.declared.piece.Place.{Place}
use Rattle.packet_collector.specs.declared.piece.Place.TheVariants as places
use Rattle.packet_collector.specs.Taken.{TakenLaws, IsPlace, HasNoOther, HasOther, is_mb_taken, is_whole}
use Rattle.packet_collector.specs.Taken as kept
use Rattle.call_model.specs.Numbers.{all_below, AllBelowIs}
use Rattle.call_model.specs.Coding as call
use Rattle.call_model.specs.CodedPictures.{is_among}
use Rattle.call_model.specs.Receiving.{none_in}
use Rattle.call_model.specs.Sending.{nearest_below, known_by_feedback}
use Rattle.call_model.specs.Lawful.{IsDecoding}
use Rattle.call_decoding.specs.Rules.{rules_of}
use Rattle.call_decoding.specs.Styles.{Style, call_header_of, header_from}
use Rattle.stream_audit.specs.declared.kept.Kept.{Kept}
use Rattle.stream_audit.specs.declared.verdict.Rule.{Rule}
use Rattle.stream_audit.specs.declared.verdict.Rule.TheVariants as rule
use Rattle.receiver_end.specs.Decoding.{decoding}
use Rattle.call_encoding.specs.Messages.{read_message}
use Rattle.stream_audit.specs.State.{IsLast, IsTakenOf, AuditKeeps, SpellsSlice}
use Rattle.stream_audit.specs.Stream.{Item, Feedback, StreamPicture, last_picture, pictures_in, known_of}
use Rattle.stream_audit.specs.Verdict.{broken_within, has, last_is_whole, may_refer}
use Rattle.stream_audit.specs.Verdict as rules_for
use Rattle.stream_audit.proofs.Lists.{all_below_same, any_append, not_none}
use Rattle.stream_audit.proofs.Headers.{header_self, same_header_is}

not_both : (b : Bool) → b ≡ true → not b ≡ true → ⊥
not_both true e f = cc
not_both false e f = cc

-- where all are taken, not none is
some_of_all : AllBelowIs → (count : ℕ) (f : ℕ → Bool) → 0 < count → all_below count f ≡ true
    → all_below count (λ i. not (f i)) ≡ false
some_of_all below count f some all = false_from_ne_true _ (λ none. not_both (f 0) ((below count f).0 all 0 some)
    ((below count (λ i. not (f i))).0 none 0 some))

-- the rule that a slice breaks by its place
abbrev pub rule_of : Place → Option Rule
rule_of places.HeaderDiffers = Some rule.Header
rule_of places.Repeat = Some rule.Overlap
rule_of places.Overlap = Some rule.Overlap
rule_of places.Fresh = None

module _ (laws : TakenLaws) (whole : (h : Header) → header_from (call_header_of h) ≡ h) (k : Kept)
    (lawful : IsDecoding (decoding k.params.format) (rules_of k.params)) (below : AllBelowIs) where
  module _ (items : List (Item Style Mb)) (p : StreamPicture Style Mb) (piece : Piece) (q : call.Piece Style Mb)
      (keeps : AuditKeeps k items) (is : last_picture items ≡ Some p) (head : IsHeadOf k.params.format piece.head)
      (spells : SpellsSlice piece q) where
    of_last : IsTakenOf p (k.pictures - 1) (mbs_of k.params.format) keeps.taken
    of_last = subst (λ (o : Option (StreamPicture Style Mb)). IsLast o (k.pictures - 1) (mbs_of k.params.format)
        keeps.taken) is keeps.last

    same_from : HasNoOther keeps.taken (k.pictures - 1) piece.header
        → call.same_header (decoding k.params.format) p.header q.header ≡ true
    same_from no_other =
        let m = laws.member keeps.taken (k.pictures - 1) of_last.some in
        let equal : p.header ≡ q.header = sym (of_last.header m.0 m.1 m.2) ∙ ap call_header_of (no_other m.0 m.1 m.2)
        ∙ sym spells.header in
        subst (λ (h : call.Header Style). call.same_header (decoding k.params.format) p.header h ≡ true) equal
        (header_self (decoding k.params.format) (rules_of k.params) lawful p.header)

    other_from : HasOther keeps.taken (k.pictures - 1) piece.header
        → call.same_header (decoding k.params.format) p.header q.header ≡ false
    other_from other = false_from_ne_true _ (λ e.
        let equal : p.header ≡ q.header = same_header_is (decoding k.params.format) (rules_of k.params) lawful p.header
        q.header e in
        let seen : call_header_of other.0.piece.header ≡ call_header_of piece.header =
        of_last.header other.0 other.1 other.2
        ∙ equal ∙ spells.header in
        other.3 (sym (whole other.0.piece.header) ∙ ap header_from seen ∙ whole piece.header))

    marked : (i : ℕ) → i < piece.head.count → has p (q.slice.first + i)
        ≡ is_mb_taken keeps.taken (k.pictures - 1) (piece.head.first + i)
    marked i lt = ap (λ (m : ℕ). has p (m + i)) spells.first
        ∙ sym (of_last.marks (piece.head.first + i) (omega (arith, lt, head.within)))

    none_same : none_in q.slice (has p) ≡ kept.none_in_head piece.head (is_mb_taken keeps.taken (k.pictures - 1))
    none_same =
        ap (λ (m : ℕ). all_below m (λ i. not (has p (q.slice.first + i)))) spells.count
        ∙ all_below_same piece.head.count _ _ (λ i lt. ap not (marked i lt))

    broken : (same none : Bool) → call.same_header (decoding k.params.format) p.header q.header ≡ same
        → none_in q.slice (has p) ≡ none
        → broken_within (decoding k.params.format) (read_message k.params.clock) (rules_of k.params) (Some p) q
        ≡ (if not same then Some rule.Header else if not none then Some rule.Overlap else None)
    broken same none e f = λ i. if not (e i) then Some rule.Header else if not (f i) then Some rule.Overlap else None

    pub within_is : (place : Place) → IsPlace keeps.taken (k.pictures - 1) piece place
        → rule_of place ≡ broken_within (decoding k.params.format) (read_message k.params.clock) (rules_of k.params)
        (Some p) q
    within_is places.HeaderDiffers at = sym (broken false _ (other_from at) refl)
    within_is places.Repeat at = sym (broken true false (same_from at.0) (none_same
        ∙ some_of_all below piece.head.count _ head.some at.1))
    within_is places.Overlap at = sym (broken true false (same_from at.0) (none_same ∙ at.2))
    within_is places.Fresh at = sym (broken true true (same_from at.0) (none_same ∙ at.2))

-- the last picture is whole where all its macroblocks are taken
pub whole_is : (k : Kept) (items : List (Item Style Mb)) (keeps : AuditKeeps k items) (p : StreamPicture Style Mb)
    → last_picture items ≡ Some p
    → is_whole k.params.format keeps.taken (k.pictures - 1) ≡ last_is_whole (rules_of k.params) items
whole_is k items keeps p is =
    let last = subst (λ (o : Option (StreamPicture Style Mb)). IsLast o (k.pictures - 1) (mbs_of k.params.format)
    keeps.taken) is keeps.last in
    all_below_same (mbs_of k.params.format) _ _ (λ m lt. last.marks m lt)
    ∙ ap (λ (o : Option (StreamPicture Style Mb)). option_map_or (rules_for.is_picture_whole (rules_of k.params)) o
    true)
    (sym is)

-- the last picture, if its number is kept
last_is : (k : Kept) (items : List (Item Style Mb)) → AuditKeeps k items → (o : Option (StreamPicture Style Mb))
    → last_picture items ≡ o → k.tr ≡ None → o ≡ None
last_is k items keeps None is none = refl
last_is k items keeps (Some p) is none =
    absurd (not_none p.header.number (sym (keeps.tr
    ∙ ap (option_map (λ (x : StreamPicture Style Mb). x.header.number)) is) ∙ none))

-- the next picture of a stream of n may have the reference that is named
abbrev pub referred : call.Rules → List ℕ → ℕ → Option ℕ → Bool
referred rules known n o = option_map_or (may_refer rules known n) o false

far : (rules : call.Rules) (known : List ℕ) (n m : ℕ) → m + call.window rules < n → may_refer rules known n m ≡ false
far rules known n m lt = and_right _ _ (lt-leb n (m + call.window rules) lt)

near : (rules : call.Rules) (known : List ℕ) (n m : ℕ) → n ≤ m + call.window rules → may_refer rules known n m
    ≡ is_among known m
near rules known n m le = rw (le-leb n (m + call.window rules) le) (go (is_among known m))
  where
    go : (b : Bool) → (b && true) ≡ b
    go true = refl
    go false = refl

module _ (k : Kept) (items : List (Item Style Mb)) (keeps : AuditKeeps k items) (rest : ℕ) where
  abbrev known : List ℕ
  known = known_of (read_message k.params.clock) (rules_of k.params) items

  abbrev Reference : Option ℕ → Bool
  Reference o = referred (rules_of k.params) known (pictures_in items) o

  named : (o : Option ℕ) → nearest_below (rules_of k.params) k.pictures rest ≡ o
      → nearest_below (rules_of k.params) (pictures_in items) rest ≡ o
  named o e = ap (λ (n : ℕ). nearest_below (rules_of k.params) n rest) (sym keeps.count) ∙ e

  pub near_named : (m : ℕ) → nearest_below (rules_of k.params) k.pictures rest ≡ Some m
      → k.pictures ≤ m + (k.params.slots - k.params.lead - 1)
      → Reference (nearest_below (rules_of k.params) (pictures_in items) rest) ≡ is_among known m
  near_named m e le =
      ap Reference (named (Some m) e)
      ∙ near (rules_of k.params) known (pictures_in items) m (omega (arith, le, keeps.count))

-- the last picture is whole where all its macroblocks are taken, or there is none
pub whole_where : (k : Kept) (items : List (Item Style Mb)) (keeps : AuditKeeps k items) (tr : ℕ) → k.tr ≡ Some tr
    → is_whole k.params.format keeps.taken (k.pictures - 1) ≡ last_is_whole (rules_of k.params) items
whole_where k items keeps tr there = go (last_picture items) refl
  where
    go : (o : Option (StreamPicture Style Mb)) → last_picture items ≡ o
        → is_whole k.params.format keeps.taken (k.pictures - 1) ≡ last_is_whole (rules_of k.params) items
    go None is = absurd (not_none tr
        (sym (sym (keeps.tr ∙ ap (option_map (λ (x : StreamPicture Style Mb). x.header.number)) is) ∙ there)))
    go (Some p) is = whole_is k items keeps p is

pub whole_none : (k : Kept) (items : List (Item Style Mb)) → AuditKeeps k items → k.tr ≡ None
    → true ≡ last_is_whole (rules_of k.params) items
whole_none k items keeps none =
    ap (λ (o : Option (StreamPicture Style Mb)). option_map_or (rules_for.is_picture_whole (rules_of k.params)) o true)
    (sym (last_is k items keeps (last_picture items) refl none))

-- what feedback makes known is known after it
pub noted : (k : Kept) (s : Selector) (items : List (Item Style Mb)) (bytes : List ℕ) (message : call.Message)
    → AuditKeeps k items
    → SelectorStands (rules_of k.params) s k.pictures (λ m. 0)
    (λ m. is_among (known_by_feedback (rules_of k.params) k.pictures (Some message)) m || is_among
    (known_of (read_message k.params.clock) (rules_of k.params) items) m)
    → read_message k.params.clock bytes ≡ Ok message → AuditKeeps (record k { selector = s }) (Feedback bytes ∷ items)
noted k s items bytes message keeps stands read = record {
  count = keeps.count;
  tr = keeps.tr;
  taken = keeps.taken;
  collects = keeps.collects;
  last = keeps.last;
  known = record {
    slots = stands.slots;
    lead = stands.lead;
    half = stands.half;
    chain = stands.chain;
    depth_is = stands.depth_is;
    known_is = λ m low high.
        stands.known_is m low high
        ∙ sym (any_append (λ (q : ℕ). q == m) (known_by_feedback (rules_of k.params) k.pictures (Some message))
        (known_of (read_message k.params.clock) (rules_of k.params) items))
        ∙ ap (λ (n : ℕ). is_among (known_by_feedback (rules_of k.params) n (Some message)
        ++ known_of (read_message k.params.clock) (rules_of k.params) items) m) keeps.count
        ∙ ap (λ (r : Result call.Message MessageFault). is_among (known_by_feedback (rules_of k.params)
        (pictures_in items) (result_ok r) ++ known_of (read_message k.params.clock) (rules_of k.params) items) m)
        (sym read);
  };
}
