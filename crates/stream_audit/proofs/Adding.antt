-- What an audit keeps after a packet that it takes.
use Rattle.std.proofs.Common.{◌∙◌, ap, None, ◌≡◌, ℕ, ◌+◌, ◌-◌, ◌<◌, Bool, true, false, ◌||◌, refl, sym, subst, arith, inl, inr, Some, Option, List, [], ◌∷◌, ◌++◌}
use Rattle.std.specs.Prelude.{Result}
use Rattle.std.specs.Option.{option_map}
use Rattle.std.specs.Result.{result_ok}
use Rattle.std.proofs.lemmas.Bool.{cases_Bool, or_left, or_right}
use Rattle.h263_types.specs.declared.blocks.Mb.{Mb}
use Rattle.h263_types.specs.Sizes.{mbs_of}
use Rattle.back_messages.specs.declared.message.MessageFault.{MessageFault}
use Rattle.packet_collector.specs.declared.collector.Collector.{Collector}
use Rattle.packet_collector.specs.declared.piece.Piece.{Piece}
use Rattle.packet_collector.specs.Collected.{Collects}
use Rattle.packet_collector.specs.Taken.{Taken, TakenLaws, is_any_taken, is_mb_taken, head_holds}
use Rattle.reference_selector.specs.declared.Selector.{Selector}
use Rattle.reference_selector.specs.Stands.{SelectorStands}
use Rattle.call_model.specs.Coding as call
use Rattle.call_model.specs.CodedPictures.{is_among}
use Rattle.call_model.specs.Sending.{known_by_feedback}
use Rattle.call_decoding.specs.Rules.{rules_of}
use Rattle.call_decoding.specs.Styles.{Style, call_header_of}
use Rattle.stream_audit.specs.declared.kept.Kept.{Kept}
use Rattle.call_encoding.specs.Messages.{read_message}
use Rattle.stream_audit.specs.State.{IsLast, IsTakenOf, AuditKeeps, SpellsSlice}
use Rattle.stream_audit.specs.Stream.{Feedback, Item, StreamPart, Picture, StreamPicture, begun_by, known_of, last_picture, pictures_in, with_more, items_with_part}
use Rattle.stream_audit.specs.Verdict.{has}
use Rattle.stream_audit.proofs.Lists.{any_append}

pub count_stays : (items : List (Item Style Mb)) (part : StreamPart Style Mb) → pictures_in (items_with_part items part)
    ≡ pictures_in items
count_stays [] part = refl
count_stays (Picture p ∷ items) part = refl
count_stays (Feedback bytes ∷ items) part = count_stays items part

last_longer : (items : List (Item Style Mb)) (part : StreamPart Style Mb) → last_picture (items_with_part items part)
    ≡ option_map (λ p. with_more p part) (last_picture items)
last_longer [] part = refl
last_longer (Picture p ∷ items) part = refl
last_longer (Feedback bytes ∷ items) part = last_longer items part

known_stays : (read : List ℕ → Result call.Message MessageFault) (rules : call.Rules) (items : List (Item Style Mb))
    (part : StreamPart Style Mb) → known_of read rules (items_with_part items part) ≡ known_of read rules items
known_stays read rules [] part = refl
known_stays read rules (Picture p ∷ items) part = refl
known_stays read rules (Feedback bytes ∷ items) part =
    ap (λ (n : ℕ). known_by_feedback rules n (result_ok (read bytes))
    ++ known_of read rules (items_with_part items part))
    (count_stays items part)
    ∙ ap (λ (l : List ℕ). known_by_feedback rules (pictures_in items) (result_ok (read bytes))
    ++ l) (known_stays read rules items part)

-- a macroblock is in the piece's slice where it is in the packet's
held : (piece : Piece) (q : call.Piece Style Mb) (m : ℕ) → SpellsSlice piece q
    → call.has_mb q.slice m ≡ head_holds piece.head m
unfolding call.has_mb
held piece q m spells = rw (spells.first, spells.count) refl

or_false : (b : Bool) → (b || false) ≡ b
or_false true = refl
or_false false = refl

-- which macroblocks the picture has with one part more
one_more : (p : StreamPicture Style Mb) (part : StreamPart Style Mb) (m : ℕ) → has (with_more p part) m
    ≡ (has p m || call.has_mb part.piece.slice m)
one_more p part m =
    any_append (λ x. call.has_mb x.piece.slice m) p.parts (part ∷ []) ∙ ap (λ (b : Bool). has p m || b) (or_false _)

module _ (laws : TakenLaws) (k : Kept) (items : List (Item Style Mb)) (part : StreamPart Style Mb) (piece : Piece)
    (keeps : AuditKeeps k items) (spells : SpellsSlice piece part.piece) where
  pub added : (c : Collector) (p : StreamPicture Style Mb) → last_picture items ≡ Some p → part.piece.header ≡ p.header
      → Collects c (k.pictures - 1) (record { number = k.pictures - 1; piece = piece } ∷ keeps.taken)
      → AuditKeeps (record k { collector = c }) (items_with_part items part)
  added c p is header collects = record {
    count = keeps.count ∙ sym (count_stays items part);
    tr = keeps.tr ∙ same_number (last_picture items)
        ∙ ap (option_map (λ (x : StreamPicture Style Mb). x.header.number)) (sym (last_longer items part));
    taken = t ∷ keeps.taken;
    collects = collects;
    last = subst (λ (o : Option (StreamPicture Style Mb)). IsLast o (k.pictures - 1) (mbs_of k.params.format)
        (t ∷ keeps.taken)) (sym (last_longer items part ∙ ap (option_map (λ p. with_more p part)) is)) taken_of;
    known = subst (λ (l : List ℕ). SelectorStands (rules_of k.params) k.selector k.pictures (λ m. 0) (is_among l))
        (sym (known_stays (read_message k.params.clock) (rules_of k.params) items part)) keeps.known;
  }
    where
      t : Taken
      t = record { number = k.pictures - 1; piece = piece }

      same_number : (o : Option (StreamPicture Style Mb)) → option_map (λ x. x.header.number) o
          ≡ option_map (λ x. x.header.number) (option_map (λ p. with_more p part) o)
      same_number None = refl
      same_number (Some x) = refl

      of_last : IsTakenOf p (k.pictures - 1) (mbs_of k.params.format) keeps.taken
      of_last = subst (λ (o : Option (StreamPicture Style Mb)). IsLast o (k.pictures - 1) (mbs_of k.params.format)
          keeps.taken) is keeps.last

      marks : (m : ℕ) → m < mbs_of k.params.format → is_mb_taken (t ∷ keeps.taken) (k.pictures - 1) m
          ≡ has (with_more p part) m
      marks m lt =
          elim (cases_Bool (head_holds piece.head m)) [
            | inl in_it ↦
                let more : has (with_more p part) m ≡ true = one_more p part m
                ∙ or_right _ _ (held piece part.piece m spells ∙ in_it) in
                laws.held t keeps.taken m in_it ∙ sym more
            | inr out ↦
                let same : has (with_more p part) m ≡ has p m = one_more p part m
                ∙ ap (λ (b : Bool). has p m || b) (held piece part.piece m spells ∙ out) ∙ or_false (has p m) in
                laws.not_held t keeps.taken (k.pictures - 1) m out ∙ of_last.marks m lt ∙ sym same
          ]

      taken_of : IsTakenOf (with_more p part) (k.pictures - 1) (mbs_of k.params.format) (t ∷ keeps.taken)
      taken_of = record {
        some = laws.same t keeps.taken;
        header = λ u is_in number. elim is_in [
          | inl here ↦ ap (λ (x : Taken). call_header_of x.piece.header) (sym here) ∙ sym spells.header ∙ header
          | inr there ↦ of_last.header u there number
        ];
        marks = marks;
      }

  pub begun : (c : Collector) (s : Selector) → is_any_taken keeps.taken k.pictures ≡ false
      → Collects c k.pictures (record { number = k.pictures; piece = piece } ∷ keeps.taken)
      → SelectorStands (rules_of k.params) s (k.pictures + 1) (λ m. 0)
      (is_among (known_of (read_message k.params.clock) (rules_of k.params) items))
      → AuditKeeps (record k { pictures = k.pictures + 1; tr = Some piece.header.tr; collector = c; selector = s })
      (Picture (begun_by part) ∷ items)
  begun c s absent collects stands = record {
    count = ap (λ (n : ℕ). n + 1) keeps.count;
    tr = ap (λ (h : call.Header Style). Some h.number) (sym spells.header);
    taken = t ∷ keeps.taken;
    collects = subst (λ (n : ℕ). Collects c n (t ∷ keeps.taken)) back collects;
    last = subst (λ (n : ℕ). IsTakenOf (begun_by part) n (mbs_of k.params.format) (t ∷ keeps.taken)) back taken_of;
    known = stands;
  }
    where
      t : Taken
      t = record { number = k.pictures; piece = piece }

      back : k.pictures ≡ k.pictures + 1 - 1
      back = omega arith

      marks : (m : ℕ) → is_mb_taken (t ∷ keeps.taken) k.pictures m ≡ (call.has_mb part.piece.slice m || false)
      marks m =
          elim (cases_Bool (head_holds piece.head m)) [
            | inl in_it ↦ laws.held t keeps.taken m in_it
                ∙ sym (or_left _ false (held piece part.piece m spells ∙ in_it))
            | inr out ↦ laws.not_held t keeps.taken k.pictures m out ∙ laws.never keeps.taken k.pictures m absent
                ∙ sym (or_false _ ∙ held piece part.piece m spells ∙ out)
          ]

      taken_of : IsTakenOf (begun_by part) k.pictures (mbs_of k.params.format) (t ∷ keeps.taken)
      taken_of = record {
        some = laws.same t keeps.taken;
        header = λ u is_in number. elim is_in [
          | inl here ↦ ap (λ (x : Taken). call_header_of x.piece.header) (sym here) ∙ sym spells.header
          | inr there ↦ absurd (laws.absent keeps.taken k.pictures absent u there number)
        ];
        marks = λ m lt. marks m;
      }

-- before the first picture nothing is taken
pub none_at_first : (k : Kept) (items : List (Item Style Mb)) (keeps : AuditKeeps k items) → k.pictures ≡ 0
    → is_any_taken keeps.taken 0 ≡ false
none_at_first k items keeps first =
    subst (λ (n : ℕ). is_any_taken keeps.taken n ≡ false) (let z : k.pictures - 1 ≡ 0 = omega arith in z)
    (subst (λ (o : Option (StreamPicture Style Mb)). IsLast o (k.pictures - 1) (mbs_of k.params.format) keeps.taken)
    (none items (sym keeps.count ∙ first)) keeps.last)
  where
    none : (items : List (Item Style Mb)) → pictures_in items ≡ 0 → last_picture items ≡ None
    none [] e = refl
    none (Picture p ∷ items) e = absurd (omega (arith, e))
    none (Feedback bytes ∷ items) e = none items e
