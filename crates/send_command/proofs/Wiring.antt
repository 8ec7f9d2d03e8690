-- Packets on the wire, one entry after another.
use Rattle.std.proofs.Common.{if◌then◌else◌, ◌≡◌, ℕ, ◌+◌, ◌<◌, Bool, true, false, List, [], ◌∷◌, ◌++◌, length, take, drop, Option, refl, sym, ap, ◌∙◌, subst, append_assoc, append-nil}
use Rattle.std.specs.Prelude.{slice_index_or}
use Rattle.std.proofs.lemmas.List.{take_more, take-append-drop}
use Rattle.h263_outside.specs.Desk.{is_role}
use Rattle.h263_outside.specs.Gains.{Front}
use Rattle.h263_outside.specs.declared.desk.Role.{Role}
use Rattle.h263_outside.specs.declared.desk.Role.TheVariants.{Wire}
use Rattle.event_logs.specs.Text.{entry_text}
use Rattle.desk_program.specs.Ends.{Gains, GainsFronts}
use Rattle.desk_program.specs.Laws.{TurnLaws}
use Rattle.desk_program.specs.Texts.{on, then_also}
use Rattle.send_command.specs.Send.{packets_text}

text_of_both : (a b : List (List ℕ)) → packets_text (a ++ b) ≡ packets_text a ++ packets_text b
text_of_both [] b = refl
text_of_both (p ∷ a) b = ap (λ (l : List ℕ). entry_text 75 p ++ l) (text_of_both a b)
    ∙ sym (append_assoc (entry_text 75 p) (packets_text a) (packets_text b))

text_of_one : (p : List ℕ) → packets_text (p ∷ []) ≡ entry_text 75 p
text_of_one p = append-nil (entry_text 75 p)

joined : (t : Bool) (x y all : List ℕ) → x ++ y ≡ all → (if t then x else []) ++ (if t then y else [])
    ≡ (if t then all else [])
joined true x y all is = is
joined false x y all is = refl

-- the text with one packet more
next_text : (packets : List (List ℕ)) (i : ℕ) (packet : List ℕ) → i < length packets
    → packet ≡ slice_index_or packets i [] → packets_text (take i packets) ++ entry_text 75 packet
    ≡ packets_text (take (i + 1) packets)
next_text packets i packet below is =
    ap (λ (l : List ℕ). packets_text (take i packets) ++ l) (sym (text_of_one packet))
    ∙ sym (text_of_both (take i packets) (packet ∷ []))
    ∙ ap (λ (p : List ℕ). packets_text (take i packets ++ p ∷ [])) is
    ∙ ap packets_text (sym (take_more packets i [] below))

module _ (laws : TurnLaws) (packets : List (List ℕ)) (old mid new : Role → Option (List ℕ)) (i : ℕ) (packet : List ℕ)
    (below : i < length packets) (is : packet ≡ slice_index_or packets i [])
    (so_far : Gains (on Wire (packets_text (take i packets))) old mid) where
  pub wire_cut : GainsFronts (on Wire (entry_text 75 packet)) mid new
      → GainsFronts (on Wire (packets_text packets)) old new
  wire_cut g = λ r. subst (λ (t : List ℕ). Front t (old r) (new r)) (whole r) (fronts r)
    where
      now : Role → List ℕ
      now = then_also (on Wire (packets_text (take i packets))) (on Wire (entry_text 75 packet))

      rest : Role → List ℕ
      rest = on Wire (packets_text (drop (i + 1) packets))

      fronts : GainsFronts (then_also now rest) old new
      fronts = laws.front_of_first now rest old new (laws.front_of_second (on Wire (packets_text (take i packets)))
          (on Wire (entry_text 75 packet)) old mid new so_far g)

      all : packets_text (take (i + 1) packets) ++ packets_text (drop (i + 1) packets) ≡ packets_text packets
      all = sym (text_of_both (take (i + 1) packets) (drop (i + 1) packets))
          ∙ ap packets_text (take-append-drop (i + 1) packets)

      whole : (r : Role) → then_also now rest r ≡ on Wire (packets_text packets) r
      whole r =
          ap (λ (l : List ℕ). l ++ rest r) (joined (is_role Wire r) _ _ _ (next_text packets i packet below is))
          ∙ joined (is_role Wire r) (packets_text (take (i + 1) packets)) (packets_text (drop (i + 1) packets))
          (packets_text packets) all
