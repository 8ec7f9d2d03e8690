-- The picture of a gap.
use Rattle.std.proofs.Common.{◌≡◌, ℕ, ◌+◌, ◌-◌, ◌<◌, not, Bool, true, false, cond, eqb, leb, ltb, List, [], ◌∷◌, ◌++◌, length, map, filter, Option, Some, None, refl, ap, arith, ◌∙◌}
use Rattle.std.specs.Prelude.{find}
use Rattle.std.specs.List.{AllByRecursion, list_any}
use Rattle.std.proofs.lemmas.Bool.{cond_both, eq-eqb, lt-ltb, ltb-true, or_left, or_right}
use Rattle.packet_gaps.specs.declared.gap.Gap.{Gap}
use Rattle.packet_gaps.specs.declared.moment.Moment.{Moment}
use Rattle.packet_gaps.specs.Asking.{after_asking, asked_again, is_in_nack, may_ask, told_from, when_told}
use Rattle.packet_gaps.specs.Missing.{after_number, gaps_after_packet, gap_of, last_gaps, counted_number, numbers_from}
use Rattle.packet_gaps.specs.Kept.{GapEvent, Came, Played, Asked, kept_gaps_after, counted_on, counted_packets}
use Rattle.packet_gaps.specs.Laws.{is_later}
use Rattle.packet_gaps.proofs.Past.{all_append, all_drop, all_filter, all_from, all_map, all_with}

abbrev HasLater : List (ℕ × ℕ) → Gap → Type 0
HasLater packets g = list_any (is_later g) packets ≡ true

still : (p : ℕ × ℕ) (packets : List (ℕ × ℕ)) (g : Gap) → HasLater packets g → HasLater (p ∷ packets) g
still p packets g h = or_right (is_later g p) (list_any (is_later g) packets) h

newly : (packets : List (ℕ × ℕ)) (k picture number : ℕ) → number < k
    → HasLater ((k, picture) ∷ packets) (gap_of picture number)
newly packets k picture number h =
    or_left (cond (ltb number k) (eqb picture picture) false) (list_any (is_later (gap_of picture number)) packets)
    (ap (λ (b : Bool). cond b (eqb picture picture) false) (lt-ltb number k h) ∙ eq-eqb picture picture refl)

by_number : (packets : List (ℕ × ℕ)) (newest k picture : ℕ) (gs : List Gap) → AllByRecursion (HasLater packets) gs
    → AllByRecursion (HasLater ((k, picture) ∷ packets)) (after_number newest k picture gs)
by_number packets newest k picture gs s =
    let P = HasLater ((k, picture) ∷ packets) in
    let new = map (gap_of picture) (numbers_from (newest + 1) (k - newest - 1)) in
    let old = all_with (HasLater packets) P (still (k, picture) packets) gs s in
    cond_both (ltb newest k) (last_gaps 64 (gs ++ new)) (filter (λ g. not (eqb g.number k)) gs) (AllByRecursion P)
    (λ e. all_drop P (length (gs ++ new) - 64) (gs ++ new)
    (all_append P gs new old
    (all_from P (gap_of picture) (newest + 1) (k - newest - 1)
    (λ n h i. newly packets k picture n (between newest k n (ltb-true newest k e) i)))))
    (λ e. all_filter P (λ g. not (eqb g.number k)) gs old)
  where
    between : (newest k n : ℕ) → newest < k → n < newest + 1 + (k - newest - 1) → n < k
    between newest k n h i = omega arith

by_packet : (packets : List (ℕ × ℕ)) (o : Option ℕ) (sequence picture : ℕ) (gs : List Gap)
    → AllByRecursion (HasLater packets) gs
    → AllByRecursion (HasLater ((counted_on o sequence, picture) ∷ packets)) (gaps_after_packet o sequence picture gs)
by_packet packets None sequence picture gs s =
    all_with (HasLater packets) (HasLater ((65536 + sequence, picture) ∷ packets))
    (still (65536 + sequence, picture) packets) gs s
by_packet packets (Some newest) sequence picture gs s =
    by_number packets newest (counted_number newest sequence) picture gs s

by_told : (packets : List (ℕ × ℕ)) (m : Moment) (newest : ℕ) (gs : List Gap) (o : Option Gap)
    → AllByRecursion (HasLater packets) gs → AllByRecursion (HasLater packets) (told_from m newest gs o)
by_told packets m newest gs None s = s
by_told packets m newest gs (Some x) s =
    all_map (HasLater packets) (when_told m newest x.number)
    (λ g h. cond_both (is_in_nack m newest x.number g) (asked_again m.time g) g (HasLater packets) (λ e. h) (λ e. h)) gs
    s

by_asking : (packets : List (ℕ × ℕ)) (m : Moment) (o : Option ℕ) (gs : List Gap)
    → AllByRecursion (HasLater packets) gs → AllByRecursion (HasLater packets) (after_asking m o gs)
by_asking packets m None gs s = s
by_asking packets m (Some newest) gs s = by_told packets m newest gs (find (may_ask m newest) gs) s

pub of_later : (past : List GapEvent)
    → AllByRecursion (λ g. list_any (is_later g) (counted_packets past) ≡ true) (kept_gaps_after past).gaps
of_later [] = tt
of_later (Came sequence picture ∷ past) =
    by_packet (counted_packets past) (kept_gaps_after past).newest sequence picture (kept_gaps_after past).gaps
    (of_later past)
of_later (Played next ∷ past) =
    all_filter (HasLater (counted_packets past)) (λ g. leb next g.picture) (kept_gaps_after past).gaps (of_later past)
of_later (Asked m ∷ past) =
    by_asking (counted_packets past) m (kept_gaps_after past).newest (kept_gaps_after past).gaps (of_later past)
