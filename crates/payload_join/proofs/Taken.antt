-- What a packet that is held makes whole, as the code finds it by the last 16 bits of the numbers.
use Rattle.std.proofs.Common.{◌≡◌, inl, inr, ℕ, zero, suc, ◌+◌, ◌-◌, ◌*◌, ◌/◌, ◌%◌, ◌<◌, ◌≤◌, Bool, true, false, cond, List, [], ◌∷◌, ◌++◌, length, get_or, set, Option, Some, None, refl, sym, ap, ◌∙◌, arith}
use Rattle.std.specs.Prelude.{nat_le, nat_eq, ◌&&◌, ◌||◌, not}
use Rattle.std.proofs.lemmas.Bool.{cases_lt, cases_eq, le-leb, lt-leb, eq-eqb, ne_eqb}
use Rattle.h263_types.specs.declared.format.Format.{Format}
use Rattle.payload_join.specs.declared.took.Took.TheVariants as tooks
use Rattle.payload_join.specs.declared.units.Span.{Span}
use Rattle.payload_join.specs.Packet.{Packet}
use Rattle.payload_join.specs.Unit.{held_packet, begins_one, follows_one, is_marked, each_below, least_from, is_unit, unit_at}
use Rattle.payload_join.specs.Outgoing.{coded_one, coded_from, out_by, outgoing_of}
use Rattle.payload_join.specs.Run.{JoinedSoFar, joined_number, top_with, took_as, with_packet, is_old, made_from, made}
use Rattle.payload_join.specs.Places.{window_packet, left_at, top_after, Shows}
use Rattle.payload_join.specs.Units.{IsBefore, is_made, out_made, unit_left, number_by, IsFirstUnit}
use Rattle.payload_join.proofs.Growing.{At}
use Rattle.payload_join.proofs.AnyOrder.{one_held, kept_at}
use Rattle.payload_join.proofs.Windows.{IsWindow, holding_is}
use Rattle.payload_join.proofs.Following.{inside, outside}
use Rattle.payload_join.proofs.Made.{IsStep, IsFrom, made_alone, made_two}

-- ---- the same packets at other numbers

module _ (at bt : At) (x y : ℕ) (same : (j : ℕ) → at (x + j) ≡ bt (y + j)) where
  first_same : at x ≡ bt y
  first_same = let e : x ≡ x + 0 = omega arith in let f : y + 0 ≡ y = omega arith in ap at e ∙ same 0 ∙ ap bt f

  unit_moved : unit_at at x ≡ unit_at bt y
  unfolding unit_at is_unit
  unit_moved = λ i. least_from 64 0 (λ k.
      begins_one (first_same i) && each_below k (λ j. follows_one (same (j + 1) i)) && each_below k
      (λ j. not (is_marked (same j i)))
      && (is_marked (same k i) || begins_one (same (k + 1) i)))

coded_moved : (at bt : At) (x y count : ℕ) → ((j : ℕ) → at (x + j) ≡ bt (y + j)) → coded_from at x count
    ≡ coded_from bt y count
unfolding coded_from
coded_moved at bt x y zero same = refl
coded_moved at bt x y (suc count) same =
    let first = first_same at bt x y same in
    let more = coded_moved at bt (x + 1) (y + 1) count (λ j. let e : x + 1 + j ≡ x + (j + 1) = omega arith in
    let f : y + (j + 1) ≡ y + 1 + j = omega arith in ap at e ∙ same (j + 1) ∙ ap bt f) in
    λ i. coded_one (first i) ++ more i

outgoing_moved : (format : Format) (at bt : At) (x y k : ℕ) → ((j : ℕ) → at (x + j) ≡ bt (y + j))
    → outgoing_of format at x k ≡ outgoing_of format bt y k
unfolding outgoing_of
outgoing_moved format at bt x y k same =
    let coded = coded_moved at bt x y (k + 1) same in
    let first = first_same at bt x y same in
    λ i. out_by format (coded i) (first i)

le_moved : (a b d : ℕ) → nat_le (a + d) (b + d) ≡ nat_le a b
le_moved a b d = elim (cases_lt b a) [
  | inl lt ↦ lt-leb (a + d) (b + d) (omega arith) ∙ sym (lt-leb a b lt)
  | inr ge ↦ le-leb (a + d) (b + d) (omega arith) ∙ sym (le-leb a b ge)
]

eq_moved : (a b d : ℕ) → nat_eq (a + d) (b + d) ≡ nat_eq a b
eq_moved a b d = elim (cases_eq a b) [
  | inl e ↦ eq-eqb (a + d) (b + d) (omega arith) ∙ sym (eq-eqb a b e)
  | inr ne ↦ ne_eqb (a + d) (b + d) (λ e. ne (omega arith)) ∙ sym (ne_eqb a b ne)
]

made_moved : (at bt : At) (n y k d : ℕ) → ((j : ℕ) → at (y + d + j) ≡ bt (y + j)) → is_made at (n + d) (y + d) k
    ≡ is_made bt n y k
made_moved at bt n y k d same =
    let e : y + d + k ≡ y + k + d = omega arith in
    let f : y + d + k + 1 ≡ y + k + 1 + d = omega arith in
    let le = ap (nat_le (n + d)) e ∙ le_moved n (y + k) d in
    let eq = ap (nat_eq (n + d)) f ∙ eq_moved n (y + k + 1) d in
    λ i. le i || (eq i && not (is_marked (same k i)))

out_moved : (format : Format) (at bt : At) (n y d : ℕ) → ((j : ℕ) → at (y + d + j) ≡ bt (y + j))
    → out_made format at (n + d) (y + d) (unit_at at (y + d)) ≡ out_made format bt n y (unit_at bt y)
out_moved format at bt n y d same = ap (out_made format at (n + d) (y + d)) (unit_moved at bt (y + d) y same)
    ∙ of (unit_at bt y)
  where
    of : (o : Option ℕ) → out_made format at (n + d) (y + d) o ≡ out_made format bt n y o
    of None = refl
    of (Some k) = λ i. cond (made_moved at bt n y k d same i) (outgoing_moved format at bt (y + d) y k same i) []

-- ---- one more packet

-- the packets by the numbers of the code, which are less by d, and by the true ones
record IsMoved (now : At) (packets : List (Option Packet)) (last d top : ℕ) : Type 0 where
  top_is : top ≡ last + d
  low : 63 ≤ last
  same : (m : ℕ) → last < m + 64 → now (m + d) ≡ window_packet packets last m

along : (now : At) (packets : List (Option Packet)) (last d top y : ℕ) → IsMoved now packets last d top → last < y + 64
    → (j : ℕ) → now (y + d + j) ≡ window_packet packets last (y + j)
along now packets last d top y m lt j = let e : y + d + j ≡ y + j + d = omega arith in ap now e
    ∙ m.same (y + j) (omega arith)

from_is : (now : At) (packets : List (Option Packet)) (last d top n y : ℕ) → IsMoved now packets last d top → n ≤ last
    → IsBefore packets (last - 63) n y → IsFrom now (top - 63) (n + d) (y + d)
from_is now packets last d top n y m le b =
    let e = m.top_is in let low = m.low in let from = b.from in let below = b.below in
    record {
      from = omega arith;
      below = omega arith;
      begins = ap begins_one (m.same y (omega arith) ∙ inside packets last y (omega arith)) ∙ b.begins;
      follow = λ k lt less.
          let f : k - d + d ≡ k = omega arith in
          ap follows_one (sym (ap now f) ∙ m.same (k - d) (omega arith) ∙ inside packets last (k - d) (omega arith))
          ∙ b.follow (k - d) (omega arith) (omega arith);
    }

before_is : (now : At) (packets : List (Option Packet)) (last d top n y : ℕ) → IsMoved now packets last d top → n ≤ last
    → IsFrom now (top - 63) (n + d) y → IsBefore packets (last - 63) n (y - d)
before_is now packets last d top n y m le b =
    let e = m.top_is in let low = m.low in let from = b.from in let below = b.below in
    let f : y - d + d ≡ y = omega arith in
    record {
      from = omega arith;
      below = omega arith;
      begins = ap begins_one (sym (inside packets last (y - d) (omega arith)) ∙ sym (m.same (y - d) (omega arith))
          ∙ ap now f) ∙ b.begins;
      follow = λ k lt less. ap follows_one (sym (inside packets last k (omega arith)) ∙ sym (m.same k (omega arith)))
          ∙ b.follow (k + d) (omega arith) (omega arith);
    }

-- what the two units give is what is made whole
both_made : (format : Format) (before now : At) (packets : List (Option Packet)) (last d top n : ℕ) (u v : Option Span)
    → IsMoved now packets last d top → IsStep before now (n + d) top
    → IsFirstUnit format packets last n u → unit_left format packets v
    ≡ out_made format (window_packet packets last) n n (unit_at (window_packet packets last) n)
    → unit_left format packets u ++ unit_left format packets v ≡ made_from format before now (top - 63) 64
both_made format before now packets last d top n u v m step (inl first) second =
    let y : ℕ = first.0 in
    let upto = step.upto in let young = step.young in let e = m.top_is in
    let from = first.1.from in let below = first.1.below in
    let le : n ≤ last = omega arith in
    let one = first.2 ∙ sym (out_moved format now (window_packet packets last) n y d
    (along now packets last d top y m (omega arith))) in
    let two = second ∙ sym (out_moved format now (window_packet packets last) n n d
    (along now packets last d top n m (omega arith))) in
    (λ i. one i ++ two i) ∙ sym (made_two format before now (n + d) top (y + d) step
    (from_is now packets last d top n y m le first.1))
both_made format before now packets last d top n u v m step (inr none) second =
    let upto = step.upto in let young = step.young in let e = m.top_is in
    let le : n ≤ last = omega arith in
    let two = second ∙ sym (out_moved format now (window_packet packets last) n n d
    (along now packets last d top n m (omega arith))) in
    ap (λ (l : List (List ℕ)). l ++ unit_left format packets v) none.1 ∙ two
    ∙ sym (made_alone format before now (n + d) top step
    (λ y from. none.0 (y - d) (before_is now packets last d top n y m le from)))

fresh_of : (s : JoinedSoFar) (x : ℕ) → took_as s x ≡ tooks.Held → held_packet s.held x ≡ None
fresh_of s x held = at (held_packet s.held x) refl
  where
    at : (o : Option Packet) → held_packet s.held x ≡ o → o ≡ None
    at None is = refl
    at (Some p) is = absurd (not_held (is_old s.top x) refl)
      where
        not_held : (t : Bool) → is_old s.top x ≡ t → ⊥
        not_held true e = let f : took_as s x ≡ tooks.Old = rw e refl in cc
        not_held false e = let f : took_as s x ≡ tooks.Again = rw (e, is) refl in cc

-- so all that goes out with a packet that is held
pub goes_out : (format : Format) (top : Option ℕ) (packets : List (Option Packet)) (s : JoinedSoFar) (sequence : ℕ)
    (p : Packet) (u v : Option Span) → Shows top packets s → IsWindow s → sequence < 65536 → length packets ≡ 64
    → took_as s (joined_number s.top sequence) ≡ tooks.Held
    → IsFirstUnit format (set (left_at top packets sequence) (sequence % 64) (Some p)) (top_after top sequence + 65536)
    (number_by (top_after top sequence + 65536) sequence) u
    → unit_left format (set (left_at top packets sequence) (sequence % 64) (Some p)) v
    ≡ out_made format (window_packet (set (left_at top packets sequence) (sequence % 64) (Some p))
    (top_after top sequence + 65536)) (number_by (top_after top sequence + 65536) sequence)
    (number_by (top_after top sequence + 65536) sequence)
    (unit_at (window_packet (set (left_at top packets sequence) (sequence % 64) (Some p))
    (top_after top sequence + 65536))
    (number_by (top_after top sequence + 65536) sequence))
    → unit_left format (set (left_at top packets sequence) (sequence % 64) (Some p)) u
    ++ unit_left format (set (left_at top packets sequence) (sequence % 64) (Some p)) v
    ≡ made format s.held (with_packet s (joined_number s.top sequence) p)
unfolding held_packet
goes_out format top packets s sequence p u v shows w small long held first second =
    let h = holding_is top packets s sequence p shows w small long held in
    let x : ℕ = joined_number s.top sequence in
    let t : ℕ = top_with s.top x in
    let new : List (Option Packet) = set (left_at top packets sequence) (sequence % 64) (Some p) in
    let last : ℕ = top_after top sequence + 65536 in
    let n : ℕ = number_by last sequence in
    let big = h.big in let last_is = h.last in let rest = h.rest in let upto = h.upto in let young = h.young in
    let d : ℕ = t - last in
    let d_is : d ≡ 65536 * (t / 65536 - 1) = omega arith in
    let n_is : n + d ≡ x = omega arith in
    let moved : IsMoved (held_packet (with_packet s x p).held) new last d t = record {
      top_is = omega arith;
      low = omega arith;
      same = λ m lt. elim (cases_lt last m) [
        | inl over ↦ h.window.over t (m + d) refl (omega arith) ∙ sym (outside new last m over)
        | inr le ↦
            let place : (m + d) % 64 ≡ m % 64 = omega arith in
            sym (h.shows.packet t (m + d) refl (omega arith) (omega arith)) ∙ ap (λ (k : ℕ). get_or new k None) place
            ∙ sym (inside new last m le)
      ];
    } in
    let step : IsStep (held_packet s.held) (held_packet (with_packet s x p).held) (n + d) t = record {
      fresh = ap (held_packet s.held) n_is ∙ fresh_of s x held;
      same = λ m lt ne. kept_at t m (one_held x p ∷ s.held) lt ∙ (rw (ne_eqb x m (λ e. ne (sym (n_is ∙ e)))) refl);
      low = omega arith;
      upto = omega arith;
      young = omega arith;
    } in
    both_made format (held_packet s.held) (held_packet (with_packet s x p).held) new last d t n u v moved step first
    second
