-- Units among the packets by their places, as the loops find them.
use Rattle.std.proofs.Common.{◌≡◌, ◌⊎◌, inl, inr, ℕ, zero, suc, ◌+◌, ◌-◌, ◌^◌, ◌<◌, ◌≤◌, Bool, true, false, cond, List, [], ◌++◌, length, Option, Some, None, refl, sym, ap, subst, ◌∙◌, arith, append_assoc, length-append}
use Rattle.std.specs.Prelude.{nat_le, nat_eq, ◌&&◌, ◌||◌, not, is_some}
use Rattle.std.proofs.lemmas.Bool.{cases_lt, le-leb, lt-leb, lt-ltb}
use Rattle.std.proofs.lemmas.List.{append-nil}
use Rattle.h263_types.specs.declared.format.Format.{Format}
use Rattle.payload_join.specs.Packet.{Packet}
use Rattle.payload_join.specs.Unit.{begins_one, follows_one, is_marked, begins_unit_at, follows_at, marked_at, IsUnit, unit_at}
use Rattle.payload_join.specs.Outgoing.{coded_one, coded_from, unit_out, out_by, outgoing_of}
use Rattle.payload_join.specs.Places.{place_at, window_packet}
use Rattle.payload_join.specs.Units.{IsBefore, is_made, out_made, IsWholeUnit}
use Rattle.payload_join.proofs.Growing.{At, unit_there, unit_laws, few_follow, coded_same}

-- packet x begins a unit that has not ended before packet x + k, which follows on if it isn't x
pub record IsOpen (at : At) (x k : ℕ) : Type 0 where
  pub begins : begins_unit_at at x ≡ true
  pub follow : (j : ℕ) → j < k → follows_at at (x + (j + 1)) ≡ true
  pub unmarked : (j : ℕ) → j < k → marked_at at (x + j) ≡ false

-- it ends with a marker
pub ends_marked : (at : At) (x k : ℕ) → IsOpen at x k → k < 64 → marked_at at (x + k) ≡ true → unit_at at x ≡ Some k
ends_marked at x k o few m = unit_there at x k few (record {
  begins = o.begins;
  follow = o.follow;
  unmarked = o.unmarked;
  ends = inl m;
})

-- it ends before the next unit
pub ends_begun : (at : At) (x k : ℕ) → IsOpen at x k → k < 64 → marked_at at (x + k) ≡ false
    → begins_unit_at at (x + (k + 1)) ≡ true → unit_at at x ≡ Some k
ends_begun at x k o few m b = unit_there at x k few (record {
  begins = o.begins;
  follow = o.follow;
  unmarked = o.unmarked;
  ends = inr (m, b);
})

-- it doesn't end
pub ends_not : (at : At) (x k : ℕ) → IsOpen at x k → marked_at at (x + k) ≡ false → begins_unit_at at (x + (k + 1))
    ≡ false
    → follows_at at (x + (k + 1)) ≡ false → unit_at at x ≡ None
ends_not at x k o m b f = is_none (unit_at at x) refl
  where
    not_unit : (j : ℕ) → IsUnit at x j → ⊥
    not_unit j u =
        elim (cases_lt k j) [
          | inl over ↦ let e : true ≡ false = sym (u.follow k over) ∙ f in cc
          | inr upto ↦ elim (cases_lt j k) [
            | inl under ↦ elim u.ends [
              | inl marked ↦ let e : true ≡ false = sym marked ∙ o.unmarked j under in cc
              | inr begun ↦ both (at (x + (j + 1))) begun.1 (o.follow j under)
            ]
            | inr same ↦ let e : j ≡ k = omega arith in here (subst (λ (i : ℕ). IsUnit at x i) e u)
          ]
        ]
      where
        both : (p : Option Packet) → begins_one p ≡ true → follows_one p ≡ true → ⊥
        both None p q = cc
        both (Some p) q r = elim p.begins as (λ (t : Bool). ⊥) [ true ↦ cc | false ↦ cc ]

        here : IsUnit at x k → ⊥
        here v = elim v.ends [
          | inl marked ↦ let e : true ≡ false = sym marked ∙ m in cc
          | inr begun ↦ let e : true ≡ false = sym begun.1 ∙ b in cc
        ]

    is_none : (r : Option ℕ) → unit_at at x ≡ r → r ≡ None
    is_none None is = refl
    is_none (Some j) is = absurd (not_unit j (unit_laws.only at x j is))

pub none_begun : (at : At) (x : ℕ) → begins_unit_at at x ≡ false → unit_at at x ≡ None
none_begun at x b = is_none (unit_at at x) refl
  where
    is_none : (r : Option ℕ) → unit_at at x ≡ r → r ≡ None
    is_none None is = refl
    is_none (Some j) is = let u = unit_laws.only at x j is in let e : true ≡ false = sym u.begins ∙ b in absurd cc

-- the window
pub inside : (packets : List (Option Packet)) (last n : ℕ) → n ≤ last → window_packet packets last n
    ≡ place_at packets n
inside packets last n le = rw (le-leb n last le) refl

pub outside : (packets : List (Option Packet)) (last n : ℕ) → last < n → window_packet packets last n ≡ None
outside packets last n lt = rw (lt-leb n last lt) refl

-- the coded bytes of one packet more
pub coded_more : (at : At) (x count : ℕ) → coded_from at x (count + 1) ≡ coded_from at x count
    ++ coded_one (at (x + count))
unfolding coded_from
coded_more at x zero =
    let e : x ≡ x + 0 = omega arith in
    let n : 0 + 1 ≡ 1 = omega arith in
    ap (coded_from at x) n ∙ append-nil (coded_one (at x)) ∙ ap (λ (k : ℕ). coded_one (at k)) e
coded_more at x (suc count) =
    let e : x + 1 + count ≡ x + suc count = omega arith in
    let n : suc count + 1 ≡ suc (count + 1) = omega arith in
    ap (coded_from at x) n
    ∙ ap (λ (l : List ℕ). coded_one (at x) ++ l) (coded_more at (x + 1) count)
    ∙ sym (append_assoc (coded_one (at x)) (coded_from at (x + 1) count) (coded_one (at (x + 1 + count))))
    ∙ ap (λ (k : ℕ). (coded_one (at x) ++ coded_from at (x + 1) count) ++ coded_one (at k)) e

pub more_len : (at : At) (x count : ℕ) → length (coded_from at x (count + 1))
    ≡ length (coded_from at x count) + length (coded_one (at (x + count)))
more_len at x count = ap (length {A = ℕ}) (coded_more at x count)
    ∙ length-append (coded_from at x count) (coded_one (at (x + count)))

-- ---- what the forward loop finds

pub finds_none : (packets : List (Option Packet)) (first last : ℕ) → first ≤ last → begins_one (place_at packets first)
    ≡ false → None ≡ unit_at (window_packet packets last) first
finds_none packets first last le b =
    sym (none_begun (window_packet packets last) first (ap begins_one (inside packets last first le) ∙ b))

pub finds_marked : (packets : List (Option Packet)) (first last k : ℕ) → first + k ≤ last → last < first + 64
    → IsOpen (window_packet packets last) first k → is_marked (place_at packets (first + k)) ≡ true
    → Some k ≡ unit_at (window_packet packets last) first
finds_marked packets first last k le few o m = sym (ends_marked (window_packet packets last) first k o (omega arith)
    (ap is_marked (inside packets last (first + k) le) ∙ m))

pub finds_begun : (packets : List (Option Packet)) (first last k : ℕ) → first + k + 1 ≤ last → last < first + 64
    → IsOpen (window_packet packets last) first k → is_marked (place_at packets (first + k)) ≡ false
    → begins_one (place_at packets (first + k + 1)) ≡ true → Some k ≡ unit_at (window_packet packets last) first
finds_begun packets first last k le few o m b =
    let e : first + (k + 1) ≡ first + k + 1 = omega arith in
    sym (ends_begun (window_packet packets last) first k o (omega arith)
    (ap is_marked (inside packets last (first + k) (omega arith)) ∙ m)
    (ap (begins_unit_at (window_packet packets last)) e ∙ ap begins_one (inside packets last (first + k + 1) le) ∙ b))

pub finds_end : (packets : List (Option Packet)) (first last k : ℕ) → first + k + 1 ≤ last
    → IsOpen (window_packet packets last) first k → is_marked (place_at packets (first + k)) ≡ false
    → begins_one (place_at packets (first + k + 1)) ≡ false → follows_one (place_at packets (first + k + 1)) ≡ false
    → None ≡ unit_at (window_packet packets last) first
finds_end packets first last k le o m b f =
    let e : first + (k + 1) ≡ first + k + 1 = omega arith in
    sym (ends_not (window_packet packets last) first k o (ap is_marked (inside packets last (first + k) (omega arith))
    ∙ m)
    (ap (begins_unit_at (window_packet packets last)) e ∙ ap begins_one (inside packets last (first + k + 1) le) ∙ b)
    (ap (follows_at (window_packet packets last)) e ∙ ap follows_one (inside packets last (first + k + 1) le) ∙ f))

-- at the greatest number
pub last_marked : (packets : List (Option Packet)) (first last k : ℕ) → first ≤ last → last < first + 64
    → k ≡ last - first → IsOpen (window_packet packets last) first k → is_marked (place_at packets last) ≡ true
    → Some (last - first) ≡ unit_at (window_packet packets last) first
last_marked packets first last k le few e o m =
    let f : first + k ≡ last = omega arith in
    ap (λ (n : ℕ). Some n) (sym e)
    ∙ finds_marked packets first last k (omega arith) few o (ap (λ (n : ℕ). is_marked (place_at packets n)) f ∙ m)

pub last_open : (packets : List (Option Packet)) (first last k : ℕ) → first ≤ last → k ≡ last - first
    → IsOpen (window_packet packets last) first k → is_marked (place_at packets last) ≡ false
    → None ≡ unit_at (window_packet packets last) first
last_open packets first last k le e o m =
    let f : first + k ≡ last = omega arith in
    let none : window_packet packets last (first + (k + 1))
    ≡ None = outside packets last (first + (k + 1)) (omega arith) in
    sym (ends_not (window_packet packets last) first k o (ap is_marked (inside packets last (first + k) (omega arith))
    ∙ ap (λ (n : ℕ). is_marked (place_at packets n)) f ∙ m)
    (ap begins_one none) (ap follows_one none))

-- ---- what the backward loop finds

back_follow : (packets : List (Option Packet)) (number back : ℕ)
    → ((j : ℕ) → j < back → follows_one (place_at packets (number - 1 - j)) ≡ true) → (m : ℕ) → number - 1 - back < m
    → m < number → follows_one (place_at packets m) ≡ true
back_follow packets number back follow m lt less =
    let e : number - 1 - (number - 1 - m) ≡ m = omega arith in
    ap (λ (n : ℕ). follows_one (place_at packets n)) (sym e) ∙ follow (number - 1 - m) (omega arith)

pub is_before : (packets : List (Option Packet)) (low number back : ℕ) → back < number - low
    → ((j : ℕ) → j < back → follows_one (place_at packets (number - 1 - j)) ≡ true)
    → begins_one (place_at packets (number - 1 - back)) ≡ true → IsBefore packets low number (number - 1 - back)
is_before packets low number back lt follow b =
    record { from = omega arith; below = omega arith; begins = b; follow = back_follow packets number back follow }

both : (p : Option Packet) → begins_one p ≡ true → follows_one p ≡ true → ⊥
both None p q = cc
both (Some p) q r = at p.begins q r
  where
    at : (t : Bool) → t ≡ true → not t ≡ true → ⊥
    at true e f = cc
    at false e f = cc

pub not_before : (packets : List (Option Packet)) (low number back : ℕ) → back < number - low
    → ((j : ℕ) → j < back → follows_one (place_at packets (number - 1 - j)) ≡ true)
    → begins_one (place_at packets (number - 1 - back)) ≡ false → follows_one (place_at packets (number - 1 - back))
    ≡ false → (x : ℕ) → IsBefore packets low number x → ⊥
not_before packets low number back lt follow b f x h =
    let below = h.below in
    elim (cases_lt (number - 1 - back) x) [
      | inl above ↦ both (place_at packets x) h.begins (back_follow packets number back follow x above below)
      | inr upto ↦ elim (cases_lt x (number - 1 - back)) [
        | inl under ↦ let e : true ≡ false = sym (h.follow (number - 1 - back) under (omega arith)) ∙ f in cc
        | inr same ↦ let e : x ≡ number - 1 - back = omega arith in let g : true ≡ false = sym h.begins
            ∙ ap (λ (n : ℕ). begins_one (place_at packets n)) e ∙ b in cc
      ]
    ]

pub none_before : (packets : List (Option Packet)) (low number back : ℕ) → number - low ≤ back
    → ((j : ℕ) → j < back → follows_one (place_at packets (number - 1 - j)) ≡ true) → (x : ℕ)
    → IsBefore packets low number x → ⊥
none_before packets low number back ge follow x h =
    let below = h.below in let from = h.from in
    both (place_at packets x) h.begins (ap (λ (n : ℕ). follows_one (place_at packets n)) (let e : x
    ≡ number - 1 - (number - 1 - x) = omega arith in e) ∙ follow (number - 1 - x) (omega arith))

-- ---- a unit that was found

window_coded : (packets : List (Option Packet)) (first last count : ℕ) → first + count ≤ last + 1
    → coded_from (window_packet packets last) first count ≡ coded_from (place_at packets) first count
window_coded packets first last count le = coded_same (place_at packets) (window_packet packets last) first count
    (λ j lt. inside packets last (first + j) (omega arith))

too_long : (format : Format) (at : At) (x k : ℕ) → 65400 < length (coded_from at x (k + 1)) → outgoing_of format at x k
    ≡ []
unfolding outgoing_of unit_out
too_long format at x k long = of (at x)
  where
    of : (o : Option Packet) → out_by format (coded_from at x (k + 1)) o ≡ []
    of None = refl
    of (Some p) = rw (lt-ltb 65400 (length (coded_from at x (k + 1))) long) refl

made_in : (packets : List (Option Packet)) (number first last k : ℕ) → first + k ≤ last
    → is_made (window_packet packets last) number first k
    ≡ (nat_le number (first + k) || (nat_eq number (first + k + 1) && not
    (is_marked (place_at packets (first + k)))))
made_in packets number first last k le = λ i. nat_le number (first + k) || (nat_eq number (first + k + 1) && not
    (is_marked (inside packets last (first + k) le i)))

out_some : (format : Format) (packets : List (Option Packet)) (number first last k : ℕ) → first + k ≤ last → (t : Bool)
    → (nat_le number (first + k) || (nat_eq number (first + k + 1) && not (is_marked (place_at packets (first + k)))))
    ≡ t → Some k ≡ unit_at (window_packet packets last) first
    → out_made format (window_packet packets last) number first (unit_at (window_packet packets last) first)
    ≡ cond t (outgoing_of format (window_packet packets last) first k) []
out_some format packets number first last k le t made e =
    ap (out_made format (window_packet packets last) number first) (sym e)
    ∙ ap (λ (b : Bool). cond b (outgoing_of format (window_packet packets last) first k) [])
    (made_in packets number first last k le ∙ made)

pub out_not : (format : Format) (packets : List (Option Packet)) (number first last k : ℕ) → first + k ≤ last
    → (nat_le number (first + k) || (nat_eq number (first + k + 1) && not (is_marked (place_at packets (first + k)))))
    ≡ false → Some k ≡ unit_at (window_packet packets last) first
    → [] ≡ out_made format (window_packet packets last) number first (unit_at (window_packet packets last) first)
out_not format packets number first last k le made e = sym (out_some format packets number first last k le false made e)

pub out_long : (format : Format) (packets : List (Option Packet)) (number first last k : ℕ) → first + k ≤ last
    → (nat_le number (first + k) || (nat_eq number (first + k + 1) && not (is_marked (place_at packets (first + k)))))
    ≡ true → Some k ≡ unit_at (window_packet packets last) first
    → 65400 < length (coded_from (place_at packets) first (k + 1))
    → [] ≡ out_made format (window_packet packets last) number first (unit_at (window_packet packets last) first)
out_long format packets number first last k le made e long =
    let f : length (coded_from (window_packet packets last) first (k + 1))
    ≡ length (coded_from (place_at packets) first (k + 1)) =
    ap (length {A = ℕ}) (window_coded packets first last (k + 1) (omega arith)) in
    sym (out_some format packets number first last k le true made e
    ∙ too_long format (window_packet packets last) first k (omega arith))

pub out_whole : (format : Format) (packets : List (Option Packet)) (number first last k : ℕ) → first + k ≤ last
    → (nat_le number (first + k) || (nat_eq number (first + k + 1) && not (is_marked (place_at packets (first + k)))))
    ≡ true → Some k ≡ unit_at (window_packet packets last) first
    → outgoing_of format (place_at packets) first k ≡ out_made format (window_packet packets last) number first
    (unit_at (window_packet packets last) first)
unfolding outgoing_of
out_whole format packets number first last k le made e =
    let coded = window_coded packets first last (k + 1) (omega arith) in
    let here = inside packets last first (omega arith) in
    (λ i. out_by format (sym coded i) (sym here i)) ∙ sym (out_some format packets number first last k le true made e)

some_of : (o : Option Packet) → (begins_one o ≡ true) ⊎ (follows_one o ≡ true) → is_some o ≡ true
some_of None (inl e) = absurd cc
some_of None (inr e) = absurd cc
some_of (Some p) e = refl

pub is_whole : (packets : List (Option Packet)) (first last k : ℕ) → first + k ≤ last → last < 2 ^ 31
    → Some k ≡ unit_at (window_packet packets last) first → length (coded_from (place_at packets) first (k + 1)) ≤ 65400
    → IsWholeUnit packets (record { number = first; follow = k })
is_whole packets first last k le fits e short =
    let u = unit_laws.only (window_packet packets last) first k (sym e) in
    record {
      number = omega arith;
      few = few_follow (window_packet packets last) first k (sym e);
      there = λ j upto. at j upto u;
      short = short;
    }
  where
    at : (j : ℕ) → j ≤ k → IsUnit (window_packet packets last) first k → is_some (place_at packets (first + j)) ≡ true
    at zero upto u =
        let f : first ≡ first + 0 = omega arith in
        some_of (place_at packets (first + 0)) (inl (ap begins_one (sym (inside packets last (first + 0) (omega arith))
        ∙ ap (window_packet packets last) (sym f)) ∙ u.begins))
    at (suc j) upto u =
        let f : first + suc j ≡ first + (j + 1) = omega arith in
        some_of (place_at packets (first + suc j))
        (inr (ap follows_one (sym (inside packets last (first + suc j) (omega arith))
        ∙ ap (window_packet packets last) f)
        ∙ u.follow j (omega arith)))

-- so many packets have no more coded bytes than more of them
pub coded_within : (at : At) (x k count : ℕ) → k ≤ count → length (coded_from at x k) ≤ length (coded_from at x count)
unfolding coded_from
coded_within at x zero count le = omega arith
coded_within at x (suc k) zero le = absurd (omega arith)
coded_within at x (suc k) (suc count) le =
    let more = coded_within at (x + 1) k count (omega arith) in
    let a = length-append (coded_one (at x)) (coded_from at (x + 1) k) in
    let b = length-append (coded_one (at x)) (coded_from at (x + 1) count) in
    omega arith
