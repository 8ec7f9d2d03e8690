-- Whole units among packets that are held by their numbers, and what more packets make of them.
use Rattle.std.proofs.Common.{◌≡◌, ◌⊎◌, inl, inr, ℕ, zero, suc, ◌+◌, ◌<◌, ◌≤◌, Bool, true, false, cond, List, [], ◌++◌, Option, Some, None, refl, sym, ap, subst, ◌∙◌, arith, append_assoc}
use Rattle.std.specs.Prelude.{◌&&◌, ◌||◌, not, IsPermutation}
use Rattle.std.proofs.lemmas.Bool.{cases_lt}
use Rattle.std.proofs.lemmas.List.{append-nil}
use Rattle.std.proofs.lemmas.List.Sorted.{IsPermutation-refl, IsPermutation-trans, IsPermutation-append_left, IsPermutation-append_right, IsPermutation-append_comm}
use Rattle.h263_types.specs.declared.format.Format.{Format}
use Rattle.h263_bits.proofs.SyntaxLaws.{and_both}
use Rattle.payload_join.specs.Packet.{Packet}
use Rattle.payload_join.specs.Unit.{begins_one, follows_one, is_marked, begins_unit_at, follows_at, marked_at, each_below, least_from, IsUnit, is_unit, unit_at}
use Rattle.payload_join.specs.Outgoing.{coded_one, coded_from, out_by, outgoing_of}
use Rattle.payload_join.specs.Run.{made_one, made_from}
use Rattle.payload_join.specs.Laws.{UnitLaws}

abbrev pub At : Type 0
At = ℕ → Option Packet

-- each packet that was held is held still
abbrev pub Grows : At → At → Type 0
Grows before now = (n : ℕ) (p : Packet) → before n ≡ Some p → now n ≡ Some p

-- ---- tests

pub each_at : (n : ℕ) (test : ℕ → Bool) (j : ℕ) → each_below n test ≡ true → j < n → test j ≡ true
unfolding each_below
each_at zero test j e lt = absurd (omega arith)
each_at (suc n) test j e lt =
    let p = and_both (each_below n test) (test n) e in
    elim (cases_lt j n) [
      | inl less ↦ each_at n test j p.0 less
      | inr same ↦ let s : n ≡ j = omega arith in subst (λ (m : ℕ). test m ≡ true) s p.1
    ]

each_all : (n : ℕ) (test : ℕ → Bool) → ((j : ℕ) → j < n → test j ≡ true) → each_below n test ≡ true
unfolding each_below
each_all zero test each = refl
each_all (suc n) test each = rw (each_all n test (λ j lt. each j (omega arith)), each n (omega arith)) refl

not_true : (b : Bool) → not b ≡ true → b ≡ false
not_true true e = absurd cc
not_true false e = refl

-- a test is one of two
ends_is : (m b : Bool) → (m || b) ≡ true → (m ≡ true) ⊎ ((m ≡ false) × (b ≡ true))
ends_is true b e = inl refl
ends_is false b e = inr (refl, e)

unit_is : (at : At) (x k : ℕ) → is_unit at x k ≡ true → IsUnit at x k
unfolding is_unit
unit_is at x k e =
    let follow = each_below k (λ j. follows_at at (x + (j + 1))) in
    let unmarked = each_below k (λ j. not (marked_at at (x + j))) in
    let ends = marked_at at (x + k) || begins_unit_at at (x + (k + 1)) in
    let all = and_both ((begins_unit_at at x && follow) && unmarked) ends e in
    let three = and_both (begins_unit_at at x && follow) unmarked all.0 in
    let two = and_both (begins_unit_at at x) follow three.0 in
    record {
      begins = two.0;
      follow = λ j lt. each_at k (λ j. follows_at at (x + (j + 1))) j two.1 lt;
      unmarked = λ j lt. not_true (marked_at at (x + j)) (each_at k (λ j. not (marked_at at (x + j))) j three.1 lt);
      ends = ends_is (marked_at at (x + k)) (begins_unit_at at (x + (k + 1))) all.1;
    }

ends_of : (m b : Bool) → (m ≡ true) ⊎ ((m ≡ false) × (b ≡ true)) → (m || b) ≡ true
ends_of m b (inl e) = rw e refl
ends_of m b (inr e) = rw (e.0, e.1) refl

unit_of : (at : At) (x k : ℕ) → IsUnit at x k → is_unit at x k ≡ true
unfolding is_unit
unit_of at x k u =
    let f : each_below k (λ j. follows_at at (x + (j + 1)))
    ≡ true = each_all k (λ j. follows_at at (x + (j + 1))) u.follow in
    let m : each_below k (λ j. not (marked_at at (x + j))) ≡ true = each_all k (λ j. not (marked_at at (x + j)))
    (λ j lt. ap not (u.unmarked j lt)) in
    rw (u.begins, f, m, ends_of (marked_at at (x + k)) (begins_unit_at at (x + (k + 1))) u.ends) refl

-- ---- there is one at most

pub either_one : (o : Option Packet) → begins_one o ≡ true → follows_one o ≡ true → ⊥
either_one None p q = cc
either_one (Some p) b f = let e = not_true p.begins f in cc

not_less : (at : At) (x j k : ℕ) → IsUnit at x j → IsUnit at x k → j < k → ⊥
not_less at x j k u v lt = at_end u.ends
  where
    at_end : (marked_at at (x + j) ≡ true) ⊎ ((marked_at at (x + j) ≡ false) × (begins_unit_at at (x + (j + 1)) ≡ true))
        → ⊥
    at_end (inl m) = let e = v.unmarked j lt in cc
    at_end (inr b) = either_one (at (x + (j + 1))) b.1 (v.follow j lt)

pub one_unit : (at : At) (x j k : ℕ) → IsUnit at x j → IsUnit at x k → j ≡ k
one_unit at x j k u v =
    elim (cases_lt j k) [
      | inl lt ↦ absurd (not_less at x j k u v lt)
      | inr le ↦ elim (cases_lt k j) [ inl lt ↦ absurd (not_less at x k j v u lt) | inr ge ↦ omega arith ]
    ]

least_is : (n from k : ℕ) (test : ℕ → Bool) → least_from n from test ≡ Some k → (test k ≡ true) × (from ≤ k)
    × (k < from + n)
unfolding least_from
least_is zero from k test e = absurd cc
least_is (suc n) from k test e = at (test from) refl e (λ f. least_is n (from + 1) k test f)
  where
    at : (t : Bool) → test from ≡ t → cond t (Some from) (least_from n (from + 1) test) ≡ Some k
        → (least_from n (from + 1) test ≡ Some k → (test k ≡ true) × (from + 1 ≤ k) × (k < from + 1 + n))
        → (test k ≡ true) × (from ≤ k) × (k < from + suc n)
    at true is f more = let same : from ≡ k = cc in (
      subst (λ (m : ℕ). test m ≡ true) same is,
      omega (arith, same),
      omega (arith, same),
    )
    at false is f more = let m = more f in (m.0, omega (arith, m.1), omega (arith, m.2))

least_of : (n from k : ℕ) (test : ℕ → Bool) → test k ≡ true → ((j : ℕ) → test j ≡ true → j ≡ k) → from ≤ k
    → k < from + n → least_from n from test ≡ Some k
unfolding least_from
least_of zero from k test good one le lt = absurd (omega arith)
least_of (suc n) from k test good one le lt = at (test from) refl (λ le. least_of n (from + 1) k test good one le
    (omega arith))
  where
    at : (t : Bool) → test from ≡ t → (from + 1 ≤ k → least_from n (from + 1) test ≡ Some k)
        → cond t (Some from) (least_from n (from + 1) test) ≡ Some k
    at true is more = ap (λ (m : ℕ). Some m) (one from is)
    at false is more = more (elim (cases_lt from k) [
      | inl lt ↦ omega arith
      | inr ge ↦ let same : from
          ≡ k = omega arith in absurd (let e : test k ≡ false = subst (λ (m : ℕ). test m ≡ false) same is in cc)
    ])

least_none : (n from : ℕ) (test : ℕ → Bool) → ((k : ℕ) → test k ≡ false) → least_from n from test ≡ None
unfolding least_from
least_none zero from test fails = refl
least_none (suc n) from test fails = rw (fails from) (least_none n (from + 1) test fails)

-- ---- more packets

begins_grows : (before now : At) (n : ℕ) → Grows before now → begins_unit_at before n ≡ true
    → begins_unit_at now n ≡ true
begins_grows before now n grows e = at (before n) refl e
  where
    at : (o : Option Packet) → before n ≡ o → begins_one o ≡ true → begins_unit_at now n ≡ true
    at None is e = absurd cc
    at (Some p) is e = rw (grows n p is) e

follows_grows : (before now : At) (n : ℕ) → Grows before now → follows_at before n ≡ true → follows_at now n ≡ true
follows_grows before now n grows e = at (before n) refl e
  where
    at : (o : Option Packet) → before n ≡ o → follows_one o ≡ true → follows_at now n ≡ true
    at None is e = absurd cc
    at (Some p) is e = rw (grows n p is) e

-- what is held stays as it is
stays_at : (before now : At) (n : ℕ) → Grows before now → (begins_unit_at before n ≡ true)
    ⊎ (follows_at before n ≡ true)
    → now n ≡ before n
stays_at before now n grows h = at (before n) refl h
  where
    at : (o : Option Packet) → before n ≡ o → (begins_one o ≡ true) ⊎ (follows_one o ≡ true) → now n ≡ before n
    at None is (inl e) = absurd cc
    at None is (inr e) = absurd cc
    at (Some p) is e = grows n p is ∙ sym is

-- the packets of a unit stay
in_unit : (before now : At) (x k j : ℕ) → Grows before now → IsUnit before x k → j ≤ k → now (x + j) ≡ before (x + j)
in_unit before now x k zero grows u le = stays_at before now (x + 0) grows (inl (let e : x ≡ x + 0 = omega arith in
    subst (λ (n : ℕ). begins_unit_at before n ≡ true) e u.begins))
in_unit before now x k (suc j) grows u le =
    stays_at before now (x + suc j) grows (inr (let e : x + (j + 1) ≡ x + suc j = omega arith in
    subst (λ (n : ℕ). follows_at before n ≡ true) e (u.follow j (omega arith))))

unit_grows : (before now : At) (x k : ℕ) → Grows before now → IsUnit before x k → IsUnit now x k
unit_grows before now x k grows u =
    record {
      begins = begins_grows before now x grows u.begins;
      follow = λ j lt. follows_grows before now (x + (j + 1)) grows (u.follow j lt);
      unmarked = λ j lt. ap is_marked (in_unit before now x k j grows u (omega arith)) ∙ u.unmarked j lt;
      ends = at_end u.ends;
    }
  where
    at_end : (marked_at before (x + k) ≡ true) ⊎ ((marked_at before (x + k) ≡ false)
        × (begins_unit_at before (x + (k + 1)) ≡ true))
        → (marked_at now (x + k) ≡ true) ⊎ ((marked_at now (x + k) ≡ false) × (begins_unit_at now (x + (k + 1)) ≡ true))
    at_end (inl m) = inl (ap is_marked (in_unit before now x k k grows u (omega arith)) ∙ m)
    at_end (inr b) = inr (
      ap is_marked (in_unit before now x k k grows u (omega arith))
          ∙ b.0,
      begins_grows before now (x + (k + 1)) grows b.1,
    )

-- a unit that is whole stays so
pub at_grows : (before now : At) (x k : ℕ) → Grows before now → unit_at before x ≡ Some k → unit_at now x ≡ Some k
unfolding unit_at
at_grows before now x k grows e =
    let l = least_is 64 0 k (is_unit before x) e in
    let u = unit_grows before now x k grows (unit_is before x k l.0) in
    least_of 64 0 k (is_unit now x) (unit_of now x k u) (λ j t. one_unit now x j k (unit_is now x j t) u) (omega arith)
    (omega (arith, l.2))

pub coded_same : (before now : At) (x count : ℕ) → ((j : ℕ) → j < count → now (x + j) ≡ before (x + j))
    → coded_from now x count ≡ coded_from before x count
unfolding coded_from
coded_same before now x zero same = refl
coded_same before now x (suc count) same =
    let first : now x ≡ before x = let e : x + 0 ≡ x = omega arith in
    subst (λ (n : ℕ). now n ≡ before n) e (same 0 (omega arith)) in
    let more = coded_same before now (x + 1) count (λ j lt. let e : x + suc j ≡ x + 1 + j = omega arith in
    subst (λ (n : ℕ). now n ≡ before n) e (same (suc j) (omega arith))) in
    λ i. coded_one (first i) ++ more i

outgoing_same : (format : Format) (before now : At) (x k : ℕ) → Grows before now → IsUnit before x k
    → outgoing_of format now x k ≡ outgoing_of format before x k
unfolding outgoing_of
outgoing_same format before now x k grows u =
    let coded = coded_same before now x (k + 1) (λ j lt. in_unit before now x k j grows u (omega arith)) in
    let first = stays_at before now x grows (inl u.begins) in
    λ i. out_by format (coded i) (first i)

pub unit_there : (at : At) (x k : ℕ) → k < 64 → IsUnit at x k → unit_at at x ≡ Some k
unfolding unit_at
unit_there at x k lt u = least_of 64 0 k (is_unit at x) (unit_of at x k u)
    (λ j t. one_unit at x j k (unit_is at x j t) u) (omega arith) (omega arith)

-- ---- what goes out

abbrev pub nothing : At
nothing n = None

pub none_at : (at : At) (x : ℕ) → at x ≡ None → unit_at at x ≡ None
unfolding unit_at is_unit
none_at at x e = least_none 64 0 (is_unit at x) (λ k. rw e refl)

some_is : (j k : ℕ) → Some j ≡ Some k → j ≡ k
some_is j k e = cc

unit_found : (at : At) (x k : ℕ) → unit_at at x ≡ Some k → is_unit at x k ≡ true
unfolding unit_at
unit_found at x k e = (least_is 64 0 k (is_unit at x) e).0

pub few_follow : (at : At) (x k : ℕ) → unit_at at x ≡ Some k → k < 64
unfolding unit_at
few_follow at x k e = omega (arith, (least_is 64 0 k (is_unit at x) e).2)

-- what goes out now is what went out before and what is made whole
one_more : (format : Format) (before now : At) (x : ℕ) → Grows before now
    → made_one format now x (unit_at now x) (unit_at nothing x)
    ≡ made_one format before x (unit_at before x) (unit_at nothing x)
    ++ made_one format now x (unit_at now x) (unit_at before x)
one_more format before now x grows = rw (none_at nothing x refl) (at (unit_at before x) refl (unit_at now x) refl)
  where
    at : (b : Option ℕ) → unit_at before x ≡ b → (n : Option ℕ) → unit_at now x ≡ n → made_one format now x n None
        ≡ made_one format before x b None ++ made_one format now x n b
    at None is None was = refl
    at None is (Some k) was = refl
    at (Some k) is None was = let e = at_grows before now x k grows is in absurd cc
    at (Some k) is (Some j) was =
        let same : Some j ≡ Some k = sym was ∙ at_grows before now x k grows is in
        let u = unit_is before x k (unit_found before x k is) in
        ap (λ (m : ℕ). outgoing_of format now x m) (some_is j k same) ∙ outgoing_same format before now x k grows u
        ∙ sym (append-nil (outgoing_of format before x k))

crossed : {X : Type 0} (a b ads bs : List X) → IsPermutation ((a ++ b) ++ (ads ++ bs)) ((a ++ ads) ++ (b ++ bs))
crossed {X} a b ads bs =
    let left : (a ++ b) ++ (ads ++ bs) ≡ a ++ ((b ++ ads) ++ bs) = append_assoc a b (ads ++ bs)
    ∙ ap (λ (t : List X). a ++ t) (sym (append_assoc b ads bs)) in
    let right : a ++ ((ads ++ b) ++ bs) ≡ (a ++ ads) ++ (b ++ bs) = ap (λ (t : List X). a ++ t) (append_assoc ads b bs)
    ∙ sym (append_assoc a ads (b ++ bs)) in
    subst (λ (t : List X). IsPermutation t ((a ++ ads) ++ (b ++ bs))) (sym left)
    (subst (λ (t : List X). IsPermutation (a ++ ((b ++ ads) ++ bs)) t) right
    (IsPermutation-append_right a ((b ++ ads) ++ bs) ((ads ++ b) ++ bs) (IsPermutation-append_left bs (b ++ ads) (ads
    ++ b) (IsPermutation-append_comm b ads))))

pub more_out : (format : Format) (before now : At) (x count : ℕ) → Grows before now
    → IsPermutation (made_from format nothing now x count) (made_from format nothing before x count
    ++ made_from format before now x count)
unfolding made_from
more_out format before now x zero grows = IsPermutation-refl []
more_out format before now x (suc count) grows =
    let a = made_one format before x (unit_at before x) (unit_at nothing x) in
    let b = made_one format now x (unit_at now x) (unit_at before x) in
    let ads = made_from format nothing before (x + 1) count in
    let bs = made_from format before now (x + 1) count in
    let rest = more_out format before now (x + 1) count grows in
    subst (λ (first : List (List ℕ)). IsPermutation (first ++ made_from format nothing now (x + 1) count) ((a ++ ads)
    ++ (b ++ bs))) (sym (one_more format before now x grows))
    (IsPermutation-trans _ ((a ++ b) ++ (ads ++ bs)) _ (IsPermutation-append_right (a ++ b) _ (ads ++ bs) rest)
    (crossed a b ads bs))

-- a unit of fewer than 64 packets after its first is found
pub unit_laws : UnitLaws
unit_laws = record {
  exact = λ at x k. (unit_is at x k, unit_of at x k);
  one = one_unit;
  found = unit_there;
  only = λ at x k e. unit_is at x k (unit_found at x k e);
}
