-- What one more packet makes whole, as the code finds it: the unit that the packets before it are in, and the
-- one that it
-- begins.
use Rattle.std.proofs.Common.{◌≡◌, ◌⊎◌, inl, inr, ℕ, zero, suc, ◌+◌, ◌-◌, ◌<◌, ◌≤◌, Bool, true, false, cond, List, [], ◌++◌, Option, Some, None, refl, sym, ap, subst, ◌∙◌, arith}
use Rattle.std.specs.Prelude.{nat_le, nat_eq, ◌&&◌, not}
use Rattle.std.proofs.lemmas.Bool.{cases_lt, cases_eq, cases_Bool, le-leb, lt-leb, eq-eqb, ne_eqb}
use Rattle.std.proofs.lemmas.List.{append-nil}
use Rattle.h263_types.specs.declared.format.Format.{Format}
use Rattle.payload_join.specs.Unit.{begins_one, follows_one, is_marked, begins_unit_at, follows_at, marked_at, IsUnit, unit_at}
use Rattle.payload_join.specs.Outgoing.{outgoing_of}
use Rattle.payload_join.specs.Run.{made_one, made_from}
use Rattle.payload_join.specs.Units.{is_made, out_made}
use Rattle.payload_join.proofs.Growing.{At, either_one, one_unit, unit_there, unit_laws, few_follow}
use Rattle.payload_join.proofs.Orders.{made_parts}

-- one more packet: n is its number, `last` the greatest one
pub record IsStep (before now : At) (n last : ℕ) : Type 0 where
  pub fresh : before n ≡ None
  pub same : (m : ℕ) → last < m + 64 → (m ≡ n → ⊥) → now m ≡ before m
  pub low : 63 ≤ last
  pub upto : n ≤ last
  pub young : last < n + 64

-- packet x begins a unit, and all after it up to a number follow on
pub record IsFrom (at : At) (low n x : ℕ) : Type 0 where
  pub from : low ≤ x
  pub below : x < n
  pub begins : begins_unit_at at x ≡ true
  pub follow : (m : ℕ) → x < m → m < n → follows_at at m ≡ true

held_is : (at : At) (n m : ℕ) → at n ≡ None → (begins_unit_at at m ≡ true) ⊎ (follows_at at m ≡ true) → m ≡ n → ⊥
held_is at n m none (inl b) e = let f : begins_unit_at at m ≡ false = ap (λ (k : ℕ). begins_unit_at at k) e
    ∙ ap begins_one none in cc
held_is at n m none (inr b) e = let f : follows_at at m ≡ false = ap (λ (k : ℕ). follows_at at k) e
    ∙ ap follows_one none in cc

-- the packets of a unit, and the one that ends it where it has no marker
in_it : (at : At) (n y k j : ℕ) → at n ≡ None → IsUnit at y k → j ≤ k → y + j ≡ n → ⊥
in_it at n y k zero none u le e = held_is at n y none (inl u.begins) (omega arith)
in_it at n y k (suc j) none u le e = held_is at n (y + (j + 1)) none (inr (u.follow j (omega arith))) (omega arith)

-- the unit of other packets that are the same
same_unit : (at bt : At) (y k : ℕ) → ((j : ℕ) → j ≤ k → at (y + j) ≡ bt (y + j))
    → ((marked_at at (y + k) ≡ false) → at (y + (k + 1)) ≡ bt (y + (k + 1))) → IsUnit at y k → IsUnit bt y k
same_unit at bt y k same next u =
    record {
      begins = ap begins_one (sym first) ∙ u.begins;
      follow = λ j lt. ap follows_one (sym (same (j + 1) (omega arith))) ∙ u.follow j lt;
      unmarked = λ j lt. ap is_marked (sym (same j (omega arith))) ∙ u.unmarked j lt;
      ends = at_end u.ends;
    }
  where
    first : at y ≡ bt y
    first = let e : y + 0 ≡ y = omega arith in subst (λ (n : ℕ). at n ≡ bt n) e (same 0 (omega arith))

    at_end : (marked_at at (y + k) ≡ true) ⊎ ((marked_at at (y + k) ≡ false) × (begins_unit_at at (y + (k + 1)) ≡ true))
        → (marked_at bt (y + k) ≡ true) ⊎ ((marked_at bt (y + k) ≡ false) × (begins_unit_at bt (y + (k + 1)) ≡ true))
    at_end (inl m) = inl (ap is_marked (sym (same k (omega arith))) ∙ m)
    at_end (inr b) = inr (ap is_marked (sym (same k (omega arith))) ∙ b.0, ap begins_one (sym (next b.0)) ∙ b.1)

-- it was not whole
was_not : (before now : At) (n last y k : ℕ) → IsStep before now n last → last < y + 64 → y ≤ n → IsUnit now y k
    → is_made now n y k ≡ true → unit_at before y ≡ None
was_not before now n last y k step inside le u made = at (unit_at before y) refl
  where
    apart : IsUnit before y k → ⊥
    apart v =
        elim (cases_lt (y + k) n) [
          | inr within ↦ in_it before n y k (n - y) step.fresh v (omega arith) (omega arith)
          | inl past ↦
              let a : nat_le n (y + k) ≡ false = lt-leb n (y + k) past in
              let same : now (y + k) ≡ before (y + k) = step.same (y + k) (omega arith) (λ e. absurd (omega arith)) in
              let b : (nat_eq n (y + k + 1) && not (marked_at now (y + k)))
              ≡ true = (let e : is_made now n y k ≡ (nat_eq n (y + k + 1) && not (marked_at now (y + k))) =
              rw a refl in sym e ∙ made) in
              ended v same b
        ]
      where
        ended : IsUnit before y k → now (y + k) ≡ before (y + k) → (nat_eq n (y + k + 1) && not (marked_at now (y + k)))
            ≡ true → ⊥
        ended v same b =
            elim (cases_eq n (y + k + 1)) [
              | inr ne ↦ let f : (nat_eq n (y + k + 1) && not (marked_at now (y + k)))
                  ≡ false = (rw (ne_eqb n (y + k + 1) ne) refl) in cc
              | inl e ↦ elim v.ends [
                | inl marked ↦
                    let m : marked_at now (y + k) ≡ true = ap is_marked same ∙ marked in
                    let f : (nat_eq n (y + k + 1) && not (marked_at now (y + k)))
                    ≡ false = (rw (eq-eqb n (y + k + 1) e, m) refl) in cc
                | inr begun ↦ held_is before n (y + (k + 1)) step.fresh (inl begun.1) (omega arith)
              ]
            ]

    at : (o : Option ℕ) → unit_at before y ≡ o → o ≡ None
    at None is = refl
    at (Some j) is =
        let v = unit_laws.only before y j is in
        let grown : IsUnit now y j = same_unit before now y j
        (λ i less. sym (step.same (y + i) (omega arith) (λ e. in_it before n y j i step.fresh v less e)))
        (next v) v in
        let e : j ≡ k = one_unit now y j k grown u in
        absurd (apart (subst (λ (i : ℕ). IsUnit before y i) e v))
      where
        next : IsUnit before y j → marked_at before (y + j) ≡ false → before (y + (j + 1)) ≡ now (y + (j + 1))
        next v m = sym (step.same (y + (j + 1)) (omega arith) (λ e. elim v.ends [
          | inl marked ↦ let f : true ≡ false = sym marked ∙ m in absurd cc
          | inr b ↦ held_is before n (y + (j + 1)) step.fresh (inl b.1) e
        ]))

-- it was whole
was : (before now : At) (n last y k : ℕ) → IsStep before now n last → last < y + 64 → k < 64 → IsUnit now y k
    → (n < y) ⊎ ((y + k < n) × ((n ≡ y + k + 1) → marked_at now (y + k) ≡ true)) → unit_at before y ≡ Some k
was before now n last y k step inside few u (inl under) =
    unit_there before y k few
    (same_unit now before y k (λ j le. step.same (y + j) (omega arith) (λ e. absurd (omega arith)))
    (λ m. step.same (y + (k + 1)) (omega arith) (λ e. absurd (omega arith))) u)
was before now n last y k step inside few u (inr past) =
    let over = past.0 in
    unit_there before y k few
    (same_unit now before y k (λ j le. step.same (y + j) (omega arith) (λ e. absurd (omega arith)))
    (λ m. step.same (y + (k + 1)) (omega arith) (λ e. let marked = past.1 (omega arith) in
    let f : true ≡ false = sym marked ∙ m in absurd cc)) u)

-- so what goes out is what the packet made whole
one_made : (format : Format) (before now : At) (n last y : ℕ) → IsStep before now n last → last < y + 64 → y ≤ n
    → made_one format now y (unit_at now y) (unit_at before y) ≡ out_made format now n y (unit_at now y)
one_made format before now n last y step inside le = at (unit_at now y) refl
  where
    at : (o : Option ℕ) → unit_at now y ≡ o → made_one format now y o (unit_at before y) ≡ out_made format now n y o
    at None is = refl
    at (Some k) is =
        let u = unit_laws.only now y k is in
        elim (cases_Bool (is_made now n y k)) [
          | inl made ↦ ap (made_one format now y (Some k)) (was_not before now n last y k step inside le u made)
              ∙ ap (λ (b : Bool). cond b (outgoing_of format now y k) []) (sym made)
          | inr not_made ↦ ap (made_one format now y (Some k)) (was before now n last y k step inside
              (few_follow now y k is) u (inr (over not_made, marked not_made)))
              ∙ ap (λ (b : Bool). cond b (outgoing_of format now y k) []) (sym not_made)
        ]
      where
        over : is_made now n y k ≡ false → y + k < n
        over f = elim (cases_lt (y + k) n) [
          | inl lt ↦ lt
          | inr ge ↦ let e : is_made now n y k
              ≡ true = (rw (le-leb n (y + k) ge) refl) in absurd cc
        ]

        marked : is_made now n y k ≡ false → n ≡ y + k + 1 → marked_at now (y + k) ≡ true
        marked f e = elim (cases_Bool (marked_at now (y + k))) [
          | inl m ↦ m
          | inr m ↦ let g : is_made now n y k
              ≡ true = (rw (lt-leb n (y + k) (omega arith), eq-eqb n (y + k + 1) e, m) refl) in absurd cc
        ]

one_above : (format : Format) (before now : At) (n last y : ℕ) → IsStep before now n last → last < y + 64 → n < y
    → made_one format now y (unit_at now y) (unit_at before y) ≡ []
one_above format before now n last y step inside lt = at (unit_at now y) refl
  where
    at : (o : Option ℕ) → unit_at now y ≡ o → made_one format now y o (unit_at before y) ≡ []
    at None is = refl
    at (Some k) is = ap (made_one format now y (Some k)) (was before now n last y k step inside (few_follow now y k is)
        (unit_laws.only now y k is) (inl lt))

-- no unit was made whole whose packets don't go on up to the new one
one_apart : (format : Format) (now : At) (low n y : ℕ) → low ≤ y → y < n → (IsFrom now low n y → ⊥)
    → out_made format now n y (unit_at now y) ≡ []
one_apart format now low n y from lt apart = at (unit_at now y) refl
  where
    at : (o : Option ℕ) → unit_at now y ≡ o → out_made format now n y o ≡ []
    at None is = refl
    at (Some k) is =
        let u = unit_laws.only now y k is in
        elim (cases_Bool (is_made now n y k)) [
          | inr not_made ↦ ap (λ (b : Bool). cond b (outgoing_of format now y k) []) not_made
          | inl made ↦
              let upto : n ≤ y + k + 1 = up made in
              absurd (apart (record {
                from = from;
                below = lt;
                begins = u.begins;
                follow = λ m a b. let e : y + (m - y - 1 + 1) ≡ m = omega arith in
                    subst (λ (i : ℕ). follows_at now i ≡ true) e (u.follow (m - y - 1) (omega arith));
              }))
        ]
      where
        up : is_made now n y k ≡ true → n ≤ y + k + 1
        up made = elim (cases_lt (y + k + 1) n) [
          | inr le ↦ le
          | inl over ↦ let f : is_made now n y k
              ≡ false = (rw (lt-leb n (y + k) (omega arith), ne_eqb n (y + k + 1) (λ e. absurd (omega arith))) refl) in
              absurd cc
        ]

-- there is one such packet at most
one_from : (at : At) (low n x y : ℕ) → IsFrom at low n x → IsFrom at low n y → x ≡ y
one_from at low n x y f g =
    elim (cases_lt x y) [
      | inl lt ↦ absurd (either_one (at y) g.begins (f.follow y lt g.below))
      | inr ge ↦ elim (cases_lt y x) [
        | inl lt ↦ absurd (either_one (at x) f.begins (g.follow x lt f.below))
        | inr le ↦ omega arith
      ]
    ]

none_made : (format : Format) (before now : At) (x count : ℕ)
    → ((j : ℕ) → j < count → made_one format now (x + j) (unit_at now (x + j)) (unit_at before (x + j)) ≡ [])
    → made_from format before now x count ≡ []
unfolding made_from
none_made format before now x zero none = refl
none_made format before now x (suc count) none =
    let first : made_one format now x (unit_at now x) (unit_at before x) ≡ [] = let e : x + 0 ≡ x = omega arith in
    subst (λ (n : ℕ). made_one format now n (unit_at now n) (unit_at before n) ≡ []) e (none 0 (omega arith)) in
    let more = none_made format before now (x + 1) count (λ j lt. let e : x + suc j ≡ x + 1 + j = omega arith in
    subst (λ (n : ℕ). made_one format now n (unit_at now n) (unit_at before n) ≡ []) e (none (suc j) (omega arith)))
    in
    ap (λ (l : List (List ℕ)). l ++ made_from format before now (x + 1) count) first ∙ more

-- of so many numbers one alone gives something
one_only : (format : Format) (before now : At) (x a c y : ℕ) → x + a ≡ y
    → ((j : ℕ) → j < a → made_one format now (x + j) (unit_at now (x + j)) (unit_at before (x + j)) ≡ [])
    → made_from format before now x (a + suc c) ≡ made_one format now y (unit_at now y) (unit_at before y)
    ++ made_from format before now (y + 1) c
unfolding made_from
one_only format before now x a c y e none =
    made_parts format before now x a (suc c)
    ∙ ap (λ (l : List (List ℕ)). l ++ made_from format before now (x + a) (suc c))
    (none_made format before now x a none)
    ∙ ap (λ (k : ℕ). made_from format before now k (suc c)) e

-- the unit that begins with the new packet
at_new : (format : Format) (before now : At) (n last x a : ℕ) → IsStep before now n last → x + a ≡ n → last < x + 64
    → ((y : ℕ) → x ≤ y → y < n → made_one format now y (unit_at now y) (unit_at before y) ≡ [])
    → made_from format before now x (a + suc (last - n)) ≡ out_made format now n n (unit_at now n)
at_new format before now n last x a step e inside none =
    one_only format before now x a (last - n) n e (λ j lt. none (x + j) (omega arith) (omega arith))
    ∙ ap (λ (l : List (List ℕ)). made_one format now n (unit_at now n) (unit_at before n)
    ++ l) (none_made format before now (n + 1) (last - n) (λ j lt. one_above format before now n last
    (n + 1 + j) step (omega arith) (omega arith)))
    ∙ append-nil (made_one format now n (unit_at now n) (unit_at before n))
    ∙ one_made format before now n last n step (omega (arith, step.young)) (omega arith)

-- where the packets before the new one begin no unit
pub made_alone : (format : Format) (before now : At) (n last : ℕ) → IsStep before now n last
    → ((y : ℕ) → IsFrom now (last - 63) n y → ⊥)
    → made_from format before now (last - 63) 64 ≡ out_made format now n n (unit_at now n)
made_alone format before now n last step none =
    let a : ℕ = n - (last - 63) in
    let b = step.low in let c = step.upto in let d = step.young in
    let e : 64 ≡ a + suc (last - n) = omega arith in
    ap (made_from format before now (last - 63)) e
    ∙ at_new format before now n last (last - 63) a step (omega arith) (omega arith)
    (λ y from lt. one_made format before now n last y step (omega arith) (omega arith)
    ∙ one_apart format now (last - 63) n y from lt (none y))

-- where packet x begins the unit that they are in
pub made_two : (format : Format) (before now : At) (n last x : ℕ) → IsStep before now n last
    → IsFrom now (last - 63) n x
    → made_from format before now (last - 63) 64 ≡ out_made format now n x (unit_at now x)
    ++ out_made format now n n (unit_at now n)
made_two format before now n last x step first =
    let a : ℕ = x - (last - 63) in
    let a' : ℕ = n - (x + 1) in
    let b = step.low in let c = step.upto in let d = step.young in let f = first.from in let g = first.below in
    let e : 64 ≡ a + suc (a' + suc (last - n)) = omega arith in
    let apart : (y : ℕ) → last - 63 ≤ y → y < n → (y ≡ x → ⊥) → made_one format now y (unit_at now y) (unit_at before y)
    ≡ [] =
    λ y from lt ne. one_made format before now n last y step (omega arith) (omega arith)
    ∙ one_apart format now (last - 63) n y from lt (λ h. ne (one_from now (last - 63) n y x h first)) in
    ap (made_from format before now (last - 63)) e
    ∙ one_only format before now (last - 63) a (a' + suc (last - n)) x (omega arith)
    (λ j lt. apart (last - 63 + j) (omega arith) (omega arith) (λ h. absurd (omega arith)))
    ∙ (λ i. one_made format before now n last x step (omega arith) (omega arith) i
    ++ at_new format before now n last (x + 1) a' step (omega arith) (omega arith)
    (λ y from lt. apart y (omega arith) lt (λ h. absurd (omega arith))) i)
