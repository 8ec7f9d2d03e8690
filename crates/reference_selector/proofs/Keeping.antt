-- What a selector's slots say of the numbers of a window.
use Rattle.std.proofs.Common.{◌≡◌, ◌≢◌, ℕ, ◌+◌, ◌-◌, ◌%◌, ◌<◌, ◌≤◌, Bool, true, false, ◌||◌, refl, sym, ap, ◌∙◌, arith, inl, inr, ◌⊎◌, Some, None, List, length, eqb, ltb, get_or, set}
use Rattle.std.specs.Prelude.{if◌then◌else◌}
use Rattle.std.proofs.lemmas.Bool.{cases_eq, cases_lt, eq-eqb, ne_eqb, lt-ltb, le-ltb}
use Rattle.std.proofs.lemmas.List.{get_or-set_same, get_or-set_other}
use Rattle.std.proofs.Math.Nat.{mod-lt}
use Rattle.h263_types.specs.Clocks.{half_of}
use Rattle.call_model.specs.Coding.{Rules}
use Rattle.call_model.specs.Numbers.{OneInAPeriod}
use Rattle.call_model.specs.CodedPictures.{reference_for}
use Rattle.reference_selector.specs.declared.Selector.{Selector}
use Rattle.reference_selector.specs.Stands.{SelectorStands}
use Rattle.reference_selector.proofs.Choosing.{one_rest, reference_found, reference_none}

-- the flag that is read is the number's
pub known_here : (rules : Rules) (s : Selector) (n back : ℕ) (depth : ℕ → ℕ) (known : ℕ → Bool)
    → SelectorStands rules s n depth known → back < n → back < s.slots - s.lead - 1
    → get_or s.known ((n - back - 1) % s.slots) false ≡ known (n - back - 1)
known_here rules s n back depth known stands below within =
    let e : s.slots ≡ rules.slots = stands.slots in
    ap (λ (k : ℕ). get_or s.known ((n - back - 1) % k) false) e
    ∙ stands.known_is (n - back - 1) (omega arith) (omega (arith, e))

pub depth_here : (rules : Rules) (s : Selector) (n back : ℕ) (depth : ℕ → ℕ) (known : ℕ → Bool)
    → SelectorStands rules s n depth known → back < n → back < s.slots - s.lead - 1
    → get_or s.depths ((n - back - 1) % s.slots) 0 ≡ depth (n - back - 1)
depth_here rules s n back depth known stands below within =
    let e : s.slots ≡ rules.slots = stands.slots in
    ap (λ (k : ℕ). get_or s.depths ((n - back - 1) % k) 0) e
    ∙ stands.depth_is (n - back - 1) (omega arith) (omega (arith, e))

-- one number more was looked at
pub looked_more : (known : ℕ → Bool) (n back : ℕ) → back < n → ((m : ℕ) → m < n → n ≤ m + back → known m ≡ false)
    → known (n - back - 1) ≡ false → (m : ℕ) → m < n → n ≤ m + (back + 1) → known m ≡ false
looked_more known n back below before here m lt close =
    elim (cases_lt (m + back) n) [
      | inl far ↦ let e : m ≡ n - back - 1 = omega arith in ap known e ∙ here
      | inr near ↦ before m lt near
    ]

-- the first known number that is found is the newest
pub chosen_here : (rules : Rules) (s : Selector) (n back : ℕ) (depth : ℕ → ℕ) (known : ℕ → Bool)
    → SelectorStands rules s n depth known → back < n → back < s.slots - s.lead - 1
    → ((m : ℕ) → m < n → n ≤ m + back → known m ≡ false) → get_or s.known ((n - back - 1) % s.slots) false ≡ true
    → reference_for rules depth known n
    ≡ (if ltb (get_or s.depths ((n - back - 1) % s.slots) 0) 131 then Some (n - back - 1) else None)
chosen_here rules s n back depth known stands below within newer flag =
    let is_known : known (n - back - 1) ≡ true = sym (known_here rules s n back depth known stands below within)
    ∙ flag in
    let found = reference_found rules depth known n (n - back - 1) (omega arith) (omega (
      arith,
      stands.slots,
      stands.lead,
    )) is_known (λ k low high. newer k high (omega arith)) in
    rw (depth_here rules s n back depth known stands below within) (found
    ∙ ap (λ (c : ℕ). if ltb (depth (n - back - 1)) c then Some (n - back - 1) else None) stands.chain)

pub none_here : (rules : Rules) (s : Selector) (n back : ℕ) (depth : ℕ → ℕ) (known : ℕ → Bool)
    → SelectorStands rules s n depth known → ((n ≤ back) ⊎ (s.slots - s.lead - 1 ≤ back))
    → ((m : ℕ) → m < n → n ≤ m + back → known m ≡ false) → reference_for rules depth known n ≡ None
none_here rules s n back depth known stands all newer =
    reference_none rules depth known n (λ k lt close. elim all [
      | inl none_left ↦ newer k lt (omega arith)
      | inr window_done ↦ newer k lt (omega (arith, stands.slots, stands.lead))
    ])

-- a number becomes known
pub marked : OneInAPeriod → (rules : Rules) (s t : Selector) (sent number : ℕ) (depth : ℕ → ℕ) (known : ℕ → Bool)
    → 0 < s.slots → s.slots ≤ length s.known → number < sent → sent ≤ number + s.slots → t.slots ≡ s.slots
    → t.lead ≡ s.lead → t.clock ≡ s.clock → t.depths ≡ s.depths → t.known ≡ set s.known (number % s.slots) true
    → SelectorStands rules s sent depth known → SelectorStands rules t sent depth (λ m. eqb number m || known m)
marked one rules s t sent number depth known pos room below last slots lead clock depths flags stands =
    let e : s.slots ≡ rules.slots = stands.slots in
    record {
      slots = slots ∙ stands.slots;
      lead = lead ∙ stands.lead;
      half = stands.half ∙ ap half_of (sym clock);
      chain = stands.chain;
      depth_is = λ m m_below m_last. ap (λ (ds : List ℕ). get_or ds (m % rules.slots) 0) depths
          ∙ stands.depth_is m m_below m_last;
      known_is = λ m m_below m_last. each e m m_below m_last (cases_eq number m);
    }
  where
    each : s.slots ≡ rules.slots → (m : ℕ) → m < sent → sent ≤ m + rules.slots → ((number ≡ m) ⊎ (number ≡ m → ⊥))
        → get_or t.known (m % rules.slots) false ≡ (eqb number m || known m)
    each e m m_below m_last (inl same) =
        let at : m % rules.slots ≡ number % s.slots = ap (λ (k : ℕ). m % k) (sym e)
        ∙ ap (λ (i : ℕ). i % s.slots) (sym same) in
        let small : number % s.slots < length s.known = omega (arith, mod-lt number pos, room) in
        rw (eq-eqb number m same, flags, at) (get_or-set_same s.known (number % s.slots) true false small)
    each e m m_below m_last (inr differ) =
        let apart : m % s.slots ≢ number % s.slots =
        λ same. differ (sym (one_rest one s.slots sent m number pos m_below (omega (arith, e)) below last same)) in
        let at : m % rules.slots ≡ m % s.slots = ap (λ (k : ℕ). m % k) (sym e) in
        rw (ne_eqb number m differ, flags, at) (get_or-set_other s.known (number % s.slots) (m % s.slots) true false
        apart ∙ ap (λ (k : ℕ). get_or s.known (m % k) false) e ∙ stands.known_is m m_below m_last)

pub chosen_some : (rules : Rules) (s : Selector) (n back : ℕ) (depth : ℕ → ℕ) (known : ℕ → Bool)
    → SelectorStands rules s n depth known → back < n → back < s.slots - s.lead - 1
    → ((m : ℕ) → m < n → n ≤ m + back → known m ≡ false) → get_or s.known ((n - back - 1) % s.slots) false ≡ true
    → get_or s.depths ((n - back - 1) % s.slots) 0 < 131 → Some (n - back - 1) ≡ reference_for rules depth known n
chosen_some rules s n back depth known stands below within newer flag small =
    sym (chosen_here rules s n back depth known stands below within newer flag ∙ rw (lt-ltb _ 131 small) refl)

pub chosen_none : (rules : Rules) (s : Selector) (n back : ℕ) (depth : ℕ → ℕ) (known : ℕ → Bool)
    → SelectorStands rules s n depth known → back < n → back < s.slots - s.lead - 1
    → ((m : ℕ) → m < n → n ≤ m + back → known m ≡ false) → get_or s.known ((n - back - 1) % s.slots) false ≡ true
    → 131 ≤ get_or s.depths ((n - back - 1) % s.slots) 0 → None ≡ reference_for rules depth known n
chosen_none rules s n back depth known stands below within newer flag large =
    sym (chosen_here rules s n back depth known stands below within newer flag ∙ rw (le-ltb _ 131 large) refl)

-- a mark outside the window changes no number that is kept
pub marked_far : (rules : Rules) (s : Selector) (sent number : ℕ) (depth : ℕ → ℕ) (known : ℕ → Bool)
    → number + s.slots < sent → SelectorStands rules s sent depth known
    → SelectorStands rules s sent depth (λ m. eqb number m || known m)
marked_far rules s sent number depth known far stands =
    let e : s.slots ≡ rules.slots = stands.slots in
    record {
      slots = stands.slots;
      lead = stands.lead;
      half = stands.half;
      chain = stands.chain;
      depth_is = stands.depth_is;
      known_is = λ m m_below m_last. let differ : number ≡ m → ⊥ = λ (same : number ≡ m). omega (arith, e) in
          rw (ne_eqb number m differ) (stands.known_is m m_below m_last);
    }

-- one picture more
pub coded_more : OneInAPeriod → (rules : Rules) (s t : Selector) (number d : ℕ) (depth : ℕ → ℕ) (known : ℕ → Bool)
    → 0 < s.slots → s.slots ≤ length s.known → s.slots ≤ length s.depths → depth number ≡ d → known number ≡ false
    → t.slots ≡ s.slots → t.lead ≡ s.lead → t.clock ≡ s.clock → t.depths ≡ set s.depths (number % s.slots) d
    → t.known ≡ set s.known (number % s.slots) false → SelectorStands rules s number depth known
    → SelectorStands rules t (number + 1) depth known
coded_more one rules s t number d depth known pos room_known room_depths depth_is known_is slots lead clock depths flags
    stands =
    record {
      slots = slots ∙ stands.slots;
      lead = lead ∙ stands.lead;
      half = stands.half ∙ ap half_of (sym clock);
      chain = stands.chain;
      depth_is = λ m m_below m_last. at_depth m m_below m_last (cases_eq number m);
      known_is = λ m m_below m_last. at_known m m_below m_last (cases_eq number m);
    }
  where
    e : s.slots ≡ rules.slots
    e = stands.slots

    small : number % s.slots < s.slots
    small = mod-lt number pos

    rest : (m : ℕ) → m % rules.slots ≡ m % s.slots
    rest m = ap (λ (k : ℕ). m % k) (sym e)

    apart : (m : ℕ) → m < number + 1 → number + 1 ≤ m + rules.slots → (number ≡ m → ⊥) → m % s.slots ≢ number % s.slots
    apart m m_below m_last differ same =
        differ (sym (one_rest one s.slots (number + 1) m number pos m_below (omega (arith, e)) (omega arith)
        (omega arith) same))

    at_depth : (m : ℕ) → m < number + 1 → number + 1 ≤ m + rules.slots → ((number ≡ m) ⊎ (number ≡ m → ⊥))
        → get_or t.depths (m % rules.slots) 0 ≡ depth m
    at_depth m m_below m_last (inl same) =
        rw (depths, rest m, sym same) (get_or-set_same s.depths (number % s.slots) d 0 (omega (arith, small))
        ∙ sym depth_is)
    at_depth m m_below m_last (inr differ) =
        rw (depths, rest m) (get_or-set_other s.depths (number % s.slots) (m % s.slots) d 0
        (apart m m_below m_last differ) ∙ ap (λ (k : ℕ). get_or s.depths (m % k) 0) e
        ∙ stands.depth_is m (omega arith) (omega arith))

    at_known : (m : ℕ) → m < number + 1 → number + 1 ≤ m + rules.slots → ((number ≡ m) ⊎ (number ≡ m → ⊥))
        → get_or t.known (m % rules.slots) false ≡ known m
    at_known m m_below m_last (inl same) =
        rw (flags, rest m, sym same) (get_or-set_same s.known (number % s.slots) false false (omega (arith, small))
        ∙ sym known_is)
    at_known m m_below m_last (inr differ) =
        rw (flags, rest m) (get_or-set_other s.known (number % s.slots) (m % s.slots) false false
        (apart m m_below m_last differ) ∙ ap (λ (k : ℕ). get_or s.known (m % k) false) e
        ∙ stands.known_is m (omega arith) (omega arith))

-- a selector stands for the same known pictures, however they are told
pub same_known : (rules : Rules) (s : Selector) (sent : ℕ) (depth : ℕ → ℕ) (f g : ℕ → Bool) → ((m : ℕ) → f m ≡ g m)
    → SelectorStands rules s sent depth f → SelectorStands rules s sent depth g
same_known rules s sent depth f g same stands =
    record {
      slots = stands.slots;
      lead = stands.lead;
      half = stands.half;
      chain = stands.chain;
      depth_is = stands.depth_is;
      known_is = λ m m_below m_last. stands.known_is m m_below m_last ∙ same m;
    }
