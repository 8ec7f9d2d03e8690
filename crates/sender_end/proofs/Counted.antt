-- Counting pictures one after the other.
use Rattle.std.proofs.Common.{◌≡◌, ℕ, zero, suc, ◌+◌, ◌-◌, ◌%◌, ◌<◌, ◌≤◌, Bool, true, false, ◌&&◌, refl, sym, ap, ◌∙◌, subst, arith, leb, length}
use Rattle.std.specs.Prelude.{if◌then◌else◌}
use Rattle.std.proofs.lemmas.Bool.{leb-true, le-leb, lt-leb, leb-false}
use Rattle.reference_selector.specs.Stands.{SelectorStands}
use Rattle.call_model.specs.CodedPictures.{is_among}
use Rattle.call_decoding.specs.Rules.{rules_of}
use Rattle.sender_end.specs.Known.{count_below, known_in}
use Rattle.sender_end.specs.Stands.{Holds, SentRun}
use Rattle.sender_end.specs.State.{SenderState}

-- tests that agree below a bound count the same
pub same_count : (n : ℕ) (f g : ℕ → Bool) → ((m : ℕ) → m < n → f m ≡ g m) → count_below n f ≡ count_below n g
same_count zero f g same = refl
same_count (suc n) f g same =
    ap (λ (b : Bool). if b then count_below n f + 1 else count_below n f) (same n (omega arith))
    ∙ ap (λ (k : ℕ). if g n then k + 1 else k) (same_count n f g (λ m lt. same m (omega (arith, lt))))

-- none passes
pub none_count : (n : ℕ) (f : ℕ → Bool) → ((m : ℕ) → m < n → f m ≡ false) → count_below n f ≡ 0
none_count zero f none = refl
none_count (suc n) f none =
    ap (λ (b : Bool). if b then count_below n f + 1 else count_below n f) (none n (omega arith))
    ∙ none_count n f (λ m lt. none m (omega (arith, lt)))

-- one number more, which passes or doesn't
pub one_more : (n count : ℕ) (f : ℕ → Bool) (b : Bool) → f n ≡ b → count ≡ count_below n f
    → (if b then count + 1 else count) ≡ count_below (n + 1) f
one_more n count f b is so =
    let next : suc n ≡ n + 1 = omega arith in
    let here : (if b then count + 1 else count) ≡ count_below (suc n) f =
    ap (λ (k : ℕ). if b then k + 1 else k) so
    ∙ ap (λ (x : Bool). if x then count_below n f + 1 else count_below n f) (sym is)
    in
    subst (λ (k : ℕ). (if b then count + 1 else count) ≡ count_below k f) next here

-- one picture more that was looked at
pub counts_one : (first floor n count : ℕ) (known : ℕ → Bool) (b : Bool) → first ≤ n → (leb floor n && known n) ≡ b
    → count ≡ count_below n (λ m. leb first m && (leb floor m && known m))
    → (if b then count + 1 else count) ≡ count_below (n + 1) (λ m. leb first m && (leb floor m && known m))
counts_one first floor n count known b low is so =
    one_more n count (λ m. leb first m && (leb floor m && known m)) b
    (ap (λ (x : Bool). x && (leb floor n && known n)) (le-leb first n low) ∙ is) so

-- there are no more than were looked at
pub at_most : (count n more : ℕ) (b : Bool) → count ≤ n → more ≡ (if b then count + 1 else count) → more ≤ n + 1
at_most count n more true few is = omega (arith, few, is)
at_most count n more false few is = omega (arith, few, is)

-- no number below the first one is looked at
pub none_yet : (first : ℕ) (test : ℕ → Bool) → 0 ≡ count_below first (λ m. leb first m && test m)
none_yet first test =
    sym (none_count first (λ m. leb first m && test m) (λ m below. ap (λ (b : Bool). b && test m)
    (lt-leb first m below)))

-- a picture that is known, by what is kept of the last ones
pub serves_as : (sent window first m since : ℕ) (kept known : Bool) → first ≡ sent - window
    → (sent ≤ m + window → kept ≡ known)
    → (leb first m && (leb since m && kept)) ≡ (leb sent (m + window) && (leb since m && known))
serves_as sent window first m since kept known begins same = go (leb first m) refl
  where
    go : (b : Bool) → leb first m ≡ b → (leb first m && (leb since m && kept))
        ≡ (leb sent (m + window) && (leb since m && known))
    go true in_window =
        let low : sent ≤ m + window = omega (arith, begins, leb-true first m in_window) in
        rw (in_window, le-leb sent (m + window) low) (ap (λ (b : Bool). leb since m && b) (same low))
    go false before =
        let high : m + window < sent = omega (arith, begins, leb-false first m before) in
        rw (before, lt-leb sent (m + window) high) refl

-- where a sender holds this run, those that it counts are those of the run
pub counted_is : {P : Type 0} (state : SenderState P) (run : SentRun) (first count : ℕ) → Holds state run
    → first ≡ state.sent - (state.params.slots - state.params.lead - 1)
    → ((depth : ℕ → ℕ) (known : ℕ → Bool) → SelectorStands (rules_of state.params) state.selector state.sent depth known
    → state.sent ≤ first + state.params.slots
    → count ≡ count_below state.sent (λ m. leb first m && (leb state.since m && known m)))
    → count ≡ known_in state.params run
counted_is state run first count it begins counts =
    let p = state.params in
    let known = run.run.known in
    let window = p.slots - p.lead - 1 in
    let all : state.sent ≡ length run.run.coded = sym it.seen.sent ∙ it.holds.keeps.sent in
    let of : ℕ → ℕ → ℕ = λ sent since. count_below sent
    (λ m. leb sent (m + window) && (leb since m && is_among known m)) in
    counts (λ m. it.s.depth (m % p.slots)) (λ m. it.s.known (m % p.slots)) it.seen.selects (omega (arith, begins))
    ∙ same_count state.sent _ _
    (λ m below.
    serves_as state.sent window first m state.since (it.s.known (m % p.slots)) (is_among known m) begins
    (λ low. it.holds.keeps.known m (omega (arith, below, all), omega (arith, low, all))))
    ∙ ap (λ (n : ℕ). of n state.since) all
    ∙ ap (of (length run.run.coded)) it.since
