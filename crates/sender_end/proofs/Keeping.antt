-- What is kept of the last pictures, and of one more.
use Rattle.std.proofs.Common.{◌≡◌, ℕ, ◌+◌, ◌%◌, ◌<◌, ◌≤◌, Bool, false, refl, sym, ap, ◌∙◌, subst, arith, inl, inr, Option, Some, None, IfSome, List, length, eqb, get_or, set, is_some}
use Rattle.std.specs.Prelude.{if◌then◌else◌}
use Rattle.std.specs.Option.{option_map}
use Rattle.std.proofs.lemmas.Bool.{cases_eq, eq-eqb, ne_eqb}
use Rattle.std.proofs.lemmas.List.{get_or-set_same, get_or-set_other, length-set}
use Rattle.std.proofs.Math.Nat.{mod-lt}
use Rattle.h263_planes.specs.Picture.{Picture}
use Rattle.picture_store.specs.Pictures.{StoredPictures, IsKept, picture_in, slot_of, slots_of}
use Rattle.reference_selector.specs.declared.Selector.{Selector}
use Rattle.reference_selector.specs.Stands.{SelectorStands}
use Rattle.call_model.specs.Numbers.{OneRestIsFar}
use Rattle.call_model.specs.Coding.{Rules}
use Rattle.call_encoding.specs.Frames.{kind_of}
use Rattle.sender_end.specs.Coding.{HasKept, kept_picture}

-- a function with another value at one number
abbrev pub at_new : {A : Type 0} → ℕ → A → (ℕ → A) → ℕ → A
at_new n v f m = if eqb m n then v else f m

pub at_same : {A : Type 0} (n : ℕ) (v : A) (f : ℕ → A) → at_new n v f n ≡ v
at_same n v f = rw (eq-eqb n n refl) refl

pub at_other : {A : Type 0} (n m : ℕ) (v : A) (f : ℕ → A) → (m ≡ n → ⊥) → at_new n v f m ≡ f m
at_other n m v f differ = rw (ne_eqb m n differ) refl

-- ---- the selector

pub stands_same : (rules : Rules) (selector : Selector) (n : ℕ) (depth depth' : ℕ → ℕ) (known known' : ℕ → Bool)
    → ((m : ℕ) → m < n → n ≤ m + rules.slots → depth m ≡ depth' m) → ((m : ℕ) → m < n → n ≤ m + rules.slots
    → known m ≡ known' m)
    → SelectorStands rules selector n depth known → SelectorStands rules selector n depth' known'
stands_same rules selector n depth depth' known known' depths flags stands = record {
  slots = stands.slots;
  lead = stands.lead;
  half = stands.half;
  chain = stands.chain;
  depth_is = λ m below last. stands.depth_is m below last ∙ depths m below last;
  known_is = λ m below last. stands.known_is m below last ∙ flags m below last;
}

-- by what the selector keeps itself
pub own_numbers : (rules : Rules) (selector : Selector) (n : ℕ) (depth : ℕ → ℕ) (known : ℕ → Bool)
    → SelectorStands rules selector n depth known
    → SelectorStands rules selector n (λ m. get_or selector.depths (m % rules.slots) 0)
    (λ m. get_or selector.known (m % rules.slots) false)
own_numbers rules selector n depth known stands = record {
  slots = stands.slots;
  lead = stands.lead;
  half = stands.half;
  chain = stands.chain;
  depth_is = λ m below last. refl;
  known_is = λ m below last. refl;
}

-- the same of what is known alone
pub own_known : (rules : Rules) (selector : Selector) (n : ℕ) (depth : ℕ → ℕ) (known : ℕ → Bool)
    → SelectorStands rules selector n depth known
    → SelectorStands rules selector n depth (λ m. get_or selector.known (m % rules.slots) false)
own_known rules selector n depth known stands = record {
  slots = stands.slots;
  lead = stands.lead;
  half = stands.half;
  chain = stands.chain;
  depth_is = stands.depth_is;
  known_is = λ m below last. refl;
}

-- what coding picture n of this depth does to a selector
abbrev pub Codes : Selector → Selector → ℕ → ℕ → Type 0
Codes old new n d =
    (rules : Rules) (depths : ℕ → ℕ) (known : ℕ → Bool) → depths n ≡ d → known n ≡ false
    → SelectorStands rules old n depths known → SelectorStands rules new (n + 1) depths known

pub coded_numbers : (rules : Rules) (old new : Selector) (n d : ℕ) (depth : ℕ → ℕ) (known : ℕ → Bool)
    → Codes old new n d
    → SelectorStands rules old n depth known
    → SelectorStands rules new (n + 1) (at_new n d depth) (at_new n false known)
coded_numbers rules old new n d depth known codes stands =
    codes rules (at_new n d depth) (at_new n false known) (at_same n d depth) (at_same n false known)
    (stands_same rules old n depth (at_new n d depth) known (at_new n false known)
    (λ m below last. sym (at_other n m d depth (λ e. omega (arith, e, below))))
    (λ m below last. sym (at_other n m false known (λ e. omega (arith, e, below)))) stands)

-- the same by rests: no other of the last numbers has the rest of the new one
by_rest : {A : Type 0} → OneRestIsFar → (slots n m : ℕ) (v : A) (f : ℕ → A) → 0 < slots → m < n + 1 → n + 1 ≤ m + slots
    → at_new n v (λ k. f (k % slots)) m ≡ at_new (n % slots) v f (m % slots)
by_rest far slots n m v f some below last =
    elim (cases_eq m n) [
      | inl same ↦
          rw (eq-eqb m n same, eq-eqb (m % slots) (n % slots) (ap (λ (k : ℕ). k % slots) same)) refl
      | inr differ ↦
          rw (ne_eqb m n differ, ne_eqb (m % slots) (n % slots) (apart differ)) refl
    ]
  where
    apart : (m ≡ n → ⊥) → m % slots ≡ n % slots → ⊥
    apart differ same = let distance : m + slots ≤ n = far slots m n some same (omega (arith, below, differ)) in
        omega (arith, distance, last)

pub coded_rests : OneRestIsFar → (rules : Rules) (old new : Selector) (n d : ℕ) (depth : ℕ → ℕ) (known : ℕ → Bool)
    → 0 < rules.slots → Codes old new n d
    → SelectorStands rules old n (λ m. depth (m % rules.slots)) (λ m. known (m % rules.slots))
    → SelectorStands rules new (n + 1) (λ m. at_new (n % rules.slots) d depth (m % rules.slots))
    (λ m. at_new (n % rules.slots) false known (m % rules.slots))
coded_rests far rules old new n d depth known some codes stands =
    stands_same rules new (n + 1) (at_new n d (λ m. depth (m % rules.slots))) (λ m. at_new (n % rules.slots) d depth
    (m % rules.slots))
    (at_new n false (λ m. known (m % rules.slots))) (λ m. at_new (n % rules.slots) false known (m % rules.slots))
    (λ m below last. by_rest far rules.slots n m d depth some below last)
    (λ m below last. by_rest far rules.slots n m false known some below last)
    (coded_numbers rules old new n d (λ m. depth (m % rules.slots)) (λ m. known (m % rules.slots)) codes stands)

-- ---- the store

-- the number in the slot of one of the last numbers, when one more is kept
number_kept : OneRestIsFar → (numbers : List (Option ℕ)) (slots n : ℕ) → length numbers ≡ slots → 0 < slots
    → ((m : ℕ) → m < n → n ≤ m + slots → get_or numbers (m % slots) None ≡ Some m)
    → (m : ℕ) → m < n + 1 → n + 1 ≤ m + slots → get_or (set numbers (n % slots) (Some n)) (m % slots) None ≡ Some m
number_kept far numbers slots n long some kept m below last =
    elim (cases_eq m n) [
      | inl same ↦
          subst (λ (k : ℕ). get_or (set numbers (n % slots) (Some n)) (k % slots) None ≡ Some k) (sym same)
          (get_or-set_same numbers (n % slots) (Some n) None (omega (arith, mod-lt n some, long)))
      | inr differ ↦
          get_or-set_other numbers (n % slots) (m % slots) (Some n) None (apart differ)
          ∙ kept m (omega (arith, below, differ)) (omega (arith, last))
    ]
  where
    apart : (m ≡ n → ⊥) → m % slots ≡ n % slots → ⊥
    apart differ same = let distance : m + slots ≤ n = far slots m n some same (omega (arith, below, differ)) in
        omega (arith, distance, last)

pub still_kept : OneRestIsFar → (old new : StoredPictures) (slots n : ℕ) → slots_of old ≡ slots → 0 < slots
    → ((m : ℕ) → m < n → n ≤ m + slots → IsKept old m) → new.numbers ≡ set old.numbers (slot_of old n) (Some n)
    → (m : ℕ) → m < n + 1 → n + 1 ≤ m + slots → IsKept new m
still_kept far old new slots n long some kept numbers m below last =
    let before : (k : ℕ) → k < n → n ≤ k + slots → get_or old.numbers (k % slots) None
    ≡ Some k = λ k low high. subst (λ (l : ℕ). get_or old.numbers (k % l) None ≡ Some k) long (kept k low high) in
    let is : new.numbers ≡ set old.numbers (n % slots) (Some n) = numbers
    ∙ ap (λ (l : ℕ). set old.numbers (n % l) (Some n)) long in
    let count : length (set old.numbers (n % slots) (Some n)) ≡ slots = length-set old.numbers (n % slots) (Some n)
    ∙ long in
    subst (λ (l : List (Option ℕ)). get_or l (m % length l) None ≡ Some m) (sym is)
    (subst (λ (l : ℕ). get_or (set old.numbers (n % slots) (Some n)) (m % l) None ≡ Some m) (sym count)
    (number_kept far old.numbers slots n long some before m below last))

-- ---- the reference

pub has_kept : (store : StoredPictures) (reference : Option ℕ) → IfSome reference (λ m. IsKept store m)
    → HasKept (kind_of (is_some reference)) store reference
has_kept store None kept = tt
has_kept store (Some m) kept = kept

pub same_picture : (store : StoredPictures) (slots : ℕ) (picture : ℕ → Picture) (reference : Option ℕ) → 0 < slots
    → slots_of store ≡ slots
    → ((rest : ℕ) → rest < slots → picture rest ≡ picture_in store rest) → kept_picture store reference
    ≡ option_map (λ m. picture (m % slots)) reference
same_picture store slots picture None some long same = refl
same_picture store slots picture (Some m) some long same =
    ap (λ (p : Picture). let o : Option Picture = Some p in o)
    (ap (λ (l : ℕ). picture_in store (m % l)) long ∙ sym (same (m % slots) (mod-lt m some)))
