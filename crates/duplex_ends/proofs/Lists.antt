-- Messages in places, and by their numbers.
use Rattle.std.proofs.Common.{◌≡◌, ℕ, zero, suc, ◌+◌, ◌-◌, ◌<◌, ◌≤◌, List, [], ◌∷◌, ◌++◌, length, Option, Some, refl, sym, ap, subst, ◌∙◌, arith}
use Rattle.std.specs.Prelude.{drop, map, max, slice_get, slice_index_or}
use Rattle.std.specs.Option.{option_map, option_map_or}
use Rattle.std.specs.List.{range_with_len}
use Rattle.std.proofs.lemmas.List.{drop-drop, drop_all}
use Rattle.back_messages.specs.declared.message.Message.{Message}
use Rattle.call_model.specs.Coding as call
use Rattle.duplex_call.specs.declared.queue.Carried.{Carried}
use Rattle.duplex_call.specs.Duplex.{messages_at, numbers_carried}
use Rattle.duplex_call.specs.Waiting.{last_four, in_four_places}
use Rattle.duplex_ends.specs.Bringing.{carried_in, carried_message}
use Rattle.duplex_ends.specs.Headers.{AreNumbered}

-- ---- lists

-- what stands at a place of the first list stands there in both together
pub get_left : {X : Type 0} (xs ys : List X) (k : ℕ) (x : X) → slice_get xs k ≡ Some x → slice_get (xs ++ ys) k ≡ Some x
get_left [] ys k x is = absurd (cc is)
get_left (a ∷ xs) ys zero x is = is
get_left (a ∷ xs) ys (suc k) x is = get_left xs ys k x is

pub get_map : {X Y : Type 0} (f : X → Y) (xs : List X) (k : ℕ) (x : X) → slice_get xs k ≡ Some x
    → slice_get (map f xs) k ≡ Some (f x)
get_map f [] k x is = absurd (cc is)
get_map f (a ∷ xs) zero x is = ap (option_map f) is
get_map f (a ∷ xs) (suc k) x is = get_map f xs k x is

pub map_get : {X Y : Type 0} (f : X → Y) (xs : List X) (k : ℕ) (y : Y) → slice_get (map f xs) k ≡ Some y
    → (x : X) × (slice_get xs k ≡ Some x) × (Some (f x) ≡ Some y)
map_get f [] k y is = absurd (cc is)
map_get f (a ∷ xs) zero y is = (a, refl, is)
map_get f (a ∷ xs) (suc k) y is = map_get f xs k y is

pub map_more : {X Y : Type 0} (f : X → Y) (xs ys : List X) → map f (xs ++ ys) ≡ map f xs ++ map f ys
map_more f [] ys = refl
map_more f (x ∷ xs) ys = ap (λ l. f x ∷ l) (map_more f xs ys)

pub map_long : {X Y : Type 0} (f : X → Y) (xs : List X) → length (map f xs) ≡ length xs
map_long f [] = refl
map_long f (x ∷ xs) = ap (λ n. suc n) (map_long f xs)

pub drop_left : {X : Type 0} (k : ℕ) (xs ys : List X) → k ≤ length xs → drop k (xs ++ ys) ≡ drop k xs ++ ys
drop_left zero xs ys few = refl
drop_left (suc k) [] ys few = absurd (omega (arith, few))
drop_left (suc k) (x ∷ xs) ys few = drop_left k xs ys (omega (arith, few))

-- the same before both
pub after_same : {X : Type 0} (xs ys zs : List X) → xs ++ ys ≡ xs ++ zs → ys ≡ zs
after_same [] ys zs is = is
after_same (x ∷ xs) ys zs is = after_same xs ys zs (cc is)

pub at_last : {X : Type 0} (xs : List X) (x d : X) → slice_index_or (xs ++ x ∷ []) (length xs) d ≡ x
at_last [] x d = refl
at_last (a ∷ xs) x d = at_last xs x d

pub at_left : {X : Type 0} (xs : List X) (x d : X) (n : ℕ) → n < length xs → slice_index_or (xs ++ x ∷ []) n d
    ≡ slice_index_or xs n d
at_left [] x d n few = absurd (omega (arith, few))
at_left (a ∷ xs) x d zero few = refl
at_left (a ∷ xs) x d (suc n) few = at_left xs x d n (omega (arith, few))

pub at_past : {X : Type 0} (xs : List X) (x d : X) (n : ℕ) → length xs < n → slice_index_or (xs ++ x ∷ []) n d ≡ d
at_past [] x d zero many = absurd (omega (arith, many))
at_past [] x d (suc n) many = refl
at_past (a ∷ xs) x d zero many = absurd (omega (arith, many))
at_past (a ∷ xs) x d (suc n) many = at_past xs x d n (omega (arith, many))

pub get_last : {X : Type 0} (xs : List X) (x : X) → slice_get (xs ++ x ∷ []) (length xs) ≡ Some x
get_last [] x = refl
get_last (a ∷ xs) x = get_last xs x

-- ---- messages in places

pub last_few : {X : Type 0} (xs : List X) → length (last_four xs) ≤ 4
last_few xs = omega (arith, long xs (length xs - 4))
  where
    long : {X : Type 0} (xs : List X) (k : ℕ) → length (drop k xs) + k ≡ max (length xs) k
    long xs zero = omega arith
    long [] (suc k) = omega arith
    long (x ∷ xs) (suc k) = omega (arith, long xs k)

pub carried_placed : (messages : List Carried) → length messages ≤ 4 → carried_in (in_four_places messages) ≡ messages
carried_placed [] few = refl
carried_placed (a ∷ []) few = refl
carried_placed (a ∷ b ∷ []) few = refl
carried_placed (a ∷ b ∷ c ∷ []) few = refl
carried_placed (a ∷ b ∷ c ∷ d ∷ []) few = refl
carried_placed (a ∷ b ∷ c ∷ d ∷ e ∷ more) few = absurd (omega (arith, few))

-- ---- messages by their numbers

-- more that is said changes no number
pub numbered_still : (said more : List Carried) (ks : List ℕ) (messages : List Carried) → AreNumbered said ks messages
    → AreNumbered (said ++ more) ks messages
numbered_still said more [] [] are = are
numbered_still said more (k ∷ ks) (m ∷ messages) are = (
  get_left said more k m are.0,
  numbered_still said more ks messages are.1,
)
numbered_still said more [] (m ∷ messages) are = absurd are
numbered_still said more (k ∷ ks) [] are = absurd are

-- what stands first after some
first_is : (said : List Carried) (first : ℕ) → first < length said → (m : Carried) × (slice_get said first ≡ Some m)
    × (drop first said ≡ m ∷ drop (first + 1) said)
first_is [] first few = absurd (omega (arith, few))
first_is (m ∷ said) zero few = (m, refl, refl)
first_is (m ∷ said) (suc first) few =
    let r = first_is said first (omega (arith, few)) in
    (r.0, r.1, r.2 ∙ ap (λ (k : ℕ). r.0 ∷ drop k (m ∷ said)) (suc_more first))
  where
    suc_more : (k : ℕ) → suc (k + 1) ≡ suc k + 1
    suc_more k = omega arith

-- so many numbers up to the last
to_end : (said : List Carried) (first count : ℕ) → first + count ≡ length said
    → AreNumbered said (range_with_len first count) (drop first said)
to_end said first zero is = subst (λ (l : List Carried). AreNumbered said [] l)
    (sym (drop_all first said (omega (arith, is)))) tt
to_end said first (suc count) is = by_first (first_is said first (omega (arith, is)))
    (to_end said (first + 1) count (omega (arith, is)))
  where
    by_first : (m : Carried) × (slice_get said first ≡ Some m) × (drop first said ≡ m ∷ drop (first + 1) said)
        → AreNumbered said (range_with_len (first + 1) count) (drop (first + 1) said)
        → AreNumbered said (first ∷ range_with_len (first + 1) count) (drop first said)
    by_first x rest = subst (λ (l : List Carried). AreNumbered said (first ∷ range_with_len (first + 1) count) l)
        (sym x.2) (x.1, rest)

-- the last four of what was said since the load have their numbers
pub last_numbered : (said : List Carried) (loaded : ℕ) → loaded ≤ length said
    → AreNumbered said (numbers_carried loaded (length said)) (last_four (drop loaded said))
last_numbered said loaded few =
    let first = max loaded (length said - 4) in
    let rest : length (drop loaded said) ≡ length said - loaded = long said loaded in
    let same : drop first said ≡ last_four (drop loaded said) =
    ap (λ (k : ℕ). drop k said) (place (length said) few) ∙ sym (drop-drop (length said - loaded - 4) loaded said)
    ∙ ap (λ (k : ℕ). drop (k - 4) (drop loaded said)) (sym rest)
    in
    subst (λ (l : List Carried). AreNumbered said (numbers_carried loaded (length said)) l) same
    (to_end said first (length said - first) (omega (arith, few)))
  where
    place : (n : ℕ) → loaded ≤ n → max loaded (n - 4) ≡ loaded + (n - loaded - 4)
    place n few = omega (arith, few)

    long : (xs : List Carried) (k : ℕ) → length (drop k xs) ≡ length xs - k
    long xs zero = omega arith
    long [] (suc k) = omega arith
    long (x ∷ xs) (suc k) = omega (arith, long xs k)

-- messages by their numbers, as a header carries them
pub messages_are : {X : Type 0} (as_call : X → call.Message) (as_back : call.Message → Message) (as_carried : X
    → Carried)
    → ((x : X) → carried_message (as_carried x) ≡ as_back (as_call x))
    → (notes : List X) (ks : List ℕ) (messages : List Carried) → AreNumbered (map as_carried notes) ks messages
    → map as_back (messages_at (map as_call notes) ks) ≡ map carried_message messages
messages_are as_call as_back as_carried same notes [] [] are = refl
messages_are as_call as_back as_carried same notes (k ∷ ks) (m ∷ messages) are =
    let at = map_get as_carried notes k m are.0 in
    let here : slice_get (map as_call notes) k ≡ Some (as_call at.0) = get_map as_call notes k at.0 at.1 in
    let is : as_carried at.0 ≡ m = cc at.2 in
    ap (λ (o : Option call.Message). map as_back (option_map_or (λ message. message ∷ []) o []
    ++ messages_at (map as_call notes) ks)) here
    ∙ ap (λ (n : Message). n ∷ map as_back (messages_at (map as_call notes) ks)) (sym (same at.0)
    ∙ ap carried_message is)
    ∙ ap (λ (l : List Message). carried_message m ∷ l) (messages_are as_call as_back as_carried same notes ks messages
    are.1)
messages_are as_call as_back as_carried same notes [] (m ∷ messages) are = absurd are
messages_are as_call as_back as_carried same notes (k ∷ ks) [] are = absurd are
