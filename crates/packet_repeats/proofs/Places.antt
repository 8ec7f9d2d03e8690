-- The last packet at each place: where it is found, and after one more.
use Rattle.std.proofs.Common.{◌≡◌, ◌≢◌, ℕ, ◌*◌, ◌/◌, ◌%◌, ◌<◌, ◌≤◌, ◌==◌, max, All, nat_le, Bool, true, false, cond, List, [], ◌∷◌, map, length, get_or, set, Option, Some, None, Vec, Global, refl, ap, sym, subst, arith, ◌∙◌, inl, inr, get_or-set_same, get_or-set_other}
use Rattle.std.specs.List.{find}
use Rattle.std.proofs.lemmas.Bool.{cases_Bool, cases_eq, cond-true, cond-false, eq-eqb, ne_eqb, le-leb}
use Rattle.std.proofs.lemmas.List.{map-set, length-map, get_or-map}
use Rattle.packet_repeats.specs.Sent.{sequence_number_of, may_stay, may_stay_at, last_at, if_numbered}
use Rattle.packet_repeats.specs.Keeping.{bytes_or_none}

-- ---- what is found

-- what is found passes the test
pub find_passes : (p : List ℕ → Bool) (sent : List (List ℕ)) (x : List ℕ) → find p sent ≡ Some x → p x ≡ true
find_passes p [] x e = absurd cc
find_passes p (y ∷ ys) x e =
    elim (cases_Bool (p y)) [
      | inl yes_it ↦
          let same : y ≡ x = ap bytes_or_none (sym (cond-true (p y) (Some y) (find p ys) yes_it) ∙ e) in
          subst (λ (z : List ℕ). p z ≡ true) same yes_it
      | inr not_it ↦ find_passes p ys x (sym (cond-false (p y) (Some y) (find p ys) not_it) ∙ e)
    ]

-- a packet that is kept has a header
pub kept_long : (longest : ℕ) (x : List ℕ) → may_stay longest x ≡ true → nat_le 12 (length x) ≡ true
kept_long longest x e =
    elim (cases_Bool (nat_le 12 (length x))) [
      | inl long ↦ long
      | inr short ↦ absurd cc
    ]

pub kept_at : (places longest remainder : ℕ) (x : List ℕ) → may_stay_at places longest remainder x ≡ true
    → may_stay longest x ≡ true
kept_at places longest remainder x e =
    elim (cases_Bool (may_stay longest x)) [
      | inl is ↦ is
      | inr not ↦ absurd cc
    ]

abbrev numbered : ℕ → List ℕ → Bool
numbered sequence packet = cond (nat_le 12 (length packet)) (sequence_number_of packet == sequence) false

told : (sequence : ℕ) (o : Option (List ℕ)) → ((x : List ℕ) → o ≡ Some x → nat_le 12 (length x) ≡ true)
    → if_numbered sequence o ≡ cond (numbered sequence (bytes_or_none o)) (Some (bytes_or_none o)) None
told sequence None long = refl
told sequence (Some x) long = ap (λ (b : Bool). cond (cond b (sequence_number_of x == sequence) false) (Some x) None)
    (sym (long x refl))

-- what a place has is found where it has the number
pub place_told : (places longest remainder sequence : ℕ) (sent : List (List ℕ)) (packet : List ℕ)
    → packet ≡ bytes_or_none (last_at places longest remainder sent)
    → if_numbered sequence (last_at places longest remainder sent) ≡ cond (numbered sequence packet) (Some packet) None
place_told places longest remainder sequence sent packet is =
    let o = last_at places longest remainder sent in
    told sequence o
    (λ x e. kept_long longest x
    (kept_at places longest remainder x (find_passes (may_stay_at places longest remainder) sent x e)))
    ∙ ap (λ (b : List ℕ). cond (numbered sequence b) (Some b) None) (sym is)

-- ---- one more

abbrev pub bytes_of : List (Vec ℕ Global) → ℕ → List ℕ
bytes_of items i = get_or (map (λ v. v.items) items) i []

pub bytes_read : (items : List (Vec ℕ Global)) (i : ℕ) (v : Vec ℕ Global) → i < length items → v ≡ get_or items i v
    → v.items ≡ bytes_of items i
bytes_read items i v low is =
    let bytes = λ (x : Vec ℕ Global). x.items in
    ap bytes is ∙ sym (get_or-map bytes items i v [] low)

bytes_here : (items : List (Vec ℕ Global)) (i : ℕ) (v : Vec ℕ Global) → i < length items → bytes_of (set items i v) i
    ≡ v.items
bytes_here items i v low =
    let bytes = λ (x : Vec ℕ Global). x.items in
    ap (λ (xs : List (List ℕ)). get_or xs i []) (map-set bytes items i v)
    ∙ get_or-set_same (map bytes items) i v.items [] (omega (arith, length-map items bytes))

bytes_other : (items : List (Vec ℕ Global)) (i j : ℕ) (v : Vec ℕ Global) → j ≢ i → bytes_of (set items i v) j
    ≡ bytes_of items j
bytes_other items i j v other =
    let bytes = λ (x : Vec ℕ Global). x.items in
    ap (λ (xs : List (List ℕ)). get_or xs j []) (map-set bytes items i v)
    ∙ get_or-set_other (map bytes items) i j v.items [] other

-- each place has the last packet, with one more in the place of its number
pub put_each : (items : List (Vec ℕ Global)) (places longest place : ℕ) (packet : List ℕ) (sent : List (List ℕ))
    (v : Vec ℕ Global)
    → length items ≡ places → place < places → place ≡ sequence_number_of packet % places → may_stay longest packet
    ≡ true → v.items ≡ packet
    → ((i : ℕ) → i < places → bytes_of items i ≡ bytes_or_none (last_at places longest i sent))
    → (i : ℕ) → i < places → bytes_of (set items place v) i ≡ bytes_or_none (last_at places longest i (packet ∷ sent))
put_each items places longest place packet sent v count low is kept bytes each i lt =
    let rest = last_at places longest i sent in
    elim (cases_eq i place) [
      | inl same ↦
          let at : may_stay_at places longest i packet ≡ true =
          cond-true (may_stay longest packet) (sequence_number_of packet % places == i) false kept
          ∙ eq-eqb (sequence_number_of packet % places) i (sym is ∙ sym same) in
          ap (bytes_of (set items place v)) same ∙ bytes_here items place v (omega (arith, count)) ∙ bytes
          ∙ sym (ap bytes_or_none (cond-true (may_stay_at places longest i packet) (Some packet) rest at))
      | inr other ↦
          let at : may_stay_at places longest i packet ≡ false =
          cond-true (may_stay longest packet) (sequence_number_of packet % places == i) false kept
          ∙ ne_eqb (sequence_number_of packet % places) i (λ e. other (sym e ∙ sym is)) in
          bytes_other items place i v other ∙ each i lt
          ∙ sym (ap bytes_or_none (cond-false (may_stay_at places longest i packet) (Some packet) rest at))
    ]

pub kept_is : (longest : ℕ) (packet : List ℕ) → 12 ≤ length packet → length packet ≤ longest → may_stay longest packet
    ≡ true
kept_is longest packet long short =
    cond-true (nat_le 12 (length packet)) (nat_le (length packet) longest) false (le-leb 12 (length packet) long)
    ∙ le-leb (length packet) longest short

-- ---- the start

none_of : (items : List (Vec ℕ Global)) (i : ℕ) → i < length items → All (λ place. place.items ≡ []) items
    → bytes_of items i ≡ []
none_of [] i lt empty = refl
none_of (v ∷ vs) i lt empty =
    let bytes = λ (x : Vec ℕ Global). x.items in
    get_or-map bytes (v ∷ vs) i v [] lt ∙ empty i v lt

pub none_each : (items : List (Vec ℕ Global)) (places longest : ℕ) → length items ≡ places
    → All (λ place. place.items ≡ []) items
    → (i : ℕ) → i < places → bytes_of items i ≡ bytes_or_none (last_at places longest i [])
none_each items places longest count empty i lt =
    none_of items i (omega (arith, count, lt)) empty

pub fewer : (count places : ℕ) → 1 ≤ count → places / 2 < max 1 count → places < 2 * count
fewer count places some half = omega (arith, some, half)
