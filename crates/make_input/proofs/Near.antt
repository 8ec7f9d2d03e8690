-- Each event of a made trace is in place and near.
use Rattle.std.proofs.Common.{◌≡◌, ◌∙◌, ◌<◌, ◌≤◌, ◌+◌, ◌-◌, ◌⊎◌, inl, inr, ℕ, zero, suc, Bool, true, false, not, ◌&&◌, List, [], ◌∷◌, ◌++◌, map, length, Option, Some, refl, ap, sym, subst, arith, append_assoc, length-append}
use Rattle.std.specs.Prelude.{◌==◌, if◌then◌else◌, nat_lt, slice_get}
use Rattle.std.specs.List.{range_with_len}
use Rattle.std.specs.Option.{option_map, option_map_or}
use Rattle.std.proofs.lemmas.Bool.{cases_lt, ne_eqb}
use Rattle.std.proofs.lemmas.List.{append-nil}
use Rattle.call_model.specs.Coding.{Coding, Pictures, Rules, pictures_of}
use Rattle.call_model.specs.Lawful.{IsPace, IsRules}
use Rattle.call_model.specs.Sending.{next_coded}
use Rattle.call_model.specs.Sound.{EncoderIsSound}
use Rattle.call_model.specs.CodedPictures.{Coded}
use Rattle.call_model.specs.IdealCall.{AllMayHappen, AllMayHappenFrom, Arrival, Call, Event, NumberedMessage, Source, Send, Deliver, Play, Back, Got, Lost, about, after, call_from, delivery_counts, encoded, full_flags, has_arrived, is_full, is_open, newest_full, shown_at, slices_at, with_arrival}
use Rattle.call_model.specs.Numbers.{AllBelowIs, all_below}
use Rattle.loss_trace.specs.declared.event.Event.{Event as Line}
use Rattle.loss_trace.specs.declared.event.Event.TheVariants as line
use Rattle.make_input.specs.Expanded.{SendsSlices, expanded, expanded_events, events_onto}
use Rattle.make_input.specs.Trace.{after_plays, deliveries, draw, frame_lines, frames_from, last_play, made_trace, messages, next_state, plays}

-- ---- how many of a row pass a test

abbrev bit : Bool → ℕ
bit true = 1
bit false = 0

-- of the k numbers from p on
abbrev tally : (ℕ → Bool) → ℕ → ℕ → ℕ
tally f p zero = 0
tally f p (suc k) = bit (f p) + tally f (suc p) k

bit_small : (b : Bool) → bit b ≤ 1
bit_small true = omega arith
bit_small false = omega arith

tally_small : (f : ℕ → Bool) (p k : ℕ) → tally f p k ≤ k
tally_small f p zero = omega arith
tally_small f p (suc k) = omega (arith, bit_small (f p), tally_small f (suc p) k)

tally_same : (f g : ℕ → Bool) (p k : ℕ) → ((m : ℕ) → p ≤ m → m < p + k → f m ≡ g m) → tally f p k ≡ tally g p k
tally_same f g p zero h = refl
tally_same f g p (suc k) h =
    let here : f p ≡ g p = h p (omega arith) (omega arith) in
    rw (here, tally_same f g (suc p) k (λ m le lt. h m (omega arith) (omega arith))) refl

tally_last : (f : ℕ → Bool) (p k : ℕ) → tally f p (suc k) ≡ tally f p k + bit (f (p + k))
tally_last f p zero =
    let same : p + 0 ≡ p = omega arith in
    rw same (omega arith)
tally_last f p (suc k) =
    let rest = tally_last f (suc p) k in
    let same : suc p + k ≡ p + suc k = omega arith in
    let moved : tally f (suc p) (suc k) ≡ tally f (suc p) k + bit (f (p + suc k)) =
    subst (λ (m : ℕ). tally f (suc p) (suc k) ≡ tally f (suc p) k + bit (f m)) same rest in
    omega (arith, moved)

and_false : (b : Bool) → (b && false) ≡ false
and_false true = refl
and_false false = refl

both : (a b : Bool) → (a && b) ≡ true → (a ≡ true) × (b ≡ true)
both true true e = (refl, refl)
both true false e = cc
both false b e = cc

below_same : (b : ℕ) (f g : ℕ → Bool) → ((k : ℕ) → f k ≡ g k) → all_below b f ≡ all_below b g
below_same zero f g h = refl
below_same (suc b) f g h = rw (h b, below_same b f g h) refl

-- an element of a list by its place
some_at : {X : Type 0} (xs : List X) (i : ℕ) → i < length xs → (x : X) × (slice_get xs i ≡ Some x)
some_at [] i lt = absurd (omega arith)
some_at (x ∷ xs) zero lt = (x, refl)
some_at (x ∷ xs) (suc i) lt = some_at xs i (omega arith)

at_front : {X : Type 0} (xs : List X) (y : X) (i : ℕ) → i < length xs → slice_get (xs ++ y ∷ []) i ≡ slice_get xs i
at_front [] y i lt = absurd (omega arith)
at_front (x ∷ xs) y zero lt = refl
at_front (x ∷ xs) y (suc i) lt = at_front xs y i (omega arith)

at_last : {X : Type 0} (xs : List X) (y : X) → slice_get (xs ++ y ∷ []) (length xs) ≡ Some y
at_last [] y = refl
at_last (x ∷ xs) y = at_last xs y

past_last : {X : Type 0} (xs : List X) (y z : X) (i : ℕ) → slice_get (xs ++ y ∷ []) i ≡ Some z → length xs < i → ⊥
past_last [] y z zero h lt = omega arith
past_last [] y z (suc i) h lt = cc
past_last (x ∷ xs) y z zero h lt = omega arith
past_last (x ∷ xs) y z (suc i) h lt = past_last xs y z i h (omega arith)

-- ---- fullness, from one event to the next

arrived_more : (arrivals : List Arrival) (n j m k : ℕ) → (n ≡ m → ⊥) → has_arrived (with_arrival arrivals n j) m k
    ≡ has_arrived arrivals m k
arrived_more arrivals n j m k apart =
    let no : (n == m) ≡ false = ne_eqb n m apart in
    rw no refl

module _ {Style Mb Picture : Type 0} where
  -- picture n of a call is full
  abbrev full : Call Style Mb Picture → ℕ → Bool
  full c n = is_full c.coded c.arrivals n

  -- another picture's arrival leaves it as it was
  full_other : (coded : List (Coded Style Mb Picture)) (arrivals : List Arrival) (n j m : ℕ) → (n ≡ m → ⊥)
      → is_full coded (with_arrival arrivals n j) m ≡ is_full coded arrivals m
  unfolding is_full
  full_other coded arrivals n j m apart =
      ap (λ (b : Bool). nat_lt m (length coded) && b)
      (below_same (length (slices_at coded m)) (has_arrived (with_arrival arrivals n j) m) (has_arrived arrivals m)
      (λ k. arrived_more arrivals n j m k apart))

  -- no delivery to a full picture counts
  not_again : AllBelowIs → (rules : Rules) (c : Call Style Mb Picture) (n j : ℕ) → full c n ≡ true
      → delivery_counts rules c n j ≡ false
  unfolding is_full delivery_counts
  not_again below rules c n j h = go (nat_lt j (length (slices_at c.coded n))) refl
    where
      all : (k : ℕ) → k < length (slices_at c.coded n) → has_arrived c.arrivals n k ≡ true
      all = (below (length (slices_at c.coded n)) (has_arrived c.arrivals n)).0
          (both (nat_lt n (length c.coded)) (all_below (length (slices_at c.coded n)) (has_arrived c.arrivals n)) h).1

      go : (t : Bool) → nat_lt j (length (slices_at c.coded n)) ≡ t
          → (is_open rules c.played n && (nat_lt j (length (slices_at c.coded n)) && not (has_arrived c.arrivals n j)))
          ≡ false
      go true e =
          let there : has_arrived c.arrivals n j ≡ true = all j (grind (arith, e)) in
          rw (there, e) (and_false (is_open rules c.played n))
      go false e = rw e (and_false (is_open rules c.played n))

  -- what a send leaves of the pictures before
  slices_front : (coded : List (Coded Style Mb Picture)) (x : Coded Style Mb Picture) (m : ℕ) → m < length coded
      → slices_at (coded ++ x ∷ []) m ≡ slices_at coded m
  unfolding slices_at
  slices_front coded x m lt = rw (at_front coded x m lt) refl

  slices_last : (coded : List (Coded Style Mb Picture)) (x : Coded Style Mb Picture)
      → slices_at (coded ++ x ∷ []) (length coded) ≡ x.slices
  unfolding slices_at
  slices_last coded x = rw (at_last coded x) refl

  full_front : (coded : List (Coded Style Mb Picture)) (x : Coded Style Mb Picture) (arrivals : List Arrival) (m : ℕ)
      → m < length coded
      → is_full (coded ++ x ∷ []) arrivals m ≡ is_full coded arrivals m
  unfolding is_full
  full_front coded x arrivals m lt =
      let one : length (coded ++ x ∷ []) ≡ length coded + 1 = simp length-append in
      let yes : nat_lt m (length coded) ≡ true = grind (arith, lt) in
      let still : nat_lt m (length (coded ++ x ∷ [])) ≡ true = rw one (grind (arith, lt)) in
      rw (still, yes, slices_front coded x m lt) refl

  -- a picture with a slice is not full as it is sent
  full_last : AllBelowIs → (coded : List (Coded Style Mb Picture)) (x : Coded Style Mb Picture)
      (arrivals : List Arrival) → 0 < length x.slices → has_arrived arrivals (length coded) 0 ≡ false
      → is_full (coded ++ x ∷ []) arrivals (length coded) ≡ false
  unfolding is_full
  full_last below coded x arrivals some none = go (is_full (coded ++ x ∷ []) arrivals (length coded)) refl
    where
      go : (t : Bool) → is_full (coded ++ x ∷ []) arrivals (length coded) ≡ t
          → is_full (coded ++ x ∷ []) arrivals (length coded) ≡ false
      go false e = e
      go true e =
          let parts = both (nat_lt (length coded) (length (coded ++ x ∷ [])))
          (all_below (length (slices_at (coded ++ x ∷ []) (length coded))) (has_arrived arrivals (length coded))) e
          in
          let first : has_arrived arrivals (length coded) 0
          ≡ true = (below (length (slices_at (coded ++ x ∷ []) (length coded)))
          (has_arrived arrivals (length coded))).0 parts.1 0 (rw (slices_last coded x) some) in
          let bad : false ≡ true = sym none ∙ first in
          cc

-- lines that deliver packets of picture n
data Delivers (n : ℕ) : List Line → Type 0 where
  none : Delivers n []
  one : (i : ℕ) (lines : List Line) → Delivers n lines → Delivers n (line.Packet n i ∷ lines)
  all : (lines : List Line) → Delivers n lines → Delivers n (line.All n ∷ lines)

deliveries_by : (n : ℕ) (a b c d : Bool)
    → Delivers n (if a then [] else (if b then line.All n ∷ line.All n ∷ []
    else (if c then line.Packet n 1 ∷ line.Packet n 0 ∷ [] else (if d then line.Packet n 0 ∷ [] else line.All n ∷ []))))
deliveries_by n true b c d = none
deliveries_by n false true c d = all _ (all _ none)
deliveries_by n false false true d = one 1 _ (one 0 _ none)
deliveries_by n false false false true = one 0 _ none
deliveries_by n false false false false = all _ none

deliveries_deliver : (n u : ℕ) → Delivers n (deliveries n u)
deliveries_deliver n u = deliveries_by n (u == 0) (u == 1) (u == 2) (u == 3)

-- ---- what holds between two lines

-- messages are about pictures that lie no more than one before their own place
abbrev AboutNear : List NumberedMessage → Type 0
AboutNear said = (i : ℕ) (note : NumberedMessage) → slice_get said i ≡ Some note → i ≤ about note + 1

near_more : (said : List NumberedMessage) (note : NumberedMessage) → AboutNear said → length said ≤ about note + 1
    → AboutNear (said ++ note ∷ [])
near_more said note near small i other at = go (cases_lt i (length said))
  where
    go : (i < length said) ⊎ (length said ≤ i) → i ≤ about other + 1
    go (inl lt) = near i other (sym (at_front said note i lt) ∙ at)
    go (inr le) = elim (cases_lt (length said) i) [
      | inl lt ↦ absurd (past_last said note other i at lt)
      | inr same ↦
          let is : i ≡ length said = omega arith in
          let found : Some note ≡ Some other = sym (at_last said note) ∙ (rw is at at) in
          let one : note ≡ other = cc in
          subst (λ (n : NumberedMessage). i ≤ about n + 1) one (omega arith)
    ]

module _ {Style Mb Picture : Type 0} where
  -- the pictures from p on are sent and not played, k of them, and each picture before has said one message
  pub record Standing (c : Call Style Mb Picture) (p k : ℕ) : Type 0 where
    pub coded : length c.coded ≡ p + k
    pub played : c.played ≡ p
    pub said : length c.said ≡ p + tally (full c) p k
    pub near : AboutNear c.said
    pub fresh : (m j : ℕ) → p + k ≤ m → has_arrived c.arrivals m j ≡ false

module _ {Style Mb Picture : Type 0} (pictures : Pictures Style Mb Picture) (rules : Rules)
    (source : Source Style Mb Picture) where
  sent : AllBelowIs → (c : Call Style Mb Picture) (p k : ℕ) (x : Coded Style Mb Picture) → Standing c p k
      → source c ≡ Some x → 0 < length x.slices → Standing (after pictures rules source c Send) p (suc k)
  sent below c p k x s is some =
      let next : Call Style Mb Picture = record c { coded = c.coded ++ x ∷ [] } in
      let same : after pictures rules source c Send
      ≡ next = ap (λ (o : Option (Coded Style Mb Picture)). let d : Call Style Mb Picture =
      record c { coded = c.coded ++ option_map_or (λ y. y ∷ []) o [] } in d) is in
      let one : length (c.coded ++ x ∷ []) ≡ length c.coded + 1 = simp length-append in
      let here : length c.coded ≡ p + k = s.coded in
      let last : full next (p + k) ≡ false = subst (λ (m : ℕ). is_full (c.coded ++ x ∷ []) c.arrivals m ≡ false) here
      (full_last below c.coded x c.arrivals some (s.fresh (length c.coded) 0 (omega arith))) in
      let before : tally (full next) p k ≡ tally (full c) p k = tally_same (full next) (full c) p k
      (λ m le lt. full_front c.coded x c.arrivals m (omega arith)) in
      let count : tally (full next) p (suc k) ≡ tally (full c) p k = tally_last (full next) p k
      ∙ rw (last, before) (omega arith) in
      subst (λ (d : Call Style Mb Picture). Standing d p (suc k)) (sym same) (record {
        coded = omega arith;
        played = s.played;
        said = rw count s.said;
        near = s.near;
        fresh = λ m j le. s.fresh m j (omega arith);
      })

  delivered : AllBelowIs → (c : Call Style Mb Picture) (p k n j : ℕ) → n ≡ p + k → k ≤ 1 → Standing c p (suc k)
      → Standing (after pictures rules source c (Deliver n j)) p (suc k)
  delivered below c p k n j at small s = go (delivery_counts rules c n j) refl
      (is_full c.coded (with_arrival c.arrivals n j) n) refl
    where
      call_by : Bool → Bool → Call Style Mb Picture
      call_by t b = record c {
        arrivals = if t then with_arrival c.arrivals n j else c.arrivals;
        said = c.said ++ (if t && b then Got n (full_flags rules c.coded (with_arrival c.arrivals n j) n) ∷ [] else []);
      }

      same : (t b : Bool) → delivery_counts rules c n j ≡ t → is_full c.coded (with_arrival c.arrivals n j) n ≡ b
          → after pictures rules source c (Deliver n j) ≡ call_by t b
      same t b d f = ap (λ (x : Bool). call_by x (is_full c.coded (with_arrival c.arrivals n j) n)) d ∙ ap (call_by t) f

      not_full : delivery_counts rules c n j ≡ true → full c n ≡ false
      not_full d = which (full c n) refl
        where
          which : (t : Bool) → full c n ≡ t → full c n ≡ false
          which false e = e
          which true e =
              let bad : true ≡ false = sym d ∙ not_again below rules c n j e in
              cc

      more : List Arrival
      more = with_arrival c.arrivals n j

      -- the others are as full as before
      others : (m : ℕ) → (n ≡ m → ⊥) → is_full c.coded more m ≡ full c m
      others m apart = full_other c.coded c.arrivals n j m apart

      fresh : (m i : ℕ) → p + suc k ≤ m → has_arrived more m i ≡ false
      fresh m i le = arrived_more c.arrivals n j m i (λ e. omega arith) ∙ s.fresh m i le

      before : tally (is_full c.coded more) p k ≡ tally (full c) p k
      before = tally_same (is_full c.coded more) (full c) p k (λ m le lt. others m (λ e. omega arith))

      go : (t : Bool) → delivery_counts rules c n j ≡ t → (b : Bool) → is_full c.coded (with_arrival c.arrivals n j) n
          ≡ b → Standing (after pictures rules source c (Deliver n j)) p (suc k)
      go false d b f =
          subst (λ (x : Call Style Mb Picture). Standing x p (suc k))
          (sym (same false b d f ∙ ap (λ (l : List NumberedMessage). let x : Call Style Mb Picture =
          record c { said = l } in x) (append-nil c.said))) s
      go true d false f =
          let next : Call Style Mb Picture = record c { arrivals = more } in
          let here : is_full c.coded more (p + k) ≡ false = subst (λ (m : ℕ). is_full c.coded more m ≡ false) at f in
          let was : full c (p + k) ≡ false = subst (λ (m : ℕ). full c m ≡ false) at (not_full d) in
          let count : tally (is_full c.coded more) p (suc k) ≡ tally (full c) p (suc k) =
          tally_last (is_full c.coded more) p k ∙ rw (here, before) (sym (tally_last (full c) p k ∙ rw was refl)) in
          subst (λ (x : Call Style Mb Picture). Standing x p (suc k))
          (sym (same true false d f
          ∙ ap (λ (l : List NumberedMessage). let x : Call Style Mb Picture = record next { said = l } in
          x) (append-nil c.said)))
          (record { coded = s.coded; played = s.played; said = rw count s.said; near = s.near; fresh = fresh })
      go true d true f =
          let note = Got n (full_flags rules c.coded more n) in
          let here : is_full c.coded more (p + k) ≡ true = subst (λ (m : ℕ). is_full c.coded more m ≡ true) at f in
          let was : full c (p + k) ≡ false = subst (λ (m : ℕ). full c m ≡ false) at (not_full d) in
          let count : tally (is_full c.coded more) p (suc k) ≡ tally (full c) p k + 1 =
          tally_last (is_full c.coded more) p k ∙ rw (here, before) refl in
          let count_before : tally (full c) p (suc k) ≡ tally (full c) p k + 0 = tally_last (full c) p k
          ∙ rw was refl in
          let said : length c.said ≡ p + tally (full c) p (suc k) = s.said in
          let one : length (c.said ++ note ∷ []) ≡ length c.said + 1 = simp length-append in
          subst (λ (x : Call Style Mb Picture). Standing x p (suc k)) (sym (same true true d f)) (record {
            coded = s.coded;
            played = s.played;
            said = omega (arith, one, count, count_before);
            near = near_more c.said note s.near (omega (arith, count_before, tally_small (full c) p k));
            fresh = fresh;
          })

  played_on : (c : Call Style Mb Picture) (p k : ℕ) → k ≤ 1 → Standing c p (suc k)
      → Standing (after pictures rules source c Play) (suc p) k
  played_on c p k small s = go (full c p) refl
    where
      note : NumberedMessage
      note = Lost c.played (newest_full rules c.coded c.arrivals c.played)
          (full_flags rules c.coded c.arrivals c.played)

      call_by : Bool → Call Style Mb Picture
      call_by t = record c {
        played = c.played + 1;
        plays = shown_at pictures c.coded c.arrivals c.plays c.played ∷ c.plays;
        said = c.said ++ (if t then [] else note ∷ []);
      }

      same : (t : Bool) → full c p ≡ t → after pictures rules source c Play ≡ call_by t
      same t e = ap call_by (ap (is_full c.coded c.arrivals) s.played ∙ e)

      go : (t : Bool) → full c p ≡ t → Standing (after pictures rules source c Play) (suc p) k
      go true e =
          let said : length c.said ≡ p + (bit (full c p) + tally (full c) (suc p) k) = s.said in
          let all : length (c.said ++ []) ≡ length c.said = ap length (append-nil c.said) in
          let counted : length c.said ≡ p + (1 + tally (full c) (suc p) k) = rw e at said in
          let coded : length c.coded ≡ p + suc k = s.coded in
          let played : c.played ≡ p = s.played in
          subst (λ (x : Call Style Mb Picture). Standing x (suc p) k) (sym (same true e)) (record {
            coded = omega arith;
            played = omega arith;
            said = omega (arith, all, counted);
            near = rw append-nil s.near;
            fresh = λ m j le. s.fresh m j (omega arith);
          })
      go false e =
          let said : length c.said ≡ p + (bit (full c p) + tally (full c) (suc p) k) = s.said in
          let one : length (c.said ++ note ∷ []) ≡ length c.said + 1 = simp length-append in
          let counted : length c.said ≡ p + (0 + tally (full c) (suc p) k) = rw e at said in
          let coded : length c.coded ≡ p + suc k = s.coded in
          let played : c.played ≡ p = s.played in
          subst (λ (x : Call Style Mb Picture). Standing x (suc p) k) (sym (same false e)) (record {
            coded = omega arith;
            played = omega arith;
            said = omega (arith, one, counted);
            near = near_more c.said note s.near (omega (arith, counted, tally_small (full c) (suc p) k));
            fresh = λ m j le. s.fresh m j (omega arith);
          })

  brought_back : (c : Call Style Mb Picture) (p k j : ℕ) → Standing c p k
      → Standing (after pictures rules source c (Back j)) p k
  brought_back c p k j s = record { coded = s.coded; played = s.played; said = s.said; near = s.near; fresh = s.fresh }

  -- ---- the events of a trace, each near

  abbrev call_at : List Event → Call Style Mb Picture
  call_at past = call_from pictures rules source past

  record Good (frames : ℕ) (past : List Event) (p k : ℕ) : Type 0 where
    near : AllMayHappenFrom pictures rules source frames past
    stands : Standing (call_at past) p k

  send_good : AllBelowIs → (frames : ℕ) → SendsSlices pictures rules source frames → 4 ≤ rules.half
      → (past : List Event) (p k : ℕ) → k ≤ 1 → p + k < frames → Good frames past p k
      → Good frames (Send ∷ past) p (suc k)
  send_good below frames sends half past p k small left g =
      let coded : length (call_at past).coded ≡ p + k = g.stands.coded in
      let played : (call_at past).played ≡ p = g.stands.played in
      let x = sends past (omega arith) in
      record {
        near = ((omega arith, omega arith), g.near);
        stands = sent below (call_at past) p k x.0 g.stands x.1 x.2;
      }

  deliver_good : AllBelowIs → (frames : ℕ) → 4 ≤ rules.half → (past : List Event) (p k n j : ℕ) → n ≡ p + k → k ≤ 1
      → Good frames past p (suc k) → Good frames (Deliver n j ∷ past) p (suc k)
  deliver_good below frames half past p k n j at small g =
      let coded : length (call_at past).coded ≡ p + suc k = g.stands.coded in
      let played : (call_at past).played ≡ p = g.stands.played in
      record {
        near = ((omega arith, omega arith), g.near);
        stands = delivered below (call_at past) p k n j at small g.stands;
      }

  deliver_all : AllBelowIs → (frames : ℕ) → 4 ≤ rules.half → (js : List ℕ) (past : List Event) (p k n : ℕ) → n ≡ p + k
      → k ≤ 1 → Good frames past p (suc k) → Good frames (events_onto (map (Deliver n) js) past) p (suc k)
  deliver_all below frames half [] past p k n at small g = g
  deliver_all below frames half (j ∷ js) past p k n at small g = deliver_all below frames half js
      (Deliver n j ∷ past) p k n at small (deliver_good below frames half past p k n j at small g)

  play_good : (frames : ℕ) (past : List Event) (p k : ℕ) → k ≤ 1 → Good frames past p (suc k)
      → Good frames (Play ∷ past) (suc p) k
  play_good frames past p k small g =
      let coded : length (call_at past).coded ≡ p + suc k = g.stands.coded in
      let played : (call_at past).played ≡ p = g.stands.played in
      record {
        near = (omega arith, g.near);
        stands = played_on (call_at past) p k small g.stands;
      }

  back_good : (frames : ℕ) → 4 ≤ rules.half → (past : List Event) (p : ℕ) → Good frames past (suc p) 1
      → Good frames (Back p ∷ past) (suc p) 1
  back_good frames half past p g =
      let coded : length (call_at past).coded ≡ suc p + 1 = g.stands.coded in
      let said : length (call_at past).said ≡ suc p + tally (full (call_at past)) (suc p) 1 = g.stands.said in
      let note = some_at (call_at past).said p (omega arith) in
      let close : p ≤ about note.0 + 1 = g.stands.near p note.0 note.1 in
      record {
        near = ((note.0, note.1, omega arith), g.near);
        stands = brought_back (call_at past) (suc p) 1 p g.stands;
      }

  -- ---- the lines

  -- before frame n: the picture before it is sent and not played
  abbrev Before : ℕ → List Event → ℕ → Type 0
  Before frames past zero = Good frames past 0 0
  Before frames past (suc m) = Good frames past m 1

  -- the events of all lines are near, whatever stands before the rest
  abbrev Ends : ℕ → List Event → List Line → Type 0
  Ends frames past lines = AllMayHappenFrom pictures rules source frames (expanded pictures rules source past lines)

  line_ends : (frames : ℕ) (past : List Event) (l : Line) (rest : List Line)
      → Ends frames (events_onto (expanded_events (call_at past) l) past) rest → Ends frames past (l ∷ rest)
  unfolding expanded
  line_ends frames past l rest h = h

  no_lines : (frames : ℕ) (past : List Event) → AllMayHappenFrom pictures rules source frames past → Ends frames past []
  unfolding expanded
  no_lines frames past h = h

  deliver_lines : AllBelowIs → (frames : ℕ) → 4 ≤ rules.half → (p k n : ℕ) → n ≡ p + k → k ≤ 1
      → (lines rest : List Line) → Delivers n lines
      → ((past : List Event) → Good frames past p (suc k) → Ends frames past rest) → (past : List Event)
      → Good frames past p (suc k) → Ends frames past (lines ++ rest)
  deliver_lines below frames half p k n at small [] rest none onward past g = onward past g
  deliver_lines below frames half p k n at small _ rest (one i lines more) onward past g =
      line_ends frames past (line.Packet n i) (lines ++ rest)
      (deliver_lines below frames half p k n at small lines rest more onward (Deliver n i ∷ past)
      (deliver_good below frames half past p k n i at small g))
  deliver_lines below frames half p k n at small _ rest (all lines more) onward past g =
      line_ends frames past (line.All n) (lines ++ rest)
      (deliver_lines below frames half p k n at small lines rest more onward
      (events_onto (expanded_events (call_at past) (line.All n)) past)
      (deliver_all below frames half (range_with_len 0 (length (slices_at (call_at past).coded n))) past p k n at small
      g))

  -- the play of a picture, and perhaps its message
  play_lines : (frames : ℕ) → 4 ≤ rules.half → (p v : ℕ) (rest : List Line)
      → ((past : List Event) → Good frames past (suc p) 1 → Ends frames past rest)
      → (past : List Event) → Good frames past p 2 → Ends frames past ((line.Play ∷ messages (suc p) v) ++ rest)
  play_lines frames half p v rest onward past g = line_ends frames past line.Play (messages (suc p) v
      ++ rest) (go (v == 0) (play_good frames past p 1 (omega arith) g))
    where
      less : (suc p - 1) ≡ p
      less = omega arith

      go : (t : Bool) → Good frames (Play ∷ past) (suc p) 1
          → Ends frames (Play ∷ past) ((if t then [] else line.Back (suc p - 1) ∷ []) ++ rest)
      go true played = onward (Play ∷ past) played
      go false played =
          rw less (line_ends frames (Play ∷ past) (line.Back p) rest
          (onward (Back p ∷ Play ∷ past) (back_good frames half (Play ∷ past) p played)))

  -- the lines of frame n, and what is after them
  frame_ends : AllBelowIs → (frames : ℕ) → SendsSlices pictures rules source frames → 4 ≤ rules.half
      → (n state : ℕ) (rest : List Line) → n < frames
      → ((past : List Event) → Before frames past (suc n) → Ends frames past rest)
      → (past : List Event) → Before frames past n → Ends frames past (frame_lines n state ++ rest)
  frame_ends below frames sends half zero state rest left onward past g =
      line_ends frames past line.Send ((deliveries 0 (draw (next_state state) 16) ++ []) ++ rest)
      (rw append-nil
      (deliver_lines below frames half 0 0 0 (omega arith) (omega arith) (deliveries 0 (draw (next_state state) 16))
      rest (deliveries_deliver 0 (draw (next_state state) 16))
      onward (Send ∷ past) (send_good below frames sends half past 0 0 (omega arith) (omega arith) g)))
  frame_ends below frames sends half (suc m) state rest left onward past g =
      let u = draw (next_state state) 16 in
      let v = draw (next_state (next_state state)) 8 in
      line_ends frames past line.Send ((deliveries (suc m) u ++ plays (suc m) (next_state state)) ++ rest)
      (rw (append_assoc (deliveries (suc m) u) (plays (suc m) (next_state state)) rest)
      (deliver_lines below frames half m 1 (suc m) (omega arith) (omega arith) (deliveries (suc m) u)
      (plays (suc m) (next_state state) ++ rest) (deliveries_deliver (suc m) u)
      (play_lines frames half m v rest onward)
      (Send ∷ past) (send_good below frames sends half past m 1 (omega arith) (omega arith) g)))

  -- this many frames from frame n on, and the last line
  frames_end : AllBelowIs → (frames : ℕ) → SendsSlices pictures rules source frames → 4 ≤ rules.half
      → (some n state : ℕ) → n + some ≡ frames → (past : List Event) → Before frames past n
      → Ends frames past (frames_from some n state ++ last_play frames)
  unfolding frames_from
  frames_end below frames sends half zero n state sum past g = last_ends n (omega arith) past g
    where
      last_ends : (n : ℕ) → n ≡ frames → (past : List Event) → Before frames past n
          → Ends frames past (last_play frames)
      last_ends zero e past g =
          let no_frame : nat_lt 0 frames ≡ false = rw (← e) refl in
          rw no_frame (no_lines frames past g.near)
      last_ends (suc m) e past g =
          let some_frame : nat_lt 0 frames ≡ true = grind (arith, e) in
          rw some_frame (line_ends frames past line.Play []
          (no_lines frames (Play ∷ past) (play_good frames past m 0 (omega arith) g).near))
  frames_end below frames sends half (suc some) n state sum past g =
      let next : n + 1 ≡ suc n = omega arith in
      let rest = frames_from some (suc n) (after_plays n (next_state state)) ++ last_play frames in
      rw (
        next,
        append_assoc (frame_lines n state) (frames_from some (suc n) (after_plays n (next_state state)))
            (last_play frames),
      )
      (frame_ends below frames sends half n state rest (omega arith)
      (λ later behind. frames_end below frames sends half some (suc n) (after_plays n (next_state state))
      (omega arith) later behind) past g)

  -- every event of a made trace is near
  pub made_near : AllBelowIs → (seed frames : ℕ) → 4 ≤ rules.half → SendsSlices pictures rules source frames
      → AllMayHappenFrom pictures rules source frames (expanded pictures rules source [] (made_trace seed frames))
  made_near below seed frames half sends =
      frames_end below frames sends half frames 0 seed (omega arith) [] (record {
        near = tt;
        stands = record { coded = refl; played = refl; said = refl; near = λ i note at. cc; fresh = λ m j le. refl };
      })

-- an encoder's pictures have slices
pub encoder_sends : {Frame Style Mb Picture Fault MessageFault : Type 0}
    (coding : Coding Frame Style Mb Picture Fault MessageFault) (rules : Rules) (pace : List ℕ
    → ℕ) (frames : List Frame)
    → EncoderIsSound coding rules → IsRules rules → IsPace pace
    → SendsSlices (pictures_of coding) rules (encoded coding rules pace frames) (length frames)
encoder_sends {Frame} {Style} {Mb} {Picture} coding rules pace frames sound lawful paced = λ past lt.
    let c = call_from (pictures_of coding) rules (encoded coding rules pace frames) past in
    let frame = some_at frames (length c.coded) lt in
    let next : Coded Style Mb Picture = next_coded (pictures_of coding) coding.encoding rules pace frame.0 c.coded
    c.known in
    let is : encoded coding rules pace frames c ≡ Some next =
    ap (option_map (λ (f : Frame). next_coded (pictures_of coding) coding.encoding rules pace f c.coded c.known))
    frame.1 in
    let covers = ((sound pace frames (Send ∷ past) paced).0 next is).covers in
    let first : covers.place_of 0 < length next.slices = covers.below 0 lawful.some_mbs in
    (next, is, omega arith)

pub made_taken : {Frame Style Mb Picture Fault MessageFault : Type 0}
    (coding : Coding Frame Style Mb Picture Fault MessageFault) (rules : Rules) (pace : List ℕ
    → ℕ) (frames : List Frame) (seed : ℕ)
    → AllBelowIs → EncoderIsSound coding rules → IsRules rules → IsPace pace → 4 ≤ rules.half
    → AllMayHappen coding rules pace frames (expanded (pictures_of coding) rules (encoded coding rules pace frames) []
    (made_trace seed (length frames)))
made_taken coding rules pace frames seed below sound lawful paced half =
    made_near (pictures_of coding) rules (encoded coding rules pace frames) below seed (length frames) half
    (encoder_sends coding rules pace frames sound lawful paced)
