-- Numbers are found by their rests.
use Rattle.std.proofs.Common.{◌≡◌, ℕ, ◌+◌, ◌-◌, ◌/◌, ◌%◌, ◌<◌, ◌≤◌, ◌⊎◌, Bool, cond, ltb, Option, Some, None, ap, sym, arith, subst, ◌∙◌, ⊎_elim}
use Rattle.std.specs.Option.{option_map}
use Rattle.std.proofs.lemmas.Bool.{cases_lt, le-ltb, lt-leb, lt-ltb}
use Rattle.stream_numbers.specs.declared.newest.Newest.{Newest}
use Rattle.stream_numbers.specs.declared.packet.Packet.{Packet}
use Rattle.stream_numbers.specs.declared.packet.Place.{Place}
use Rattle.stream_numbers.specs.declared.rate.Rate.{Rate}
use Rattle.stream_numbers.specs.declared.stepping.Step.{Step}
use Rattle.stream_numbers.specs.Counting.{allowed_in, nearest_to_base, time_of}
use Rattle.stream_numbers.specs.Placing.{advanced, guess_of, newest_moved, newer, stream_place, sequence_after, step_of, with_moved, with_number, with_stamp}
use Rattle.stream_numbers.specs.Laws.{IsAllowedByClock, IsNearNewest, IsPeriod, Says}

back : (top over n : ℕ) → n ≤ top → over ≡ top - n → cond (ltb top over) None (Some (top - over)) ≡ Some n
back top over n h e =
    ap (λ (b : Bool). cond b None (Some (top - over))) (le-ltb top over (omega arith))
    ∙ ap (λ (k : ℕ). Some k) same
  where
    same : top - over ≡ n
    same = omega arith

over_256 : (base n : ℕ) → base ≤ n + 128 → n < base + 128 → (base + 128 - 1 + 256 - n % 256) % 256 ≡ base + 128 - 1 - n
over_256 base n h i = omega arith

over_1024 : (base n : ℕ) → base ≤ n + 512 → n < base + 512
    → (base + 512 - 1 + 1024 - n % 1024) % 1024 ≡ base + 512 - 1 - n
over_1024 base n h i = omega arith

over_stamp : (base n : ℕ) → base ≤ n + 2147483648 → n < base + 2147483648
    → (base + 2147483648 - 1 + 4294967296 - n % 4294967296) % 4294967296 ≡ base + 2147483648 - 1 - n
over_stamp base n h i = omega arith

pub near_256 : (base n : ℕ) → base ≤ n + 128 → n < base + 128 → nearest_to_base base (n % 256) 256 ≡ Some n
near_256 base n h i =
    back (base + 128 - 1) ((base + 128 - 1 + 256 - n % 256) % 256) n (omega arith) (over_256 base n h i)

pub near_1024 : (base n : ℕ) → base ≤ n + 512 → n < base + 512 → nearest_to_base base (n % 1024) 1024 ≡ Some n
near_1024 base n h i =
    back (base + 512 - 1) ((base + 512 - 1 + 1024 - n % 1024) % 1024) n (omega arith) (over_1024 base n h i)

pub near_stamp : (base n : ℕ) → base ≤ n + 2147483648 → n < base + 2147483648
    → nearest_to_base base (n % 4294967296) 4294967296 ≡ Some n
near_stamp base n h i =
    back (base + 2147483648 - 1) ((base + 2147483648 - 1 + 4294967296 - n % 4294967296) % 4294967296) n (omega arith)
    (over_stamp base n h i)

abbrev FoundIn : ℕ → ℕ → ℕ → Type 0
FoundIn base n period = base ≤ n + period / 2 → n < base + period / 2 → nearest_to_base base (n % period) period
    ≡ Some n

pub nearest_found : (base n period : ℕ) → IsPeriod period → base ≤ n + period / 2 → n < base + period / 2
    → nearest_to_base base (n % period) period ≡ Some n
nearest_found base n period p =
    ⊎_elim
    (λ (e : period ≡ 256). subst (λ (k : ℕ). FoundIn base n k) (sym e) (λ h i. near_256 base n h i))
    (λ (f : (period ≡ 1024) ⊎ (period ≡ 4294967296)). ⊎_elim
    (λ (e : period ≡ 1024). subst (λ (k : ℕ). FoundIn base n k) (sym e) (λ h i. near_1024 base n h i))
    (λ (e : period ≡ 4294967296). subst (λ (k : ℕ). FoundIn base n k) (sym e) (λ h i. near_stamp base n h i))
    f)
    p

-- ---- a packet's place

abbrev place_in : Option Step → Option Place
place_in o = option_map (λ s. s.place) o

placed : (r : Rate) (x : Newest) (p : Packet) (number stamp now : ℕ) → number < 1048576
    → IsAllowedByClock r x number now
    → place_in (with_moved (newest_moved r x p number stamp now) number stamp) ≡ Some (stream_place number stamp)
placed r x p number stamp now few allowed =
    ap (λ (b : Bool). place_in (with_moved (cond b None (cond (ltb x.number number) (advanced r x p number stamp now)
    (Some (record x { sequence = sequence_after x p })))) number stamp)) (lt-leb 1048576 number few)
    ∙ ⊎_elim
    (λ (h : x.number < number).
    ap (λ (b : Bool). place_in (with_moved (cond b (advanced r x p number stamp now)
    (Some (record x { sequence = sequence_after x p }))) number stamp)) (lt-ltb x.number number h)
    ∙ ap (λ (b : Bool). place_in (with_moved (cond b None (Some (newer x p number stamp now
    (x.credit + allowed_in (now - x.at) - time_of r.rate r.second (number - x.number))))) number stamp))
    (le-ltb (x.credit + allowed_in (now - x.at)) (time_of r.rate r.second (number - x.number)) allowed))
    (λ (h : number ≤ x.number).
    ap (λ (b : Bool). place_in (with_moved (cond b (advanced r x p number stamp now)
    (Some (record x { sequence = sequence_after x p }))) number stamp)) (le-ltb x.number number h))
    (cases_lt x.number number)

by_period : (r : Rate) (base number : ℕ) → (r.period ≡ 256) ⊎ (r.period ≡ 1024) → base ≤ number + r.period / 2
    → number < base + r.period / 2 → nearest_to_base base (number % r.period) r.period ≡ Some number
by_period r base number f =
    ⊎_elim
    (λ (e : r.period ≡ 256). subst (λ (k : ℕ). FoundIn base number k) (sym e) (λ h i. near_256 base number h i))
    (λ (e : r.period ≡ 1024). subst (λ (k : ℕ). FoundIn base number k) (sym e) (λ h i. near_1024 base number h i))
    f

pub found : (r : Rate) (x : Newest) (p : Packet) (number stamp now : ℕ) → (r.period ≡ 256) ⊎ (r.period ≡ 1024)
    → Says r p number stamp → IsNearNewest r x p number stamp → IsAllowedByClock r x number now
    → option_map (λ s. s.place) (step_of r (Some x) p now) ≡ Some (stream_place number stamp)
found r x p number stamp now period s n allowed =
    ap (λ (t : ℕ). place_in (with_stamp r x p (nearest_to_base x.stamp t 4294967296) now)) s.timestamp
    ∙ ap (λ (o : Option ℕ). place_in (with_stamp r x p o now)) (near_stamp x.stamp stamp n.stamp_low n.stamp_high)
    ∙ ap (λ (b : Bool). place_in
    (cond b None (with_number r x p (nearest_to_base (guess_of r x p stamp) p.reference r.period) stamp now)))
    (lt-leb 70368744177664 stamp s.small)
    ∙ ap (λ (t : ℕ). place_in (with_number r x p (nearest_to_base (guess_of r x p stamp) t r.period) stamp now))
    s.reference
    ∙ ap (λ (o : Option ℕ). place_in (with_number r x p o stamp now))
    (by_period r (guess_of r x p stamp) number period n.number_low n.number_high)
    ∙ placed r x p number stamp now s.few allowed
