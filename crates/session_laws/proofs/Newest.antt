-- What a packet does to the newest picture of its stream.
use Rattle.std.proofs.Common.{◌≡◌, ℕ, ◌+◌, ◌-◌, ◌<◌, ◌≤◌, min, leb, ltb, cond, List, [], ◌∷◌, ◌++◌, Option, Some, None, refl, ap, sym, arith, ◌∙◌}
use Rattle.std.specs.Prelude.{MatchOption}
use Rattle.std.proofs.lemmas.Bool.{cond_both, ltb-false, ltb-true}
use Rattle.stream_numbers.specs.declared.newest.Newest.{Newest}
use Rattle.stream_numbers.specs.declared.packet.Packet.{Packet}
use Rattle.stream_numbers.specs.declared.rate.Rate.{Rate}
use Rattle.stream_numbers.specs.declared.stepping.Step.{Step}
use Rattle.stream_numbers.specs.Counting.{allowed_in, nearest_to_base, time_of}
use Rattle.stream_numbers.specs.Placing.{advanced, guess_of, newest_moved, newer, sequence_after, step_of, with_moved, with_number, with_stamp}
use Rattle.stream_numbers.specs.Streams.{HeardPacket, newest_kept, newest_after}
use Rattle.stream_numbers.specs.Laws.{HeardInOrder, newest_after_all, newest_of}
use Rattle.session_laws.specs.Bounded.{number_of_newest}

-- ---- a packet

-- from x to y, with a packet of this number
record Moves (x y : Newest) (number now : ℕ) : Type 0 where
  place : number ≤ y.number
  old : x.number ≤ y.number
  credit : x.credit ≤ 2000000000 → y.credit ≤ 2000000000
  at : x.at ≤ now → y.at ≤ now

abbrev MovesTo : Newest → ℕ → ℕ → Option Newest → Type 0
MovesTo x number now o = MatchOption o (Unit {0}) (λ y. Moves x y number now)

advances : (r : Rate) (x : Newest) (p : Packet) (number stamp now : ℕ) → x.number < number
    → MovesTo x number now (advanced r x p number stamp now)
advances r x p number stamp now h =
    let cost = time_of r.rate r.second (number - x.number) in
    let most = x.credit + allowed_in (now - x.at) in
    cond_both (ltb most cost) None (Some (newer x p number stamp now (most - cost))) (λ s. MovesTo x number now s)
    (λ e. tt)
    (λ e. record {
      place = omega arith;
      old = omega arith;
      credit = λ i. least (most - cost) 2000000000;
      at = λ i. omega arith;
    })
  where
    least : (a b : ℕ) → min a b ≤ b
    least a b = omega arith

moves : (r : Rate) (x : Newest) (p : Packet) (number stamp now : ℕ)
    → MovesTo x number now (newest_moved r x p number stamp now)
moves r x p number stamp now =
    cond_both (leb 1048576 number) None
    (cond (ltb x.number number) (advanced r x p number stamp now) (Some (record x { sequence = sequence_after x p })))
    (λ s. MovesTo x number now s)
    (λ e. tt)
    (λ e. cond_both (ltb x.number number) (advanced r x p number stamp now)
    (Some (record x { sequence = sequence_after x p }))
    (λ s. MovesTo x number now s)
    (λ f. advances r x p number stamp now (ltb-true x.number number f))
    (λ f. record {
      place = ltb-false x.number number f;
      old = omega arith;
      credit = λ i. i;
      at = λ i. i;
    }))

-- whatever was before, the newest picture is no older than the packet's, and than it was
pub record Steps (before : Option Newest) (s : Step) (now : ℕ) : Type 0 where
  pub place : s.place.number ≤ s.newest.number
  pub old : number_of_newest before ≤ s.newest.number
  pub credit : MatchOption before (Unit {0}) (λ x. x.credit ≤ 2000000000) → s.newest.credit ≤ 2000000000
  pub at : MatchOption before (Unit {0}) (λ x. x.at ≤ now) → s.newest.at ≤ now

abbrev pub StepsTo : Option Newest → ℕ → Option Step → Type 0
StepsTo before now o = MatchOption o (Unit {0}) (λ s. Steps before s now)

by_moved : (x : Newest) (o : Option Newest) (number stamp now : ℕ) → MovesTo x number now o
    → StepsTo (Some x) now (with_moved o number stamp)
by_moved x None number stamp now h = tt
by_moved x (Some y) number stamp now h =
    record { place = h.place; old = h.old; credit = h.credit; at = h.at }

by_number : (r : Rate) (x : Newest) (p : Packet) (o : Option ℕ) (stamp now : ℕ)
    → StepsTo (Some x) now (with_number r x p o stamp now)
by_number r x p None stamp now = tt
by_number r x p (Some number) stamp now =
    by_moved x (newest_moved r x p number stamp now) number stamp now (moves r x p number stamp now)

by_stamp : (r : Rate) (x : Newest) (p : Packet) (o : Option ℕ) (now : ℕ) → StepsTo (Some x) now (with_stamp r x p o now)
by_stamp r x p None now = tt
by_stamp r x p (Some stamp) now =
    cond_both (leb 70368744177664 stamp) None
    (with_number r x p (nearest_to_base (guess_of r x p stamp) p.reference r.period) stamp now)
    (λ s. StepsTo (Some x) now s)
    (λ e. tt)
    (λ e. by_number r x p (nearest_to_base (guess_of r x p stamp) p.reference r.period) stamp now)

pub steps : (r : Rate) (before : Option Newest) (p : Packet) (now : ℕ) → StepsTo before now (step_of r before p now)
steps r None p now =
    record {
      place = omega arith;
      old = omega arith;
      credit = λ i. omega arith;
      at = λ i. omega arith;
    }
steps r (Some x) p now = by_stamp r x p (nearest_to_base x.stamp p.timestamp 4294967296) now

-- ---- a list of them, the newest first

-- none came later than the one after it, or than now
abbrev pub Back : ℕ → List HeardPacket → Type 0
Back now [] = Unit {0}
Back now (h ∷ hs) = (h.1 ≤ now) × Back h.1 hs

pub back_later : (then now : ℕ) (hs : List HeardPacket) → then ≤ now → Back then hs → Back now hs
back_later then now [] i b = tt
back_later then now (h ∷ hs) i b =
    let first = b.0 in
    (omega arith, b.1)

credit_kept : (before : Option Newest) (s : Option Step) (now : ℕ) → StepsTo before now s
    → MatchOption before (Unit {0}) (λ x. x.credit ≤ 2000000000)
    → MatchOption (newest_kept s before) (Unit {0}) (λ x. x.credit ≤ 2000000000)
credit_kept before None now g h = h
credit_kept before (Some s) now g h = g.credit h

credits : (r : Rate) (hs : List HeardPacket) → MatchOption (newest_after r hs) (Unit {0}) (λ x. x.credit ≤ 2000000000)
credits r [] = tt
credits r (h ∷ hs) =
    credit_kept (newest_after r hs) (step_of r (newest_after r hs) h.0 h.1) h.1 (steps r (newest_after r hs) h.0 h.1)
    (credits r hs)

at_kept : (before : Option Newest) (s : Option Step) (now : ℕ) → StepsTo before now s
    → MatchOption before (Unit {0}) (λ x. x.at ≤ now)
    → MatchOption (newest_kept s before) (Unit {0}) (λ x. x.at ≤ now)
at_kept before None now g h = h
at_kept before (Some s) now g h = g.at h

at_later : (o : Option Newest) (then now : ℕ) → then ≤ now → MatchOption o (Unit {0}) (λ x. x.at ≤ then)
    → MatchOption o (Unit {0}) (λ x. x.at ≤ now)
at_later None then now i h = tt
at_later (Some x) then now i h = omega arith

ats : (r : Rate) (now : ℕ) (hs : List HeardPacket) → Back now hs
    → MatchOption (newest_after r hs) (Unit {0}) (λ x. x.at ≤ now)
ats r now [] b = tt
ats r now (h ∷ hs) b =
    at_later (newest_after r (h ∷ hs)) h.1 now b.0
    (at_kept (newest_after r hs) (step_of r (newest_after r hs) h.0 h.1) h.1 (steps r (newest_after r hs) h.0 h.1)
    (ats r h.1 hs b.1))

pub is_small : (r : Rate) (hs : List HeardPacket) (x : Newest) → newest_after r hs ≡ Some x → x.credit ≤ 2000000000
is_small r hs x e = held (newest_after r hs) x e (credits r hs)
  where
    held : (o : Option Newest) (x : Newest) → o ≡ Some x → MatchOption o (Unit {0}) (λ y. y.credit ≤ 2000000000)
        → x.credit ≤ 2000000000
    held None x e h = absurd cc
    held (Some y) x e h =
        let f : y ≡ x = cc in
        let g = ap (λ (z : Newest). z.credit) f in
        omega (arith, g, h)

pub is_past : (r : Rate) (now : ℕ) (hs : List HeardPacket) (x : Newest) → newest_after r hs ≡ Some x → Back now hs
    → x.at ≤ now
is_past r now hs x e b = held (newest_after r hs) x now e (ats r now hs b)
  where
    held : (o : Option Newest) (x : Newest) (now : ℕ) → o ≡ Some x → MatchOption o (Unit {0}) (λ y. y.at ≤ now)
        → x.at ≤ now
    held None x now e h = absurd cc
    held (Some y) x now e h =
        let f : y ≡ x = cc in
        let g = ap (λ (z : Newest). z.at) f in
        omega (arith, g, h)

-- ---- the other way round, the oldest first

abbrev pub onto : List HeardPacket → List HeardPacket → List HeardPacket
onto [] after = after
onto (h ∷ hs) after = onto hs (h ∷ after)

abbrev top : ℕ → List HeardPacket → ℕ
top last [] = last
top last (h ∷ hs) = h.1

abbrev Chain : ℕ → List HeardPacket → Type 0
Chain last [] = Unit {0}
Chain last (h ∷ hs) = (top last hs ≤ h.1) × Chain last hs

chained : (last now : ℕ) (later before : List HeardPacket) → ((time : ℕ) → Back time before → last ≤ time)
    → Back now (later ++ before) → Chain last later × (top last later ≤ now)
chained last now [] before f b = (tt, f now b)
chained last now (h ∷ later) before f b =
    let k = chained last h.1 later before f b.1 in
    ((k.1, k.0), b.0)

ordered : (last : ℕ) (later after : List HeardPacket) → Chain last later → HeardInOrder (top last later) after
    → HeardInOrder last (onto later after)
ordered last [] after c o = o
ordered last (h ∷ later) after c o = ordered last later (h ∷ after) c.1 (c.0, o)

pub in_order : (r : Rate) (now : ℕ) (later before : List HeardPacket) (x : Newest) → newest_after r before ≡ Some x
    → Back now (later ++ before) → HeardInOrder x.at (onto later [])
in_order r now later before x e b =
    let k = chained x.at now later before (λ time s. is_past r time before x e s) b in
    ordered x.at later [] k.0 tt

kept_some : (s : Option Step) (w : Newest) → newest_kept s (Some w) ≡ Some (newest_of s w)
kept_some None w = refl
kept_some (Some s) w = refl

still_some : (r : Rate) (later before : List HeardPacket) (x : Newest) → newest_after r before ≡ Some x
    → (w : Newest) × (newest_after r (later ++ before) ≡ Some w)
still_some r [] before x e = (x, e)
still_some r (h ∷ later) before x e =
    let k = still_some r later before x e in (
      newest_of (step_of r (Some k.0) h.0 h.1) k.0,
      ap (λ (o : Option Newest). newest_kept (step_of r o h.0 h.1) o) k.1
          ∙ kept_some (step_of r (Some k.0) h.0 h.1) k.0,
    )

some_same : (x y : Newest) (o : Option Newest) → o ≡ Some x → o ≡ Some y → x ≡ y
some_same x y o e f = inside (Some x) x y refl (sym e ∙ f)
  where
    inside : (o : Option Newest) (x y : Newest) → o ≡ Some x → o ≡ Some y → x ≡ y
    inside None x y e f = absurd cc
    inside (Some z) x y e f = cc

pub after_later : (r : Rate) (later before after : List HeardPacket) (x z : Newest) → newest_after r before ≡ Some x
    → newest_after r (later ++ before) ≡ Some z → newest_after_all r x (onto later after) ≡ newest_after_all r z after
after_later r [] before after x z e f = ap (λ (y : Newest). newest_after_all r y after)
    (some_same x z (newest_after r before) e f)
after_later r (h ∷ later) before after x z e f =
    let k = still_some r later before x e in
    let g = ap (λ (o : Option Newest). newest_kept (step_of r o h.0 h.1) o) k.1
    ∙ kept_some (step_of r (Some k.0) h.0 h.1) k.0 in
    after_later r later before (h ∷ after) x k.0 e k.1
    ∙ ap (λ (y : Newest). newest_after_all r y after)
    (some_same (newest_of (step_of r (Some k.0) h.0 h.1) k.0) z (newest_after r (h ∷ (later ++ before))) g f)
