-- Each play is of a picture that is due.
use Rattle.std.proofs.Common.{◌≡◌, ℕ, ◌+◌, ◌-◌, ◌*◌, ◌<◌, ◌≤◌, ◌⊎◌, Bool, true, false, cond, leb, ltb, List, [], ◌∷◌, ◌++◌, length, Option, Some, None, refl, ap, sym, arith, subst, ◌∙◌, inl, inr, ⊎_elim}
use Rattle.std.specs.Prelude.{is_some, IfSome}
use Rattle.std.specs.List.{AllByRecursion}
use Rattle.std.proofs.Math.Nat.{mul-le-mul_left}
use Rattle.std.proofs.lemmas.Bool.{leb-false, leb-true, ltb-true, or_cases}
use Rattle.stream_choice.specs.declared.streams.Run.{Run}
use Rattle.stream_choice.specs.declared.streams.Run.TheVariants as runs
use Rattle.stream_choice.specs.Choice.{run_source}
use Rattle.stream_numbers.specs.declared.newest.Newest.{Newest}
use Rattle.stream_numbers.specs.Placing.{IsRate}
use Rattle.stream_numbers.specs.Streams.{HeardPacket, newest_after}
use Rattle.stream_numbers.specs.Laws as numbers
use Rattle.playout_times.specs.declared.arrival.Arrival.{Arrival}
use Rattle.playout_times.specs.Due.{captured_from, due_at, due_of, has_come, is_due_by}
use Rattle.playout_times.specs.Laws.{InTime}
use Rattle.timed_receiver.specs.Timed.{arrivals_of}
use Rattle.stream_run.specs.Entries.{heard_of}
use Rattle.session_runs.specs.Histories.{Config, History, is_due_in, next_number_in, timed_in}
use Rattle.session_runs.specs.Lines.{line_of}
use Rattle.session_runs.specs.Following.{Follows, is_run_due, run_due}
use Rattle.call_session.specs.Sessions.{Anew, Asked, Datagram, DatagramOf, Ended, SessionEntry, SessionState, Turn, at, played_run, session_run}
use Rattle.session_laws.specs.Bounded.{HasWaited, IsDue, Played, newest_number, played_at, session_plays, time_due, turns}
use Rattle.session_laws.proofs.Newest.{Back, after_later, in_order, is_past, is_small, onto}
use Rattle.session_laws.proofs.Reaching.{AreFine, Fine, at_fine, line_fine, lines_fine}

-- ---- it is due

came_of : (picture n : ℕ) (arrivals : List Arrival) → has_come picture arrivals ≡ true
    → AllByRecursion (λ a. a.picture ≤ n) arrivals → picture ≤ n
came_of picture n [] e x = absurd cc
came_of picture n (a ∷ arrivals) e x =
    ⊎_elim
    (λ (f : leb picture a.picture ≡ true).
    let g = leb-true picture a.picture f in
    let first = x.0 in
    omega arith)
    (λ (f : has_come picture arrivals ≡ true). came_of picture n arrivals f x.1)
    (or_cases (leb picture a.picture) (has_come picture arrivals) e)

abbrev Times : Config → History → ℕ → Type 0
Times c h now =
    (next_number_in c h < 1048576) × (next_number_in c h ≤ newest_number c h)
    × ((is_due_by now (time_due c h) ≡ true) ⊎ (next_number_in c h + c.lead < newest_number c h))

known : (picture now : ℕ) (b : Bool) (time : ℕ) → is_due_by now (cond b (Some time) None) ≡ true → b ≡ true
known picture now true time e = refl
known picture now false time e = absurd cc

in_time : (b1 b2 : Bool) (c : Config) (h : History) (now : ℕ) → Fine c now h → b1 ≡ leb 1048576 (next_number_in c h)
    → b2 ≡ ltb (next_number_in c h) h.until
    → is_due_by now (cond b1 None (cond b2 (Some 0) (time_due c h))) ≡ true
    → Times c h now
in_time true b2 c h now x e f d = absurd cc
in_time false true c h now x e f d =
    let i = leb-false 1048576 (next_number_in c h) (sym e) in
    let j = x.until (next_number_in c h) (ltb-true (next_number_in c h) h.until (sym f)) in
    (omega (arith, i), omega (arith, j), inr j)
in_time false false c h now x e f d =
    let i = leb-false 1048576 (next_number_in c h) (sym e) in
    let arrivals = arrivals_of (timed_in c h) in
    let g = known (next_number_in c h) now (has_come (next_number_in c h) arrivals)
    (due_at c.wait (captured_from (next_number_in c h) arrivals) arrivals) d in
    (omega (arith, i), came_of (next_number_in c h) (newest_number c h) arrivals g x.heard, inl d)

both : (a b : Bool) → cond a b false ≡ true → b ≡ true
both true b e = e
both false b e = absurd cc

abbrev of_three : Run → Bool → Bool → Bool → Bool
of_three runs.Followed a b c = a
of_three runs.Former a b c = b
of_three runs.Tried a b c = c

first : (a b c : Bool) (run : Run)
    → cond a (Some runs.Followed) (cond b (Some runs.Former) (cond c (Some runs.Tried) None)) ≡ Some run
    → of_three run a b c ≡ true
first true b c runs.Followed e = refl
first true b c runs.Former e = absurd cc
first true b c runs.Tried e = absurd cc
first false true c runs.Followed e = absurd cc
first false true c runs.Former e = refl
first false true c runs.Tried e = absurd cc
first false false true runs.Followed e = absurd cc
first false false true runs.Former e = absurd cc
first false false true runs.Tried e = refl
first false false false run e = absurd cc

of_run : (c : Config) (run : Run) (now : ℕ) (f : Follows) → is_run_due c run now f ≡ true
    → is_due_in c now (line_of run f.lines) ≡ true
of_run c run now f e = both (is_some (run_source f.streams run)) (is_due_in c now (line_of run f.lines)) e

is_due : (run : Run) (c : Config) (now : ℕ) (f : Follows) → run_due c now f ≡ Some run
    → is_due_in c now (line_of run f.lines) ≡ true
is_due runs.Followed c now f e =
    of_run c runs.Followed now f (first (is_run_due c runs.Followed now f) (is_run_due c runs.Former now f)
    (is_run_due c runs.Tried now f) runs.Followed e)
is_due runs.Former c now f e =
    of_run c runs.Former now f (first (is_run_due c runs.Followed now f) (is_run_due c runs.Former now f)
    (is_run_due c runs.Tried now f) runs.Former e)
is_due runs.Tried c now f e =
    of_run c runs.Tried now f (first (is_run_due c runs.Followed now f) (is_run_due c runs.Former now f)
    (is_run_due c runs.Tried now f) runs.Tried e)

line_due : (c : Config) (h : History) (now : ℕ) → Fine c now h → is_due_in c now h ≡ true
    → IsDue c (let p : Played = record { line = h; now = now } in p)
line_due c h now x d =
    let t = in_time (leb 1048576 (next_number_in c h)) (ltb (next_number_in c h) h.until) c h now x refl refl d in
    record { few = t.0; came = t.1; due = t.2 }

played_due : (o : Option Run) (c : Config) (st : SessionState) (l : List Played) → AreFine c st.now st.follows.lines
    → run_due c st.now st.follows ≡ o
    → AllByRecursion (IsDue c) l → AllByRecursion (IsDue c) (played_at o st ++ l)
played_due None c st l x e h = h
played_due (Some run) c st l x e h = (
  line_due c (line_of run st.follows.lines) st.now (line_fine run c st.now st.follows.lines x)
      (is_due run c st.now st.follows e),
  h,
)

all_due : (c : Config) (past : List SessionEntry) → AllByRecursion (IsDue c) (session_plays c past)
all_due c [] = tt
all_due c (Datagram bytes now ∷ past) = all_due c past
all_due c (DatagramOf only bytes now ∷ past) = all_due c past
all_due c (Asked round_trip now ∷ past) = all_due c past
all_due c (Ended source now ∷ past) = all_due c past
all_due c (Anew now ∷ past) = all_due c past
all_due c (Turn now ∷ past) =
    let st = session_run c past in
    let a = at now st in
    played_due (played_run c a) c a (session_plays c past) (at_fine c now st (lines_fine c past)) refl (all_due c past)

one_each : (o : Option Run) (st : SessionState) (l : List Played) (n : ℕ) → length l ≤ n
    → length (played_at o st ++ l) ≤ n + 1
one_each None st l n h = omega arith
one_each (Some run) st l n h = omega arith

no_more : (c : Config) (past : List SessionEntry) → length (session_plays c past) ≤ turns past
no_more c [] = omega arith
no_more c (Datagram bytes now ∷ past) = no_more c past
no_more c (DatagramOf only bytes now ∷ past) = no_more c past
no_more c (Asked round_trip now ∷ past) = no_more c past
no_more c (Ended source now ∷ past) = no_more c past
no_more c (Anew now ∷ past) = no_more c past
no_more c (Turn now ∷ past) =
    let a = at now (session_run c past) in
    one_each (played_run c a) a (session_plays c past) (turns past) (no_more c past)

pub plays_are_due : (c : Config) (past : List SessionEntry)
    → AllByRecursion (IsDue c) (session_plays c past) × (length (session_plays c past) ≤ turns past)
plays_are_due c past = (all_due c past, no_more c past)

-- ---- it has waited

by_then : (o : Option ℕ) (at now : ℕ) → is_due_by now o ≡ true → IfSome o (λ time. at ≤ time) → at ≤ now
by_then None at now e h = absurd cc
by_then (Some time) at now e h =
    let i = leb-true time now e in
    omega arith

has_waited : InTime → (c : Config) (p : Played) → IsDue c p → HasWaited c p
has_waited law c p d shortest packet later before e h t s said next near timed short =
    ⊎_elim
    (λ (f : is_due_by p.now (time_due c p.line) ≡ true).
    by_then (due_of c.wait packet.picture (later ++ before)) packet.at p.now
    (ap (λ (n : ℕ). is_due_by p.now (due_of c.wait n (later ++ before))) next
    ∙ sym (ap (λ (l : List Arrival). is_due_by p.now (due_of c.wait (next_number_in c p.line) l)) e) ∙ f)
    (law c.wait shortest packet later before h t s said timed short))
    (λ (f : next_number_in c p.line + c.lead < newest_number c p.line). absurd (omega (arith, f, near)))
    d.due

each : InTime → (c : Config) (l : List Played) → AllByRecursion (IsDue c) l → AllByRecursion (HasWaited c) l
each law c [] d = tt
each law c (p ∷ l) d = (has_waited law c p d.0, each law c l d.1)

pub plays_wait : InTime → (c : Config) (past : List SessionEntry) → AllByRecursion (HasWaited c) (session_plays c past)
plays_wait law c past = each law c (session_plays c past) (all_due c past)

-- ---- it isn't ahead

pub never_ahead : numbers.NumbersNeverAhead
    → (c : Config) (past : List SessionEntry) (run : Run) (later before : List HeardPacket) (x y : Newest)
    → IsRate c.rate
    → heard_of (line_of run (session_run c past).follows.lines).past ≡ later ++ before
    → newest_after c.rate before ≡ Some x
    → newest_after c.rate (heard_of (line_of run (session_run c past).follows.lines).past) ≡ Some y
    → ((y.number - x.number) * (c.rate.second * 10000000000) ≤ c.rate.rate * (20000000000 + 11 * (y.at - x.at)))
    × (y.at ≤ (session_run c past).now)
never_ahead law c past run later before x y r e f g =
    let st = session_run c past in
    let order = (line_fine run c st.now st.follows.lines (lines_fine c past)).order in
    let b = subst (λ (l : List HeardPacket). Back st.now l) e order in
    let i = in_order c.rate st.now later before x f b in
    let h = law c.rate x (onto later []) r i in
    let same = after_later c.rate later before [] x y f
    (ap (newest_after c.rate) (sym e) ∙ g) in
    let k = subst (λ (z : Newest). (z.number - x.number) * (c.rate.second * 10000000000)
    ≤ c.rate.rate * (10 * x.credit + 11 * (z.at - x.at))) same h in (
      within (y.number - x.number) c.rate.second c.rate.rate x.credit (y.at - x.at) (is_small c.rate before x f) k,
      is_past c.rate st.now (heard_of (line_of run st.follows.lines).past) y g order,
    )
  where
    within : (n second rate credit time : ℕ) → credit ≤ 2000000000
        → n * (second * 10000000000) ≤ rate * (10 * credit + 11 * time)
        → n * (second * 10000000000) ≤ rate * (20000000000 + 11 * time)
    within n second rate credit time h k =
        let a : 10 * credit + 11 * time ≤ 20000000000 + 11 * time = omega arith in
        let b = mul-le-mul_left {m = 10 * credit + 11 * time} {n = 20000000000 + 11 * time} rate a in
        omega (arith, b, k)
