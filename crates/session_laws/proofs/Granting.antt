-- How many packets are given to runs.
use Rattle.std.proofs.Common.{◌≡◌, ℕ, ◌+◌, ◌/◌, ◌≤◌, Bool, true, false, cond, eqb, List, [], ◌∷◌, ◌++◌, count_by, Result, Ok, Err, refl, ap, arith}
use Rattle.std.proofs.lemmas.List.Sums.{sum_by-cons}
use Rattle.rtp_source.specs.Source.{renamed}
use Rattle.stream_choice.specs.declared.streams.Taker.{Taker}
use Rattle.stream_choice.specs.declared.streams.Taker.TheVariants as takers
use Rattle.stream_choice.specs.Granting.{granted}
use Rattle.stream_choice.specs.Laws.{NeverMore}
use Rattle.session_intake.specs.Asked as budgets
use Rattle.session_intake.specs.Datagrams.{seen_in}
use Rattle.session_intake.specs.declared.seen.Seen.{Seen}
use Rattle.session_intake.specs.declared.seen.Cause.{Cause}
use Rattle.session_runs.specs.Histories.{Config}
use Rattle.call_session.specs.Sessions.{Anew, Asked, Datagram, DatagramOf, Ended, SessionEntry, SessionState, Turn, after_grant, after_reading, asked_for, at, is_looked_at, outcome_of_grant, outcome_of_reading, seen_of_one, session_run, taker_in}
use Rattle.session_laws.specs.Bounded.{times_taken, taken_if}

abbrev in_second : ℕ → ℕ → Bool
in_second second time = eqb (time / 1000000000) second

abbrev few : (ℕ → Bool) → List ℕ → ℕ
few p asked = count_by p (granted 12000 asked)

-- those that were granted of all three budgets
abbrev all_few : (ℕ → Bool) → budgets.LookTimes → ℕ
all_few p a = few p a.followed + few p a.former + few p a.others

one_more : (p : ℕ → Bool) (n : ℕ) (ns : List ℕ) → count_by p (n ∷ ns) ≡ cond (p n) 1 0 + count_by p ns
one_more p n ns = sum_by-cons (λ (x : ℕ). cond (p x) 1 0) n ns

-- one that is granted counts, whether it is taken or not
grown : (p : ℕ → Bool) (n : ℕ) (ts ns : List ℕ) (k : ℕ) → count_by p ts ≤ count_by p ns + k
    → (count_by p ts ≤ count_by p (n ∷ ns) + k) × (count_by p (n ∷ ts) ≤ count_by p (n ∷ ns) + k)
grown p n ts ns k h =
    let a = one_more p n ts in
    let b = one_more p n ns in (
      less (count_by p ts) (count_by p (n ∷ ns)) (cond (p n) 1 0) (count_by p ns) k b h,
      both (count_by p ts) (count_by p (n ∷ ts)) (count_by p (n ∷ ns)) (cond (p n) 1 0) (count_by p ns) k a b h,
    )
  where
    less : (t m x n k : ℕ) → m ≡ x + n → t ≤ n + k → t ≤ m + k
    less t m x n k e h = omega arith

    both : (t u m x n k : ℕ) → u ≡ x + t → m ≡ x + n → t ≤ n + k → u ≤ m + k
    both t u m x n k d e h = omega arith

by_grant : (g : Bool) (t : Taker) (p : ℕ → Bool) (c : Config) (seen : Seen) (own : List ℕ) (st : SessionState)
    (ts ns : List ℕ)
    (k : ℕ)
    → count_by p ts ≤ count_by p ns + k
    → count_by p (taken_if (outcome_of_grant c seen t own g st) st.now ++ ts)
    ≤ count_by p (cond g (st.now ∷ ns) ns) + k
by_grant false t p c seen own st ts ns k h = h
by_grant true takers.Followed p c seen own st ts ns k h = (grown p st.now ts ns k h).1
by_grant true takers.Former p c seen own st ts ns k h = (grown p st.now ts ns k h).1
by_grant true takers.Tried p c seen own st ts ns k h = (grown p st.now ts ns k h).1
by_grant true takers.Begins p c seen own st ts ns k h = (grown p st.now ts ns k h).1
by_grant true takers.NoRun p c seen own st ts ns k h = (grown p st.now ts ns k h).0

abbrev Bound : (ℕ → Bool) → List ℕ → budgets.LookTimes → Type 0
Bound p ts a = count_by p ts ≤ all_few p a

same_bound : (a b c d e : ℕ) → a ≤ b + c → b + c ≡ d → a ≤ d
same_bound a b c d e h f = omega arith

by_taker : (t : Taker) (p : ℕ → Bool) (c : Config) (seen : Seen) (own : List ℕ) (st : SessionState) (ts : List ℕ)
    → Bound p ts st.asked
    → Bound p (taken_if (outcome_of_grant c seen t own (is_looked_at t st) st) st.now ++ ts)
    (asked_for t st).asked
by_taker takers.Followed p c seen own st ts h =
    let f = by_grant (is_looked_at takers.Followed st) takers.Followed p c seen own st ts
    (granted 12000 st.asked.followed)
    (few p st.asked.former + few p st.asked.others) (omega (arith, h)) in
    omega (arith, f)
by_taker takers.Former p c seen own st ts h =
    let f = by_grant (is_looked_at takers.Former st) takers.Former p c seen own st ts (granted 12000 st.asked.former)
    (few p st.asked.followed + few p st.asked.others) (omega (arith, h)) in
    omega (arith, f)
by_taker takers.Tried p c seen own st ts h =
    let f = by_grant (is_looked_at takers.Tried st) takers.Tried p c seen own st ts (granted 12000 st.asked.others)
    (few p st.asked.followed + few p st.asked.former) (omega (arith, h)) in
    omega (arith, f)
by_taker takers.Begins p c seen own st ts h =
    let f = by_grant (is_looked_at takers.Begins st) takers.Begins p c seen own st ts (granted 12000 st.asked.others)
    (few p st.asked.followed + few p st.asked.former) (omega (arith, h)) in
    omega (arith, f)
by_taker takers.NoRun p c seen own st ts h =
    let f = by_grant (is_looked_at takers.NoRun st) takers.NoRun p c seen own st ts (granted 12000 st.asked.others)
    (few p st.asked.followed + few p st.asked.former) (omega (arith, h)) in
    omega (arith, f)

granted_asked : (g : Bool) (c : Config) (seen : Seen) (t : Taker) (own : List ℕ) (st : SessionState)
    → (after_grant c seen t own g st).asked ≡ st.asked
granted_asked false c seen t own st = refl
granted_asked true c seen t own st = refl

by_reading : (r : Result Seen Cause) (p : ℕ → Bool) (c : Config) (own : List ℕ) (st : SessionState) (ts : List ℕ)
    → Bound p ts st.asked
    → Bound p (taken_if (outcome_of_reading c r own st) st.now ++ ts) (after_reading c r own st).asked
by_reading (Err cause) p c own st ts h = h
by_reading (Ok seen) p c own st ts h =
    let t = taker_in seen st in
    let e = ap (all_few p) (granted_asked (is_looked_at t st) c seen t own (asked_for t st)) in
    let f = by_taker t p c seen own st ts h in
    fits (count_by p (taken_if (outcome_of_reading c (Ok seen) own st) st.now ++ ts))
    (all_few p (after_reading c (Ok seen) own st).asked) (all_few p (asked_for t st).asked) f e
  where
    fits : (a b c : ℕ) → a ≤ c → b ≡ c → a ≤ b
    fits a b c h e = omega arith

bound : (p : ℕ → Bool) (c : Config) (past : List SessionEntry) → Bound p (times_taken c past) (session_run c past).asked
bound p c [] = omega arith
bound p c (Datagram bytes now ∷ past) =
    by_reading (seen_in c.params bytes) p c (renamed bytes) (at now (session_run c past)) (times_taken c past)
    (bound p c past)
bound p c (DatagramOf only bytes now ∷ past) =
    by_reading (seen_of_one c only bytes) p c (renamed bytes) (at now (session_run c past)) (times_taken c past)
    (bound p c past)
bound p c (Turn now ∷ past) = bound p c past
bound p c (Asked round_trip now ∷ past) = bound p c past
bound p c (Ended source now ∷ past) = bound p c past
bound p c (Anew now ∷ past) = bound p c past

pub few_taken : NeverMore → (c : Config) (past : List SessionEntry) (second : ℕ)
    → count_by (λ time. eqb (time / 1000000000) second) (times_taken c past) ≤ 36000
few_taken law c past second =
    let a = (session_run c past).asked in
    let b = bound (in_second second) c past in
    let x = law 12000 second a.followed in
    let y = law 12000 second a.former in
    let z = law 12000 second a.others in
    omega (arith, b, x, y, z)
