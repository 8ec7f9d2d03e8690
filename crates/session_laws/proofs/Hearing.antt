-- Of enough packets in a row one is heard, or one begins its run anew.
use Rattle.std.proofs.Common.{◌≡◌, ℕ, suc, ◌+◌, ◌-◌, ◌<◌, ◌≤◌, min, Bool, true, false, cond, eqb, leb, ltb, List, [], ◌∷◌, length, refl, ap, sym, arith, subst, ◌∙◌}
use Rattle.std.proofs.lemmas.Bool.{le-leb, le-ltb, leb-false, ne_eqb}
use Rattle.h263_bits.specs.declared.fault.Fault.{Fault}
use Rattle.call_model.specs.Receiving as receiving
use Rattle.receiver_end.specs.State.{answer_after, plays_alone}
use Rattle.stream_choice.specs.declared.streams.Run.{Run}
use Rattle.stream_numbers.specs.declared.packet.Packet.{Packet}
use Rattle.session_runs.specs.declared.unheard.Unheard.{Unheard}
use Rattle.session_runs.specs.Unheard.{after_heard, is_lost}
use Rattle.session_runs.specs.Histories.{Ahead, Config, History, IsHeard, answer_in, history_begun, is_heard, must_begin, next_number_in, ready}
use Rattle.session_runs.specs.Lines.{line_of}
use Rattle.call_session.specs.Sessions.{SessionEntry, session_run}
use Rattle.session_laws.specs.Recovering.{NoneBegins, NoneIsHeard, PacketsInRow, after_row, first_time}
use Rattle.session_laws.proofs.Reaching.{line_fine, lines_fine}

-- ---- how many were not heard, and since when

-- so many, the first of them no later than then
record Unheards (u : Unheard) (count then : ℕ) : Type 0 where
  packets : min count 4294967295 ≤ u.packets
  since : u.since ≤ then

ready_same : (b : Bool) (reference now : ℕ) (h : History) → b ≡ false → cond b (history_begun reference now) h ≡ h
ready_same true reference now h e = absurd cc
ready_same false reference now h e = refl

since_first : (b : Bool) (now since : ℕ) → since ≤ now → cond b now since ≤ now
since_first true now since i = omega arith
since_first false now since i = i

since_next : (b : Bool) (now since then : ℕ) → b ≡ false → since ≤ then → cond b now since ≤ then
since_next true now since then e i = absurd cc
since_next false now since then e i = i

unheard_as : (a b : Bool) (now : ℕ) (u v : Unheard) → a ≡ b → u ≡ v → after_heard a now u ≡ after_heard b now v
unheard_as a b now u v e f = ap (λ (x : Bool). after_heard x now u) e ∙ ap (after_heard b now) f

-- with one more that is neither heard nor begins it anew
one_more : (c : Config) (h : History) (p : Packet × List ℕ × ℕ) (ps : PacketsInRow) → NoneIsHeard c h (p ∷ ps)
    → NoneBegins c h (p ∷ ps)
    → (after_row c h (p ∷ ps)).unheard ≡ after_heard false p.2 (after_row c h ps).unheard
one_more c h p ps n b =
    unheard_as (is_heard (answer_in c p.0 p.1 p.2 (ready c p.0.reference p.2 (after_row c h ps)))) false p.2
    (ready c p.0.reference p.2 (after_row c h ps)).unheard (after_row c h ps).unheard n.0
    (ap (λ (x : History). x.unheard)
    (ready_same (must_begin c p.2 (after_row c h ps)) p.0.reference p.2 (after_row c h ps) b.0))

first_more : (u : Unheard) (now : ℕ) → u.since ≤ now → Unheards (after_heard false now u) 1 now
first_more u now i =
    record { packets = omega arith; since = since_first (eqb u.packets 0) now u.since i }

next_more : (u : Unheard) (now count then : ℕ) → 1 ≤ count → Unheards u count then
    → Unheards (after_heard false now u) (suc count) then
next_more u now count then i x =
    let packets = x.packets in
    record {
      packets = grown count u.packets packets;
      since = since_next (eqb u.packets 0) now u.since then
          (ne_eqb u.packets 0 (λ e. none count u.packets i packets e)) x.since;
    }
  where
    grown : (n k : ℕ) → min n 4294967295 ≤ k → min (suc n) 4294967295 ≤ min (k + 1) 4294967295
    grown n k h = omega arith

    none : (n k : ℕ) → 1 ≤ n → min n 4294967295 ≤ k → k ≡ 0 → ⊥
    none n k i h e = omega arith

counted : (c : Config) (h : History) (p : Packet × List ℕ × ℕ) (ps : PacketsInRow) → h.unheard.since ≤ first_time p.2 ps
    → NoneIsHeard c h (p ∷ ps) → NoneBegins c h (p ∷ ps)
    → Unheards (after_row c h (p ∷ ps)).unheard (length (p ∷ ps)) (first_time p.2 ps)
counted c h p [] i n b =
    subst (λ (u : Unheard). Unheards u 1 p.2) (sym (one_more c h p [] n b)) (first_more h.unheard p.2 i)
counted c h p (q ∷ qs) i n b =
    let k = counted c h q qs i n.1 b.1 in
    let u = (after_row c h (q ∷ qs)).unheard in
    let m = next_more u p.2 (length (q ∷ qs)) (first_time q.2 qs) (some (length qs)) k in
    subst (λ (v : Unheard). Unheards v (length (p ∷ q ∷ qs)) (first_time q.2 qs)) (sym (one_more c h p (q ∷ qs) n b)) m
  where
    some : (n : ℕ) → 1 ≤ suc n
    some n = omega arith

-- ---- then one begins

lost_if : (b : Bool) (now : ℕ) (u : Unheard) → 30 ≤ u.packets
    → cond b true (cond (leb 30 u.packets) (leb 1000000000 (now - u.since)) false) ≡ false
    → now - u.since < 1000000000
lost_if true now u i e = absurd cc
lost_if false now u i e =
    leb-false 1000000000 (now - u.since)
    (sym (ap (λ (b : Bool). cond b (leb 1000000000 (now - u.since)) false) (le-leb 30 u.packets i)) ∙ e)

must_not : (b : Bool) (now : ℕ) (u : Unheard) → cond b true (is_lost now u) ≡ false → is_lost now u ≡ false
must_not true now u e = absurd cc
must_not false now u e = e

soon : (c : Config) (h : History) (p : Packet × List ℕ × ℕ) (ps : PacketsInRow) → h.unheard.since ≤ first_time p.2 ps
    → NoneIsHeard c h (p ∷ ps) → NoneBegins c h (p ∷ ps) → 30 ≤ length ps → p.2 < first_time p.2 ps + 1000000000
soon c h p [] i n b l = omega arith
soon c h p (q ∷ qs) i n b l =
    let k = counted c h q qs i n.1 b.1 in
    let u = (after_row c h (q ∷ qs)).unheard in
    let packets = k.packets in
    let since = k.since in
    let many : 30 ≤ u.packets = enough (length (q ∷ qs)) u.packets l packets in
    let short = lost_if (ltb 30000000000 (p.2 - u.last)) p.2 u many
    (must_not (leb 1048576 (next_number_in c (after_row c h (q ∷ qs)))) p.2 u b.0) in
    below p.2 u.since (first_time q.2 qs) short since
  where
    enough : (n k : ℕ) → 30 ≤ n → min n 4294967295 ≤ k → 30 ≤ k
    enough n k h i = omega arith

    below : (now since first : ℕ) → now - since < 1000000000 → since ≤ first → now < first + 1000000000
    below now since first h i = omega arith

-- ---- and it is answered

answered : (a b : Bool) (n : ℕ) (x y : receiving.Heard Fault) → a ≡ false → b ≡ false
    → cond a (Ahead n) (cond b (IsHeard x) (IsHeard y)) ≡ IsHeard y
answered true b n x y e f = absurd cc
answered false true n x y e f = absurd cc
answered false false n x y e f = refl

pub begins : (c : Config) (packet : Packet) (bytes : List ℕ) (now : ℕ) → 2 ≤ c.lead
    → answer_in c packet bytes now (history_begun packet.reference now)
    ≡ IsHeard (answer_after c.params (plays_alone (packet.reference - 2)) bytes)
begins c packet bytes now i =
    answered (ltb (packet.reference - 2 + c.lead) packet.reference) (ltb packet.reference (packet.reference - 2))
    packet.reference receiving.Late (answer_after c.params (plays_alone (packet.reference - 2)) bytes)
    (le-ltb (packet.reference - 2 + c.lead) packet.reference (omega arith))
    (le-ltb packet.reference (packet.reference - 2) (omega arith))

pub heard_again : (c : Config) (past : List SessionEntry) (run : Run) (p : Packet × List ℕ × ℕ) (ps : PacketsInRow)
    → (session_run c past).now ≤ first_time p.2 ps
    → NoneIsHeard c (line_of run (session_run c past).follows.lines) (p ∷ ps)
    → NoneBegins c (line_of run (session_run c past).follows.lines) (p ∷ ps)
    → 30 ≤ length ps
    → p.2 < first_time p.2 ps + 1000000000
heard_again c past run p ps i n b l =
    let st = session_run c past in
    let h = line_of run st.follows.lines in
    let since = (line_fine run c st.now st.follows.lines (lines_fine c past)).since in
    soon c h p ps (over h.unheard.since st.now (first_time p.2 ps) since i) n b l
  where
    over : (a b n : ℕ) → a ≤ b → b ≤ n → a ≤ n
    over a b n h i = omega arith
