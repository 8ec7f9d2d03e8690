-- A stream that is followed, with what others send and without.
use Rattle.std.proofs.Common.{◌≡◌, ℕ, ◌<◌, ◌≤◌, Bool, true, false, cond, eqb, List, [], ◌∷◌, ◌++◌, Option, Result, Ok, Err, refl, ap, sym, arith, subst, ◌∙◌}
use Rattle.rtp_source.specs.Source.{renamed}
use Rattle.stream_choice.specs.declared.stream.Stream.{Stream}
use Rattle.stream_choice.specs.declared.streams.Taker.{Taker}
use Rattle.stream_choice.specs.Choice.{is_of}
use Rattle.session_intake.specs.declared.seen.Seen.{Seen}
use Rattle.session_intake.specs.declared.seen.Cause.{Cause}
use Rattle.session_intake.specs.Datagrams.{seen_in}
use Rattle.session_runs.specs.Histories.{Config}
use Rattle.call_session.specs.Sessions.{Anew, Asked, Datagram, DatagramOf, Ended, SessionEntry, SessionState, Turn, after_grant, after_reading, asked_for, at, is_looked_at, outcome_of_reading, seen_of_one, session_run, taker_in, session_time}
use Rattle.session_laws.specs.Undisturbed.{Followed, InOrder, ComesBeside, Said, StaysLive, followed_in, is_from, is_from_other, newest_time, own_of, said_of_stream, said_of_packet, said_with}
use Rattle.session_laws.proofs.Others.{by_others}
use Rattle.session_laws.proofs.Own as own

-- ---- the clock

granted_now : (g : Bool) (c : Config) (seen : Seen) (t : Taker) (bytes : List ℕ) (st : SessionState)
    → (after_grant c seen t bytes g (asked_for t st)).now ≡ st.now
granted_now false c seen t bytes st = refl
granted_now true c seen t bytes st = refl

reading_now : (r : Result Seen Cause) (c : Config) (bytes : List ℕ) (st : SessionState)
    → (after_reading c r bytes st).now
    ≡ st.now
reading_now (Err cause) c bytes st = refl
reading_now (Ok seen) c bytes st =
    granted_now (is_looked_at (taker_in seen st) st) c seen (taker_in seen st) bytes st

-- it stands at the time of an entry that is no earlier than those before
pub set_to : (last newest now : ℕ) → last ≤ newest → newest ≤ now → now < 4611686018427387904
    → session_time last now ≡ now
set_to last newest now h i j = omega arith

to_most : (a b n : ℕ) → a ≡ b → b ≡ n → a ≤ n
to_most a b n e f = omega arith

with_reading : (r : Result Seen Cause) (c : Config) (bytes : List ℕ) (now newest : ℕ) (st : SessionState)
    → st.now ≤ newest
    → newest ≤ now → now < 4611686018427387904 → (after_reading c r bytes (at now st)).now ≤ now
with_reading r c bytes now newest st h i j =
    to_most (after_reading c r bytes (at now st)).now (session_time st.now now) now
    (reading_now r c bytes (at now st)) (set_to st.now newest now h i j)

at_most : (last newest now : ℕ) → last ≤ newest → newest ≤ now → now < 4611686018427387904 → session_time last now ≤ now
at_most last newest now h i j = omega arith

pub reached : (c : Config) (past : List SessionEntry) → InOrder past → (session_run c past).now ≤ newest_time past
reached c [] o = omega arith
reached c (Datagram bytes now ∷ past) o =
    with_reading (seen_in c.params bytes) c (renamed bytes) now (newest_time past) (session_run c past)
    (reached c past o.2) o.0 o.1
reached c (DatagramOf only bytes now ∷ past) o =
    with_reading (seen_of_one c only bytes) c (renamed bytes) now (newest_time past) (session_run c past)
    (reached c past o.2) o.0 o.1
reached c (Turn now ∷ past) o =
    at_most (session_run c past).now (newest_time past) now (reached c past o.2) o.0 o.1
reached c (Asked round_trip now ∷ past) o =
    at_most (session_run c past).now (newest_time past) now (reached c past o.2) o.0 o.1
reached c (Ended source now ∷ past) o =
    at_most (session_run c past).now (newest_time past) now (reached c past o.2) o.0 o.1
reached c (Anew now ∷ past) o =
    at_most (session_run c past).now (newest_time past) now (reached c past o.2) o.0 o.1

-- ---- with and without

pub record Goes (c : Config) (source : ℕ) (before es owns : List SessionEntry) : Type 0 where
  pub said : said_of_stream c source before es ≡ said_of_stream c source before owns
  pub same : followed_in (session_run c (es ++ before)) ≡ followed_in (session_run c (owns ++ before))
  pub source_is : is_of (session_run c (es ++ before)).follows.streams.followed source ≡ true
  pub now : (session_run c (es ++ before)).now ≤ newest_time (es ++ before)
  pub own_now : (session_run c (owns ++ before)).now ≤ newest_time (es ++ before)

whose : (b : Bool) (c : Config) (source : ℕ) (before : List SessionEntry) (e : SessionEntry)
    (es owns : List SessionEntry)
    → (b ≡ true → Goes c source before (e ∷ es) (e ∷ owns)) → (b ≡ false → Goes c source before (e ∷ es) owns)
    → Goes c source before (e ∷ es) (cond b (e ∷ owns) owns)
whose true c source before e es owns f g = f refl
whose false c source before e es owns f g = g refl

same_after : (r : Result Seen Cause) (c : Config) (source : ℕ) (bytes : List ℕ) (now : ℕ) (a b : SessionState)
    → is_from source r ≡ true → a.now ≡ now → b.now ≡ now → followed_in a ≡ followed_in b
    → is_of a.follows.streams.followed source ≡ true
    → followed_in (after_reading c r bytes a) ≡ followed_in (after_reading c r bytes b)
same_after r c source bytes now a b e f g same h =
    own.by_own r c source bytes a e h
    ∙ ap (λ (n : ℕ). own.after r c bytes n (followed_in a)) (f ∙ sym g)
    ∙ ap (own.after r c bytes b.now) same
    ∙ sym (own.by_own r c source bytes b e (sym (ap (λ (v : Followed). is_of v.stream source) same) ∙ h))

same_outcome : (r : Result Seen Cause) (c : Config) (source : ℕ) (bytes : List ℕ) (now : ℕ) (a b : SessionState)
    → is_from source r ≡ true → a.now ≡ now → b.now ≡ now → followed_in a ≡ followed_in b
    → is_of a.follows.streams.followed source ≡ true
    → outcome_of_reading c r bytes a ≡ outcome_of_reading c r bytes b
same_outcome r c source bytes now a b e f g same h =
    own.outcome_own r c source bytes a e h
    ∙ ap (λ (n : ℕ). own.outcome r c bytes n (followed_in a)) (f ∙ sym g)
    ∙ ap (own.outcome r c bytes b.now) same
    ∙ sym (own.outcome_own r c source bytes b e (sym (ap (λ (v : Followed). is_of v.stream source) same) ∙ h))

source_after : (r : Result Seen Cause) (c : Config) (source : ℕ) (bytes : List ℕ) (a : SessionState)
    → is_from source r ≡ true
    → is_of a.follows.streams.followed source ≡ true
    → is_of (after_reading c r bytes a).follows.streams.followed source ≡ true
source_after r c source bytes a e h =
    ap (λ (v : Followed). is_of v.stream source) (own.by_own r c source bytes a e h)
    ∙ own.of_after r c bytes a.now source (followed_in a) ∙ h

said_both : (x y : List Said) (a b : List Said) → x ≡ y → a ≡ b → x ++ a ≡ y ++ b
said_both x y a b e f = ap (λ (l : List Said). l ++ a) e ∙ ap (λ (l : List Said). y ++ l) f

-- what a packet of it gives, at this time, after what came with others' and without
record OwnGoes (r : Result Seen Cause) (c : Config) (source : ℕ) (bytes : List ℕ) (now : ℕ) (a b : SessionState)
    (x y : List Said) : Type 0 where
  said : said_of_packet (is_from source r) (outcome_of_reading c r bytes (at now a)) ++ x
      ≡ said_of_packet (is_from source r) (outcome_of_reading c r bytes (at now b)) ++ y
  same : followed_in (after_reading c r bytes (at now a)) ≡ followed_in (after_reading c r bytes (at now b))
  source_is : is_of (after_reading c r bytes (at now a)).follows.streams.followed source ≡ true
  then : (after_reading c r bytes (at now a)).now ≤ now
  own_then : (after_reading c r bytes (at now b)).now ≤ now

own_goes : (r : Result Seen Cause) (c : Config) (source : ℕ) (bytes : List ℕ) (now : ℕ)
    (before es owns : List SessionEntry)
    → newest_time (es ++ before) ≤ now → now < 4611686018427387904
    → Goes c source before es owns → is_from source r ≡ true
    → OwnGoes r c source bytes now (session_run c (es ++ before)) (session_run c (owns ++ before))
    (said_of_stream c source before es) (said_of_stream c source before owns)
own_goes r c source bytes now before es owns i j k e =
    let a = session_run c (es ++ before) in
    let b = session_run c (owns ++ before) in
    let f = set_to a.now (newest_time (es ++ before)) now k.now i j in
    let g = set_to b.now (newest_time (es ++ before)) now k.own_now i j in
    record {
      said = said_both (said_of_packet (is_from source r) (outcome_of_reading c r bytes (at now a)))
          (said_of_packet (is_from source r) (outcome_of_reading c r bytes (at now b)))
          (said_of_stream c source before es) (said_of_stream c source before owns)
          (ap (said_of_packet (is_from source r))
          (same_outcome r c source bytes now (at now a) (at now b) e f g k.same k.source_is)) k.said;
      same = same_after r c source bytes now (at now a) (at now b) e f g k.same k.source_is;
      source_is = source_after r c source bytes (at now a) e k.source_is;
      then = with_reading r c bytes now (newest_time (es ++ before)) a k.now i j;
      own_then = with_reading r c bytes now (newest_time (es ++ before)) b k.own_now i j;
    }

beside_at : (r : Result Seen Cause) (n m : ℕ) (o p former : Option Stream) → n ≡ m → o ≡ p → ComesBeside r n o former
    → ComesBeside r m p former
beside_at r n m o p former e f x =
    subst (λ (k : ℕ). ComesBeside r k p former) e (subst (λ (q : Option Stream). ComesBeside r n q former) f x)

le_later : (a b n : ℕ) → a ≤ b → b ≤ n → a ≤ n
le_later a b n h i = omega arith

-- and one of others
record OthersGo (r : Result Seen Cause) (c : Config) (source : ℕ) (bytes : List ℕ) (now : ℕ) (a b : SessionState)
    (x y : List Said) : Type 0 where
  said : said_of_packet (is_from source r) (outcome_of_reading c r bytes (at now a)) ++ x ≡ y
  same : followed_in (after_reading c r bytes (at now a)) ≡ followed_in b
  source_is : is_of (after_reading c r bytes (at now a)).follows.streams.followed source ≡ true
  then : (after_reading c r bytes (at now a)).now ≤ now
  own_then : b.now ≤ now

others_go : (r : Result Seen Cause) (c : Config) (source : ℕ) (bytes : List ℕ) (now : ℕ)
    (before es owns : List SessionEntry)
    → newest_time (es ++ before) ≤ now → now < 4611686018427387904
    → (is_from_other source r ≡ true
    → ComesBeside r now (session_run c (owns ++ before)).follows.streams.followed
    (session_run c (es ++ before)).follows.streams.former)
    → Goes c source before es owns → is_from source r ≡ false
    → OthersGo r c source bytes now (session_run c (es ++ before)) (session_run c (owns ++ before))
    (said_of_stream c source before es) (said_of_stream c source before owns)
others_go r c source bytes now before es owns i j x k e =
    let a = session_run c (es ++ before) in
    let b = session_run c (owns ++ before) in
    let f = set_to a.now (newest_time (es ++ before)) now k.now i j in
    let left = by_others r c source bytes (at now a) e k.source_is (λ y.
    beside_at r now (session_time a.now now) b.follows.streams.followed a.follows.streams.followed
    a.follows.streams.former
    (sym f) (sym (ap (λ (v : Followed). v.stream) k.same)) (x y)) in
    record {
      said = ap (λ (y : Bool). said_of_packet y (outcome_of_reading c r bytes (at now a))
          ++ said_of_stream c source before es) e
          ∙ k.said;
      same = left ∙ k.same;
      source_is = ap (λ (v : Followed). is_of v.stream source) left ∙ k.source_is;
      then = with_reading r c bytes now (newest_time (es ++ before)) a k.now i j;
      own_then = le_later b.now (newest_time (es ++ before)) now k.own_now i;
    }

turn : (c : Config) (source : ℕ) (before : List SessionEntry) (now : ℕ) (es owns : List SessionEntry)
    → newest_time (es ++ before) ≤ now → now < 4611686018427387904
    → Goes c source before es owns
    → Goes c source before (Turn now ∷ es) (Turn now ∷ owns)
turn c source before now es owns i j k =
    let a = session_run c (es ++ before) in
    let b = session_run c (owns ++ before) in
    let f = set_to a.now (newest_time (es ++ before)) now k.now i j in
    let g = set_to b.now (newest_time (es ++ before)) now k.own_now i j in
    record {
      said = said_both (said_with c source (Turn now) a) (said_with c source (Turn now) b)
          (said_of_stream c source before es) (said_of_stream c source before owns)
          (own.said_at_turn c (at now a)
          ∙ ap (λ (n : ℕ). own.said c n (followed_in a)) (f ∙ sym g)
          ∙ ap (own.said c (session_time b.now now)) k.same
          ∙ sym (own.said_at_turn c (at now b))) k.said;
      same = own.by_turn c (at now a)
          ∙ ap (λ (n : ℕ). own.after_turn c n (followed_in a)) (f ∙ sym g)
          ∙ ap (own.after_turn c (session_time b.now now)) k.same
          ∙ sym (own.by_turn c (at now b));
      source_is = ap (λ (v : Followed). is_of v.stream source) (own.by_turn c (at now a))
          ∙ ap (λ (o : Option Stream). is_of o source) (own.of_turn c (session_time a.now now) (followed_in a))
          ∙ k.source_is;
      now = to_most (session_time a.now now) now now f refl;
      own_now = to_most (session_time b.now now) now now g refl;
    }

asked : (c : Config) (source : ℕ) (before : List SessionEntry) (round_trip now : ℕ) (es owns : List SessionEntry)
    → newest_time (es ++ before) ≤ now → now < 4611686018427387904
    → Goes c source before es owns
    → Goes c source before (Asked round_trip now ∷ es) (Asked round_trip now ∷ owns)
asked c source before round_trip now es owns i j k =
    let a = session_run c (es ++ before) in
    let b = session_run c (owns ++ before) in
    let f = set_to a.now (newest_time (es ++ before)) now k.now i j in
    let g = set_to b.now (newest_time (es ++ before)) now k.own_now i j in
    record {
      said = said_both (said_with c source (Asked round_trip now) a) (said_with c source (Asked round_trip now) b)
          (said_of_stream c source before es) (said_of_stream c source before owns)
          (own.said_at_asked c round_trip (at now a)
          ∙ ap (λ (n : ℕ). own.asked c round_trip n (followed_in a)) (f ∙ sym g)
          ∙ ap (own.asked c round_trip (session_time b.now now)) k.same
          ∙ sym (own.said_at_asked c round_trip (at now b))) k.said;
      same = own.by_asked c round_trip (at now a)
          ∙ ap (λ (n : ℕ). own.after_asked c round_trip n (followed_in a)) (f ∙ sym g)
          ∙ ap (own.after_asked c round_trip (session_time b.now now)) k.same
          ∙ sym (own.by_asked c round_trip (at now b));
      source_is = k.source_is;
      now = to_most (session_time a.now now) now now f refl;
      own_now = to_most (session_time b.now now) now now g refl;
    }

own_end : (c : Config) (source : ℕ) (before : List SessionEntry) (other now : ℕ) (es owns : List SessionEntry)
    → newest_time (es ++ before) ≤ now → now < 4611686018427387904
    → Goes c source before es owns
    → Goes c source before (Ended other now ∷ es) (Ended other now ∷ owns)
own_end c source before other now es owns i j k =
    let a = session_run c (es ++ before) in
    let b = session_run c (owns ++ before) in
    let f = set_to a.now (newest_time (es ++ before)) now k.now i j in
    let g = set_to b.now (newest_time (es ++ before)) now k.own_now i j in
    record {
      said = k.said;
      same = own.by_end other (at now a)
          ∙ ap (λ (n : ℕ). own.after_end other n (followed_in a)) (f ∙ sym g)
          ∙ ap (own.after_end other (session_time b.now now)) k.same
          ∙ sym (own.by_end other (at now b));
      source_is = own.of_end a.follows.streams.followed other (session_time a.now now) source ∙ k.source_is;
      now = to_most (session_time a.now now) now now f refl;
      own_now = to_most (session_time b.now now) now now g refl;
    }

others_end : (c : Config) (source : ℕ) (before : List SessionEntry) (other now : ℕ) (es owns : List SessionEntry)
    → newest_time (es ++ before) ≤ now → now < 4611686018427387904
    → Goes c source before es owns → eqb other source ≡ false
    → Goes c source before (Ended other now ∷ es) owns
others_end c source before other now es owns i j k e =
    let a = session_run c (es ++ before) in
    let b = session_run c (owns ++ before) in
    let left = own.left_by_end a.follows.streams.followed other (session_time a.now now) source k.source_is e in
    record {
      said = k.said;
      same = ap (λ (o : Option Stream). let v : Followed = record {
        stream = o;
        line = a.follows.lines.followed;
        asked = a.asked.followed;
        exact = a.counts.exact;
        patched = a.counts.patched;
        held = a.counts.held;
      } in v) left ∙ k.same;
      source_is = ap (λ (o : Option Stream). is_of o source) left ∙ k.source_is;
      now = at_most a.now (newest_time (es ++ before)) now k.now i j;
      own_now = le_later b.now (newest_time (es ++ before)) now k.own_now i;
    }

pub goes : (c : Config) (source : ℕ) (before es : List SessionEntry)
    → is_of (session_run c before).follows.streams.followed source ≡ true
    → InOrder (es ++ before) → StaysLive c source before es → Goes c source before es (own_of c source es)
goes c source before [] h o s =
    record {
      said = refl;
      same = refl;
      source_is = h;
      now = reached c before o;
      own_now = reached c before o;
    }
goes c source before (Turn now ∷ es) h o s =
    turn c source before now es (own_of c source es) o.0 o.1 (goes c source before es h o.2 s)
goes c source before (Asked round_trip now ∷ es) h o s =
    asked c source before round_trip now es (own_of c source es) o.0 o.1 (goes c source before es h o.2 s)
goes c source before (Ended other now ∷ es) h o s =
    let k = goes c source before es h o.2 s in
    whose (eqb other source) c source before (Ended other now) es (own_of c source es)
    (λ e. own_end c source before other now es (own_of c source es) o.0 o.1 k)
    (others_end c source before other now es (own_of c source es) o.0 o.1 k)
goes c source before (Anew now ∷ es) h o s = absurd s
goes c source before (Datagram bytes now ∷ es) h o s =
    let k = goes c source before es h o.2 s.1 in
    let r = seen_in c.params bytes in
    whose (is_from source r) c source before (Datagram bytes now) es (own_of c source es)
    (λ e. let g = own_goes r c source (renamed bytes) now before es (own_of c source es) o.0 o.1 k e in
    record { said = g.said; same = g.same; source_is = g.source_is; now = g.then; own_now = g.own_then })
    (λ e. let g = others_go r c source (renamed bytes) now before es (own_of c source es) o.0 o.1 s.0 k e in
    record { said = g.said; same = g.same; source_is = g.source_is; now = g.then; own_now = g.own_then })
goes c source before (DatagramOf only bytes now ∷ es) h o s =
    let k = goes c source before es h o.2 s.1 in
    let r = seen_of_one c only bytes in
    whose (is_from source r) c source before (DatagramOf only bytes now) es (own_of c source es)
    (λ e. let g = own_goes r c source (renamed bytes) now before es (own_of c source es) o.0 o.1 k e in
    record { said = g.said; same = g.same; source_is = g.source_is; now = g.then; own_now = g.own_then })
    (λ e. let g = others_go r c source (renamed bytes) now before es (own_of c source es) o.0 o.1 s.0 k e in
    record { said = g.said; same = g.same; source_is = g.source_is; now = g.then; own_now = g.own_then })

pub undisturbed : (c : Config) (source : ℕ) (before es : List SessionEntry)
    → is_of (session_run c before).follows.streams.followed source ≡ true
    → InOrder (es ++ before) → StaysLive c source before es
    → (said_of_stream c source before es ≡ said_of_stream c source before (own_of c source es))
    × (followed_in (session_run c (es ++ before)) ≡ followed_in (session_run c (own_of c source es ++ before)))
    × (is_of (session_run c (es ++ before)).follows.streams.followed source ≡ true)
undisturbed c source before es h o s =
    let k = goes c source before es h o s in
    (k.said, k.same, k.source_is)
