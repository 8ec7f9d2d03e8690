-- A stream is taken again, and followed again.
use Rattle.std.proofs.Common.{◌≡◌, ℕ, ◌+◌, ◌-◌, ◌≤◌, ◌⊎◌, not, Bool, true, false, cond, eqb, ltb, List, [], ◌∷◌, ◌++◌, Option, Some, None, Result, Ok, Err, refl, ap, sym, arith, subst, ◌∙◌, inl, inr, ⊎_elim}
use Rattle.std.specs.Prelude.{MatchOption}
use Rattle.std.specs.Option.{option_map}
use Rattle.std.proofs.lemmas.Bool.{eq-eqb, eqb-true, le-ltb, not-false, true≢false}
use Rattle.rtp_source.specs.Source.{renamed}
use Rattle.stream_choice.specs.declared.stream.Stream.{Stream}
use Rattle.stream_choice.specs.declared.trial.Trial.{Trial}
use Rattle.stream_choice.specs.declared.streams.Streams.{Streams}
use Rattle.stream_choice.specs.declared.streams.Run.{Run}
use Rattle.stream_choice.specs.declared.streams.Run.TheVariants as runs
use Rattle.stream_choice.specs.declared.streams.Taker.{Taker}
use Rattle.stream_choice.specs.declared.streams.Taker.TheVariants as takers
use Rattle.stream_choice.specs.Choice as choice
use Rattle.stream_choice.specs.Laws as streams
use Rattle.session_intake.specs.Datagrams.{seen_in}
use Rattle.session_intake.specs.declared.seen.Seen.{Seen}
use Rattle.session_intake.specs.declared.seen.Cause.{Cause}
use Rattle.session_intake.specs.declared.seen.Cause.TheVariants as causes
use Rattle.session_runs.specs.Histories.{Config, history_after_packet, answer_in, answer_completes}
use Rattle.session_runs.specs.Lines.{Lines, line_of, made_ready, taker_run, lines_with}
use Rattle.session_runs.specs.Following.{Follows, after_run, completed_if}
use Rattle.call_session.specs.Sessions as session
use Rattle.session_laws.specs.Undisturbed.{InOrder, is_from, is_from_other, newest_time}
use Rattle.session_laws.specs.Recovering.{IsAlone, NoneTaken, completes_picture, is_taken}
use Rattle.session_laws.proofs.Apart.{reached, set_to}
use Rattle.session_laws.proofs.Marking.{Each, Keeps, Shows, by_taker, complete_if, noted_by, shows, source_if}

-- ---- the streams after a packet

abbrev pub completes_by : Config → Option Run → Seen → List ℕ → ℕ → Lines → Bool
completes_by c None seen own now l = false
completes_by c (Some run) seen own now l = answer_completes (answer_in c seen.packet own now (line_of run l))

completed : (k : Bool) (run : Run) (now : ℕ) (f : Follows)
    → (completed_if k run now f).streams ≡ complete_if k (Some run) now f.streams
completed false run now f = refl
completed true run now f = refl

run_streams : (o : Option Run) (c : Config) (seen : Seen) (own : List ℕ) (now : ℕ) (f : Follows)
    → (after_run c o seen.packet own now f).streams
    ≡ complete_if (completes_by c o seen own now f.lines) o now f.streams
run_streams None c seen own now f = refl
run_streams (Some run) c seen own now f =
    completed (completes_by c (Some run) seen own now f.lines) run now (record {
      streams = f.streams;
      lines = lines_with run (history_after_packet c seen.packet own now (line_of run f.lines)) f.lines;
    })

abbrev pub lines_for : Config → Seen → Taker → session.SessionState → Lines
lines_for c seen t st = made_ready c t seen.packet.reference st.now st.follows.lines

-- with the taker that the streams give
abbrev pub streams_by : Bool → Config → Seen → Taker → List ℕ → session.SessionState → Streams
streams_by true c seen t own st =
    complete_if (completes_by c (taker_run t) seen own st.now (lines_for c seen t st)) (taker_run t) st.now
    (noted_by t seen.source st.now st.follows.streams)
streams_by false c seen t own st = st.follows.streams

pub seen_streams : (g : Bool) (c : Config) (seen : Seen) (own : List ℕ) (st : session.SessionState)
    → let t = session.taker_in seen st in
    (session.after_grant c seen t own g (session.asked_for t st)).follows.streams ≡ streams_by g c seen t own st
seen_streams false c seen own st = refl
seen_streams true c seen own st =
    let t = session.taker_in seen st in
    run_streams (taker_run t) c seen own st.now (record {
      streams = choice.streams_after_packet st.follows.streams seen.source st.now;
      lines = lines_for c seen t st;
    })

pub shows_in : (seen : Seen) (st : session.SessionState) → let s = st.follows.streams in
    Shows (choice.is_of s.followed seen.source) (choice.is_of s.former seen.source)
    (choice.is_tried s.tried seen.source st.now) (session.taker_in seen st)
shows_in seen st =
    let s = st.follows.streams in
    shows (choice.is_of s.followed seen.source) (choice.is_of s.former seen.source)
    (choice.is_tried s.tried seen.source st.now)
    (choice.is_live_one s.followed st.now)
    (choice.may_begin s.tried seen.source st.now)

module _ {P : Stream → Type 0} {Q : Trial → Type 0} where
  granted_each : (g : Bool) (c : Config) (seen : Seen) (own : List ℕ) (st : session.SessionState) (t : Taker)
      → Shows (choice.is_of st.follows.streams.followed seen.source)
      (choice.is_of st.follows.streams.former seen.source)
      (choice.is_tried st.follows.streams.tried seen.source st.now) t
      → Keeps P Q seen.source st.now → Each P Q st.follows.streams → Each P Q (streams_by g c seen t own st)
  granted_each false c seen own st t e k x = x
  granted_each true c seen own st t e k x =
      by_taker t (completes_by c (taker_run t) seen own st.now (lines_for c seen t st)) seen.source st.now
      st.follows.streams k e x

  reading_each : (r : Result Seen Cause) (c : Config) (own : List ℕ) (st : session.SessionState)
      → ((seen : Seen) → r ≡ Ok seen → Keeps P Q seen.source st.now)
      → Each P Q st.follows.streams → Each P Q (session.after_reading c r own st).follows.streams
  reading_each (Err cause) c own st k x = x
  reading_each (Ok seen) c own st k x =
      let t = session.taker_in seen st in
      let g = session.is_looked_at t st in
      subst (λ (s : Streams). Each P Q s) (sym (seen_streams g c seen own st))
      (granted_each g c seen own st t (shows_in seen st) (k seen refl) x)

-- ---- ends

ended_if : (P : Stream → Type 0) (b : Bool) (now : ℕ) (f : Stream) → P f → P (choice.ended_at now f)
    → MatchOption (cond b (Some (choice.ended_at now f)) (Some f)) (Unit {0}) P
ended_if P true now f h e = e
ended_if P false now f h e = h

ended_one : (P : Stream → Type 0) (o : Option Stream) (source now : ℕ)
    → ((f : Stream) → P f → P (choice.ended_at now f))
    → MatchOption o (Unit {0}) P → MatchOption (choice.ended_if o source now) (Unit {0}) P
ended_one P None source now k h = tt
ended_one P (Some f) source now k h = ended_if P (eqb f.source source) now f h (k f h)

module _ {P : Stream → Type 0} {Q : Trial → Type 0} where
  ended_each : (st : Streams) (source now : ℕ) → ((f : Stream) → P f → P (choice.ended_at now f)) → Each P Q st
      → Each P Q (choice.after_end st source now)
  ended_each st source now k x =
      record { followed = ended_one P st.followed source now k x.followed; former = x.former; tried = x.tried }

pub played_streams : (o : Option Run) (c : Config) (st : session.SessionState)
    → (session.after_played c o st).follows.streams ≡ st.follows.streams
played_streams None c st = refl
played_streams (Some run) c st = refl

-- ---- nothing in it is of a later time

abbrev Last : ℕ → Stream → Type 0
Last now f = f.last ≤ now

abbrev Began : ℕ → Trial → Type 0
Began now t = t.began ≤ now

keeps_last : (source now : ℕ) → Keeps (Last now) (Began now) source now
keeps_last source now =
    record {
      counts = λ f e h. omega arith;
      first = λ s e. omega arith;
      begins = omega arith;
      touches = λ t h. h;
    }

last_later : (o : Option Stream) (then now : ℕ) → then ≤ now → MatchOption o (Unit {0}) (Last then)
    → MatchOption o (Unit {0}) (Last now)
last_later None then now i h = tt
last_later (Some f) then now i h = omega arith

began_later : (o : Option Trial) (then now : ℕ) → then ≤ now → MatchOption o (Unit {0}) (Began then)
    → MatchOption o (Unit {0}) (Began now)
began_later None then now i h = tt
began_later (Some t) then now i h = omega arith

each_later : (st : Streams) (then now : ℕ) → then ≤ now → Each (Last then) (Began then) st
    → Each (Last now) (Began now) st
each_later st then now i x =
    record {
      followed = last_later st.followed then now i x.followed;
      former = last_later st.former then now i x.former;
      tried = began_later st.tried then now i x.tried;
    }

ended_last : (then now : ℕ) (f : Stream) → Last then f → Last then (choice.ended_at now f)
ended_last then now f h = omega arith

all_past : (c : Config) (past : List session.SessionEntry) → InOrder past
    → Each (Last (newest_time past)) (Began (newest_time past)) (session.session_run c past).follows.streams
all_past c [] o = record { followed = tt; former = tt; tried = tt }
all_past c (session.Datagram bytes now ∷ past) o =
    let st = session.session_run c past in
    let e = set_to st.now (newest_time past) now (reached c past o.2) o.0 o.1 in
    reading_each (seen_in c.params bytes) c (renamed bytes) (session.at now st)
    (λ seen f. subst (λ (n : ℕ). Keeps (Last now) (Began now) seen.source n) (sym e) (keeps_last seen.source now))
    (each_later st.follows.streams (newest_time past) now o.0 (all_past c past o.2))
all_past c (session.DatagramOf only bytes now ∷ past) o =
    let st = session.session_run c past in
    let e = set_to st.now (newest_time past) now (reached c past o.2) o.0 o.1 in
    reading_each (session.seen_of_one c only bytes) c (renamed bytes) (session.at now st)
    (λ seen f. subst (λ (n : ℕ). Keeps (Last now) (Began now) seen.source n) (sym e) (keeps_last seen.source now))
    (each_later st.follows.streams (newest_time past) now o.0 (all_past c past o.2))
all_past c (session.Asked round_trip now ∷ past) o =
    let st = session.session_run c past in
    each_later st.follows.streams (newest_time past) now o.0 (all_past c past o.2)
all_past c (session.Ended source now ∷ past) o =
    let st = session.session_run c past in
    ended_each st.follows.streams source (session.session_time st.now now)
    (ended_last now (session.session_time st.now now))
    (each_later st.follows.streams (newest_time past) now o.0 (all_past c past o.2))
all_past c (session.Anew now ∷ past) o = record { followed = tt; former = tt; tried = tt }
all_past c (session.Turn now ∷ past) o =
    let st = session.session_run c past in
    subst (λ (s : Streams). Each (Last now) (Began now) s)
    (sym (played_streams (session.played_run c (session.at now st)) c (session.at now st)))
    (each_later st.follows.streams (newest_time past) now o.0 (all_past c past o.2))

-- ---- not shut out

quiet_by : (t : Taker) (g : Bool) (c : Config) (seen : Seen) (own : List ℕ) (st : session.SessionState)
    → is_taken (session.outcome_of_grant c seen t own g st) ≡ false
    → streams_by g c seen t own st ≡ st.follows.streams
quiet_by t false c seen own st e = refl
quiet_by takers.Followed true c seen own st e = absurd cc
quiet_by takers.Former true c seen own st e = absurd cc
quiet_by takers.Tried true c seen own st e = absurd cc
quiet_by takers.Begins true c seen own st e = absurd cc
quiet_by takers.NoRun true c seen own st e = refl

quiet : (r : Result Seen Cause) (c : Config) (own : List ℕ) (st : session.SessionState)
    → is_taken (session.outcome_of_reading c r own st) ≡ false
    → (session.after_reading c r own st).follows.streams ≡ st.follows.streams
quiet (Err cause) c own st e = refl
quiet (Ok seen) c own st e =
    let t = session.taker_in seen st in
    let g = session.is_looked_at t st in
    seen_streams g c seen own st ∙ quiet_by t g c seen own st e

quiet_each : (c : Config) (then : ℕ) (before es : List session.SessionEntry)
    → Each (Last then) (Began then) (session.session_run c before).follows.streams → NoneTaken c before es
    → Each (Last then) (Began then) (session.session_run c (es ++ before)).follows.streams
quiet_each c then before [] x q = x
quiet_each c then before (session.Datagram bytes now ∷ es) x q =
    subst (λ (s : Streams). Each (Last then) (Began then) s)
    (sym (quiet (seen_in c.params bytes) c (renamed bytes) (session.at now (session.session_run c (es ++ before))) q.0))
    (quiet_each c then before es x q.1)
quiet_each c then before (session.DatagramOf only bytes now ∷ es) x q =
    subst (λ (s : Streams). Each (Last then) (Began then) s)
    (sym (quiet (session.seen_of_one c only bytes) c (renamed bytes)
    (session.at now (session.session_run c (es ++ before))) q.0))
    (quiet_each c then before es x q.1)
quiet_each c then before (session.Turn now ∷ es) x q =
    let a = session.at now (session.session_run c (es ++ before)) in
    subst (λ (s : Streams). Each (Last then) (Began then) s) (sym (played_streams (session.played_run c a) c a))
    (quiet_each c then before es x q)
quiet_each c then before (session.Asked round_trip now ∷ es) x q = quiet_each c then before es x q
quiet_each c then before (session.Ended source now ∷ es) x q =
    let st = session.session_run c (es ++ before) in
    ended_each st.follows.streams source (session.session_time st.now now)
    (ended_last then (session.session_time st.now now))
    (quiet_each c then before es x q)
quiet_each c then before (session.Anew now ∷ es) x q = record { followed = tt; former = tt; tried = tt }

dropped_by : (t : Taker) (g : Bool) (c : Config) (seen : Seen) (own : List ℕ) (st : session.SessionState)
    → session.outcome_of_grant c seen t own g st ≡ session.Dropped causes.OtherStream → t ≡ takers.NoRun
dropped_by t false c seen own st e = absurd cc
dropped_by takers.Followed true c seen own st e = absurd cc
dropped_by takers.Former true c seen own st e = absurd cc
dropped_by takers.Tried true c seen own st e = absurd cc
dropped_by takers.Begins true c seen own st e = absurd cc
dropped_by takers.NoRun true c seen own st e = refl

not_live_past : (o : Option Stream) (then now : ℕ) → then + 1500000000 ≤ now → MatchOption o (Unit {0}) (Last then)
    → choice.is_live_one o now ≡ false
not_live_past None then now i h = refl
not_live_past (Some f) then now i h = le-ltb (now - f.last) 500000000 (omega arith)

began_past : (o : Option Trial) (then now : ℕ) → then + 1500000000 ≤ now → MatchOption o (Unit {0}) (Began then)
    → MatchOption o (Unit {0}) (λ t. t.began + 1500000000 ≤ now)
began_past None then now i h = tt
began_past (Some t) then now i h = omega arith

shut_by : streams.StreamsNeverShutOut → (r : Result Seen Cause) (c : Config) (source then now : ℕ) (own : List ℕ)
    (st : session.SessionState)
    → is_from source r ≡ true → st.now ≡ now → then + 1500000000 ≤ now
    → Each (Last then) (Began then) st.follows.streams
    → session.outcome_of_reading c r own st ≡ session.Dropped causes.OtherStream → ⊥
shut_by law (Err cause) c source then now own st f n i x e = true≢false (sym f)
shut_by law (Ok seen) c source then now own st f n i x e =
    let t = session.taker_in seen st in
    law st.follows.streams seen.source st.now
    (not_live_past st.follows.streams.followed then st.now (later now st.now then (sym n) i) x.followed)
    (began_past st.follows.streams.tried then st.now (later now st.now then (sym n) i) x.tried)
    (dropped_by t (session.is_looked_at t st) c seen own st e)
  where
    later : (a b then : ℕ) → a ≡ b → then + 1500000000 ≤ a → then + 1500000000 ≤ b
    later a b then e h = omega arith

order_of : (es before : List session.SessionEntry) → InOrder (es ++ before) → InOrder before
order_of [] before o = o
order_of (e ∷ es) before o = order_of es before o.2

pub never_shut_out : streams.StreamsNeverShutOut
    → (c : Config) (source : ℕ) (before es : List session.SessionEntry) (bytes : List ℕ) (now : ℕ)
    → InOrder (session.Datagram bytes now ∷ (es ++ before))
    → NoneTaken c before es
    → newest_time before + 1500000000 ≤ now
    → is_from source (seen_in c.params bytes) ≡ true
    → session.outcome_of c bytes now (session.session_run c (es ++ before)) ≡ session.Dropped causes.OtherStream → ⊥
never_shut_out law c source before es bytes now o q i f e =
    let st = session.session_run c (es ++ before) in
    shut_by law (seen_in c.params bytes) c source (newest_time before) now (renamed bytes) (session.at now st) f
    (set_to st.now (newest_time (es ++ before)) now (reached c (es ++ before) o.2) o.0 o.1) i
    (quiet_each c (newest_time before) before es (all_past c before (order_of es before o.2)) q) e

-- ---- followed again

-- it is this stream, or nothing of it was complete since then
abbrev Old : ℕ → ℕ → Stream → Type 0
Old source then f = (f.source ≡ source) ⊎ (f.last ≤ then)

abbrev Any : Trial → Type 0
Any t = Unit {0}

keeps_old : (source other then now : ℕ) → other ≡ source → Keeps (Old source then) Any other now
keeps_old source other then now e =
    record {
      counts = λ f g h. inl (g ∙ e);
      first = λ s g. inl (g ∙ e);
      begins = tt;
      touches = λ t h. tt;
    }

old_one : (o : Option Stream) (source then : ℕ) → MatchOption o (Unit {0}) (Last then)
    → MatchOption o (Unit {0}) (Old source then)
old_one None source then h = tt
old_one (Some f) source then h = inr h

any_one : (o : Option Trial) → MatchOption o (Unit {0}) Any
any_one None = tt
any_one (Some t) = tt

alone_source : (r : Result Seen Cause) (source : ℕ) (seen : Seen) → is_from_other source r ≡ false → r ≡ Ok seen
    → seen.source ≡ source
alone_source r source seen f e =
    eqb-true seen.source source (not-false (eqb seen.source source)
    (sym (ap (λ (x : Result Seen Cause). is_from_other source x) e) ∙ f))

ended_old : (source then now : ℕ) (f : Stream) → Old source then f → Old source then (choice.ended_at now f)
ended_old source then now f h =
    ⊎_elim
    (λ (e : f.source ≡ source). inl e)
    (λ (i : f.last ≤ then). inr (ended_last then now f i))
    h

all_old : (c : Config) (source : ℕ) (before es : List session.SessionEntry) → InOrder before → IsAlone c source es
    → Each (Old source (newest_time before)) Any (session.session_run c (es ++ before)).follows.streams
all_old c source before [] o a =
    let x = all_past c before o in
    let s = (session.session_run c before).follows.streams in
    record {
      followed = old_one s.followed source (newest_time before) x.followed;
      former = old_one s.former source (newest_time before) x.former;
      tried = any_one s.tried;
    }
all_old c source before (session.Datagram bytes now ∷ es) o a =
    let st = session.at now (session.session_run c (es ++ before)) in
    reading_each (seen_in c.params bytes) c (renamed bytes) st
    (λ seen e. keeps_old source seen.source (newest_time before) st.now
    (alone_source (seen_in c.params bytes) source seen a.0 e))
    (all_old c source before es o a.1)
all_old c source before (session.DatagramOf only bytes now ∷ es) o a =
    let st = session.at now (session.session_run c (es ++ before)) in
    reading_each (session.seen_of_one c only bytes) c (renamed bytes) st
    (λ seen e. keeps_old source seen.source (newest_time before) st.now
    (alone_source (session.seen_of_one c only bytes) source seen a.0 e))
    (all_old c source before es o a.1)
all_old c source before (session.Asked round_trip now ∷ es) o a = all_old c source before es o a
all_old c source before (session.Ended other now ∷ es) o a =
    let st = session.session_run c (es ++ before) in
    ended_each st.follows.streams other (session.session_time st.now now)
    (ended_old source (newest_time before) (session.session_time st.now now)) (all_old c source before es o a)
all_old c source before (session.Anew now ∷ es) o a = record { followed = tt; former = tt; tried = tt }
all_old c source before (session.Turn now ∷ es) o a =
    let st = session.at now (session.session_run c (es ++ before)) in
    subst (λ (s : Streams). Each (Old source (newest_time before)) Any s)
    (sym (played_streams (session.played_run c st) c st)) (all_old c source before es o a)

not_live : (o : Option Stream) (source then now : ℕ) → choice.is_of o source ≡ false
    → MatchOption o (Unit {0}) (Old source then)
    → then + 500000000 ≤ now → choice.is_live_one o now ≡ false
not_live None source then now e h i = refl
not_live (Some f) source then now e h i =
    ⊎_elim
    (λ (g : f.source ≡ source). absurd (true≢false (sym (eq-eqb f.source source g) ∙ e)))
    (λ (g : f.last ≤ then). le-ltb (now - f.last) 500000000 (omega (arith, g, i)))
    h

counted_of : (o : Option Stream) (source now : ℕ) → choice.is_of o source ≡ true
    → choice.is_of (option_map (choice.stream_counted now) o) source ≡ true
counted_of None source now e = e
counted_of (Some f) source now e = e

pick : (b : Bool) (x y : Streams) (source : ℕ) → b ≡ true → choice.is_of x.followed source ≡ true
    → choice.is_of (cond b x y).followed source ≡ true
pick true x y source h e = e
pick false x y source h e = absurd cc

pick_other : (b : Bool) (x y : Streams) (source : ℕ) → b ≡ false → choice.is_of y.followed source ≡ true
    → choice.is_of (cond b x y).followed source ≡ true
pick_other true x y source h e = absurd cc
pick_other false x y source h e = e

overtakes_dead : (o : Option Stream) (g : Stream) (now : ℕ) → choice.is_live_one o now ≡ false
    → choice.overtakes o g now ≡ true
overtakes_dead None g now e = refl
overtakes_dead (Some f) g now e = ap (λ (b : Bool). cond b (ltb f.pictures g.pictures) true) e

former_followed : (o : Option Stream) (st : Streams) (source now : ℕ) → choice.is_of o source ≡ true
    → choice.is_live_one st.followed now ≡ false
    → choice.is_of (choice.with_former st o now).followed source ≡ true
former_followed None st source now e h = absurd cc
former_followed (Some g) st source now e h =
    pick (choice.overtakes st.followed (choice.stream_counted now g) now)
    (record { followed = Some (choice.stream_counted now g); former = st.followed; tried = st.tried })
    (record { followed = st.followed; former = Some (choice.stream_counted now g); tried = st.tried }) source
    (overtakes_dead st.followed (choice.stream_counted now g) now h) e

trial_followed : (t : Trial) (st : Streams) (source now : ℕ) → eqb t.source source ≡ true
    → choice.is_live_one st.followed now ≡ false
    → choice.is_of (choice.with_tried st (Some t) now).followed source ≡ true
trial_followed t st source now e h =
    pick_other (choice.is_live_one st.followed now)
    (record { followed = st.followed; former = st.former; tried = None })
    (record {
      followed = Some (record { source = t.source; pictures = 1; last = now });
      former = choice.kept st.former st.followed;
      tried = None;
    }) source h e

tried_followed : (o : Option Trial) (st : Streams) (source now : ℕ) → choice.is_tried o source now ≡ true
    → choice.is_live_one st.followed now ≡ false
    → choice.is_of (choice.with_tried st (choice.touched o now) now).followed source ≡ true
tried_followed None st source now e h = absurd cc
tried_followed (Some t) st source now e h =
    trial_followed (record { source = t.source; began = t.began; last = now }) st source now
    (source_if (eqb t.source source) (not (choice.is_over 0 now t)) e) h

complete_true : (k : Bool) (run : Run) (st : Streams) (source now : ℕ) → k ≡ true
    → choice.is_of (choice.after_complete st run now).followed source ≡ true
    → choice.is_of (complete_if k (Some run) now st).followed source ≡ true
complete_true true run st source now e h = h
complete_true false run st source now e h = absurd cc

-- as long as no other stream is live
followed_by : (t : Taker) (g : Bool) (c : Config) (seen : Seen) (own : List ℕ) (st : session.SessionState)
    → Shows (choice.is_of st.follows.streams.followed seen.source) (choice.is_of st.follows.streams.former seen.source)
    (choice.is_tried st.follows.streams.tried seen.source st.now) t
    → (choice.is_of st.follows.streams.followed seen.source ≡ false
    → choice.is_live_one st.follows.streams.followed st.now ≡ false)
    → completes_picture (session.outcome_of_grant c seen t own g st) ≡ true
    → choice.is_of (streams_by g c seen t own st).followed seen.source ≡ true
followed_by t false c seen own st s l e = absurd cc
followed_by takers.Followed true c seen own st s l e =
    complete_true (completes_by c (Some runs.Followed) seen own st.now (lines_for c seen takers.Followed st))
    runs.Followed
    (noted_by takers.Followed seen.source st.now st.follows.streams) seen.source st.now e
    (counted_of st.follows.streams.followed seen.source st.now s)
followed_by takers.Former true c seen own st s l e =
    complete_true (completes_by c (Some runs.Former) seen own st.now (lines_for c seen takers.Former st)) runs.Former
    (noted_by takers.Former seen.source st.now st.follows.streams) seen.source st.now e
    (former_followed st.follows.streams.former (noted_by takers.Former seen.source st.now st.follows.streams)
    seen.source
    st.now s.1 (l s.0))
followed_by takers.Tried true c seen own st s l e =
    complete_true (completes_by c (Some runs.Tried) seen own st.now (lines_for c seen takers.Tried st)) runs.Tried
    (noted_by takers.Tried seen.source st.now st.follows.streams) seen.source st.now e
    (tried_followed st.follows.streams.tried (noted_by takers.Tried seen.source st.now st.follows.streams) seen.source
    st.now s.1 (l s.0))
followed_by takers.Begins true c seen own st s l e =
    complete_true (completes_by c (Some runs.Tried) seen own st.now (lines_for c seen takers.Begins st)) runs.Tried
    (noted_by takers.Begins seen.source st.now st.follows.streams) seen.source st.now e
    (trial_followed (record { source = seen.source; began = st.now; last = st.now })
    (noted_by takers.Begins seen.source st.now st.follows.streams) seen.source st.now
    (eq-eqb seen.source seen.source refl) (l s))
followed_by takers.NoRun true c seen own st s l e = absurd cc

by_reading : (r : Result Seen Cause) (c : Config) (source then now : ℕ) (own : List ℕ) (st : session.SessionState)
    → is_from source r ≡ true → st.now ≡ now → then + 500000000 ≤ now
    → Each (Old source then) Any st.follows.streams
    → completes_picture (session.outcome_of_reading c r own st) ≡ true
    → choice.is_of (session.after_reading c r own st).follows.streams.followed source ≡ true
by_reading (Err cause) c source then now own st f n i x e = absurd cc
by_reading (Ok seen) c source then now own st f n i x e =
    let t = session.taker_in seen st in
    let g = session.is_looked_at t st in
    let same = eqb-true seen.source source f in
    ap (λ (s : Streams). choice.is_of s.followed source) (seen_streams g c seen own st)
    ∙ ap (λ (k : ℕ). choice.is_of (streams_by g c seen t own st).followed k) (sym same)
    ∙ followed_by t g c seen own st (shows_in seen st)
    (λ h. not_live st.follows.streams.followed source then st.now
    (ap (λ (k : ℕ). choice.is_of st.follows.streams.followed k) (sym same)
    ∙ h) x.followed (later now st.now then (sym n) i)) e
  where
    later : (a b then : ℕ) → a ≡ b → then + 500000000 ≤ a → then + 500000000 ≤ b
    later a b then e h = omega arith

pub followed_again : (c : Config) (source : ℕ) (before es : List session.SessionEntry) (bytes : List ℕ) (now : ℕ)
    → InOrder (session.Datagram bytes now ∷ (es ++ before))
    → IsAlone c source es
    → newest_time before + 500000000 ≤ now
    → is_from source (seen_in c.params bytes) ≡ true
    → completes_picture (session.outcome_of c bytes now (session.session_run c (es ++ before))) ≡ true
    → choice.is_of (session.session_run c (session.Datagram bytes now ∷ (es ++ before))).follows.streams.followed source
    ≡ true
followed_again c source before es bytes now o a i f e =
    let st = session.session_run c (es ++ before) in
    by_reading (seen_in c.params bytes) c source (newest_time before) now (renamed bytes) (session.at now st) f
    (set_to st.now (newest_time (es ++ before)) now (reached c (es ++ before) o.2) o.0 o.1) i
    (all_old c source before es (order_of es before o.2) a) e
