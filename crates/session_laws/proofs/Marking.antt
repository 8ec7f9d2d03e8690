-- What is so of the streams of a session, whatever comes.
use Rattle.std.proofs.Common.{◌≡◌, ℕ, ◌==◌, not, Bool, true, false, cond, ltb, Option, Some, None, refl}
use Rattle.std.specs.Prelude.{MatchOption}
use Rattle.std.specs.Option.{option_map}
use Rattle.std.proofs.lemmas.Bool.{eqb-true}
use Rattle.stream_choice.specs.declared.stream.Stream.{Stream}
use Rattle.stream_choice.specs.declared.trial.Trial.{Trial}
use Rattle.stream_choice.specs.declared.streams.Streams.{Streams}
use Rattle.stream_choice.specs.declared.streams.Run.{Run}
use Rattle.stream_choice.specs.declared.streams.Taker.{Taker}
use Rattle.stream_choice.specs.declared.streams.Taker.TheVariants as takers
use Rattle.stream_choice.specs.Choice.{after_complete, stream_counted, is_live_one, is_of, is_over, is_tried, kept, overtakes, touched, tried_after, with_former, with_tried}
use Rattle.session_runs.specs.Lines.{taker_run}

-- each stream and each trial is so
pub record Each (P : Stream → Type 0) (Q : Trial → Type 0) (st : Streams) : Type 0 where
  pub followed : MatchOption st.followed (Unit {0}) P
  pub former : MatchOption st.former (Unit {0}) P
  pub tried : MatchOption st.tried (Unit {0}) Q

-- a packet of this stream keeps it so
pub record Keeps (P : Stream → Type 0) (Q : Trial → Type 0) (source now : ℕ) : Type 0 where
  pub counts : (f : Stream) → f.source ≡ source → P f → P (stream_counted now f)
  pub first : (s : ℕ) → s ≡ source → P (let f : Stream = record { source = s; pictures = 1; last = now } in f)
  pub begins : Q (let t : Trial = record { source = source; began = now; last = now } in t)
  pub touches : (t : Trial) → Q t → Q (let u : Trial = record { source = t.source; began = t.began; last = now } in u)

-- ---- who takes a packet

abbrev pub Shows : Bool → Bool → Bool → Taker → Type 0
Shows b1 b2 b3 takers.Followed = b1 ≡ true
Shows b1 b2 b3 takers.Former = (b1 ≡ false) × (b2 ≡ true)
Shows b1 b2 b3 takers.Tried = (b1 ≡ false) × (b3 ≡ true)
Shows b1 b2 b3 takers.Begins = b1 ≡ false
Shows b1 b2 b3 takers.NoRun = b1 ≡ false

pub shows : (b1 b2 b3 b4 b5 : Bool)
    → Shows b1 b2 b3 (cond b1 takers.Followed
    (cond b2 takers.Former (cond b3 takers.Tried (cond b4 takers.NoRun (cond b5 takers.Begins takers.NoRun)))))
shows true b2 b3 b4 b5 = refl
shows false true b3 b4 b5 = (refl, refl)
shows false false true b4 b5 = (refl, refl)
shows false false false true b5 = refl
shows false false false false true = refl
shows false false false false false = refl

-- ---- with a complete picture

kept_if : (P : Stream → Type 0) (b : Bool) (f g : Stream) → P f → P g
    → MatchOption (cond b (Some f) (Some g)) (Unit {0}) P
kept_if P true f g h i = h
kept_if P false f g h i = i

kept_one : (P : Stream → Type 0) (o p : Option Stream) → MatchOption o (Unit {0}) P → MatchOption p (Unit {0}) P
    → MatchOption (kept o p) (Unit {0}) P
kept_one P o None h i = h
kept_one P None (Some f) h i = i
kept_one P (Some g) (Some f) h i = kept_if P (ltb g.pictures f.pictures) f g i h

module _ {P : Stream → Type 0} {Q : Trial → Type 0} where
  counted_one : (source now : ℕ) (o : Option Stream) → Keeps P Q source now → is_of o source ≡ true
      → MatchOption o (Unit {0}) P → MatchOption (option_map (stream_counted now) o) (Unit {0}) P
  counted_one source now None k e h = tt
  counted_one source now (Some f) k e h = k.counts f (eqb-true f.source source e) h

  former_if : (b : Bool) (st : Streams) (g : Stream) → Each P Q st → P g
      → Each P Q (cond b (record { followed = Some g; former = st.followed; tried = st.tried })
      (let y : Streams = record { followed = st.followed; former = Some g; tried = st.tried } in y))
  former_if true st g x h = record { followed = h; former = x.followed; tried = x.tried }
  former_if false st g x h = record { followed = x.followed; former = h; tried = x.tried }

  former_each : (source now : ℕ) (st : Streams) (o : Option Stream) → Keeps P Q source now → is_of o source ≡ true
      → Each P Q st → MatchOption o (Unit {0}) P → Each P Q (with_former st o now)
  former_each source now st None k e x h = x
  former_each source now st (Some g) k e x h =
      former_if (overtakes st.followed (stream_counted now g) now) st (stream_counted now g) x
      (k.counts g (eqb-true g.source source e) h)

  tried_if : (b : Bool) (now s : ℕ) (st : Streams) → Each P Q st
      → P (let f : Stream = record { source = s; pictures = 1; last = now } in f)
      → Each P Q (cond b (record { followed = st.followed; former = st.former; tried = None })
      (let y : Streams = record {
        followed = Some (record { source = s; pictures = 1; last = now });
        former = kept st.former st.followed;
        tried = None;
      } in y))
  tried_if true now s st x h = record { followed = x.followed; former = x.former; tried = tt }
  tried_if false now s st x h =
      record { followed = h; former = kept_one P st.former st.followed x.former x.followed; tried = tt }

  tried_each : (source now : ℕ) (st : Streams) (o : Option Trial) → Keeps P Q source now
      → MatchOption o (Unit {0}) (λ t. t.source ≡ source) → Each P Q st → Each P Q (with_tried st o now)
  tried_each source now st None k e x = x
  tried_each source now st (Some t) k e x =
      tried_if (is_live_one st.followed now) now t.source st x (k.first t.source e)

-- ---- a packet

abbrev pub complete_if : Bool → Option Run → ℕ → Streams → Streams
complete_if b None now st = st
complete_if false (Some run) now st = st
complete_if true (Some run) now st = after_complete st run now

abbrev pub noted_by : Taker → ℕ → ℕ → Streams → Streams
noted_by t source now st =
    record { followed = st.followed; former = st.former; tried = tried_after t st.tried source now }

pub source_if : (b over : Bool) → cond b over false ≡ true → b ≡ true
source_if true over e = refl
source_if false over e = absurd cc

pub tried_source : (o : Option Trial) (source now : ℕ) → is_tried o source now ≡ true
    → MatchOption (touched o now) (Unit {0}) (λ t. t.source ≡ source)
tried_source None source now e = tt
tried_source (Some t) source now e = tried_of t source now e
  where
    tried_of : (t : Trial) (source now : ℕ) → is_tried (Some t) source now ≡ true → t.source ≡ source
    tried_of t source now e =
        eqb-true t.source source (source_if (t.source == source) (not (is_over 0 now t)) e)

module _ {P : Stream → Type 0} {Q : Trial → Type 0} where
  touched_one : (source now : ℕ) (o : Option Trial) → Keeps P Q source now → MatchOption o (Unit {0}) Q
      → MatchOption (touched o now) (Unit {0}) Q
  touched_one source now None k h = tt
  touched_one source now (Some t) k h = k.touches t h

  pub by_taker : (t : Taker) (b : Bool) (source now : ℕ) (st : Streams)
      → Keeps P Q source now
      → Shows (is_of st.followed source) (is_of st.former source) (is_tried st.tried source now) t → Each P Q st
      → Each P Q (complete_if b (taker_run t) now (noted_by t source now st))
  by_taker takers.Followed false source now st k e x =
      record { followed = x.followed; former = x.former; tried = x.tried }
  by_taker takers.Followed true source now st k e x =
      record { followed = counted_one source now st.followed k e x.followed; former = x.former; tried = x.tried }
  by_taker takers.Former false source now st k e x =
      record { followed = x.followed; former = x.former; tried = x.tried }
  by_taker takers.Former true source now st k e x =
      former_each source now (noted_by takers.Former source now st) st.former k e.1
      (record { followed = x.followed; former = x.former; tried = x.tried }) x.former
  by_taker takers.Tried false source now st k e x =
      record { followed = x.followed; former = x.former; tried = touched_one source now st.tried k x.tried }
  by_taker takers.Tried true source now st k e x =
      tried_each source now (noted_by takers.Tried source now st) (touched st.tried now) k
      (tried_source st.tried source now e.1)
      (record { followed = x.followed; former = x.former; tried = touched_one source now st.tried k x.tried })
  by_taker takers.Begins false source now st k e x =
      record { followed = x.followed; former = x.former; tried = k.begins }
  by_taker takers.Begins true source now st k e x =
      tried_each source now (noted_by takers.Begins source now st)
      (Some (record { source = source; began = now; last = now })) k refl
      (record { followed = x.followed; former = x.former; tried = k.begins })
  by_taker takers.NoRun b source now st k e x =
      record { followed = x.followed; former = x.former; tried = x.tried }
