-- Streams beside the one that is followed.
use Rattle.std.proofs.Common.{◌≡◌, ℕ, ◌+◌, ◌-◌, ◌<◌, ◌≤◌, min, Bool, true, false, cond, eqb, leb, ltb, List, [], ◌∷◌, filter, Option, Some, None, refl, ap, sym, arith, subst, ◌∙◌}
use Rattle.std.specs.Prelude.{MatchOption}
use Rattle.std.specs.Option.{option_map}
use Rattle.std.proofs.lemmas.Bool.{eq-eqb, eqb-true, le-leb, le-ltb, lt-ltb}
use Rattle.stream_choice.specs.declared.stream.Stream.{Stream}
use Rattle.stream_choice.specs.declared.trial.Trial.{Trial}
use Rattle.stream_choice.specs.declared.streams.Streams.{Streams}
use Rattle.stream_choice.specs.declared.streams.Run.TheVariants as runs
use Rattle.stream_choice.specs.declared.streams.Taker.TheVariants as takers
use Rattle.stream_choice.specs.Choice.{streams_after_packet, stream_counted, is_live_one, is_of, is_over, is_tried, kept, may_begin, overtakes, taker_of, tried_after, with_former, with_tried}
use Rattle.stream_choice.specs.Laws.{ChoiceEvent, Came, Complete, StreamStaysLive, streams_after, streams_after_all, alone, is_own_event}

-- ---- not shut out

shut : (b1 b2 b3 b4 b5 : Bool) → b4 ≡ false → b5 ≡ true
    → cond b1 takers.Followed
    (cond b2 takers.Former (cond b3 takers.Tried (cond b4 takers.NoRun (cond b5 takers.Begins takers.NoRun))))
    ≡ takers.NoRun → ⊥
shut true b2 b3 b4 b5 h i e = cc
shut false true b3 b4 b5 h i e = cc
shut false false true b4 b5 h i e = cc
shut false false false true b5 h i e = cc
shut false false false false true h i e = cc
shut false false false false false h i e = cc

both_true : (b x y : Bool) → x ≡ true → y ≡ true → cond b x y ≡ true
both_true true x y e f = e
both_true false x y e f = f

or_later : (b c : Bool) → b ≡ true → cond b true c ≡ true
or_later b c e = ap (λ (x : Bool). cond x true c) e

over : (long now : ℕ) (t : Trial) → 1000000000 + long ≤ now - t.began → is_over long now t ≡ true
over long now t h =
    or_later (leb (1000000000 + long) (now - t.began)) (leb (500000000 + long) (now - t.last))
    (le-leb (1000000000 + long) (now - t.began) h)

may : (tried : Option Trial) (source now : ℕ) → MatchOption tried (Unit {0}) (λ t. t.began + 1500000000 ≤ now)
    → may_begin tried source now ≡ true
may None source now h = refl
may (Some t) source now h =
    both_true (eqb t.source source) (is_over 500000000 now t) (is_over 0 now t)
    (over 500000000 now t (omega arith)) (over 0 now t (omega arith))

pub not_shut_out : (st : Streams) (source now : ℕ) → is_live_one st.followed now ≡ false
    → MatchOption st.tried (Unit {0}) (λ t. t.began + 1500000000 ≤ now)
    → taker_of st source now ≡ takers.NoRun → ⊥
not_shut_out st source now h i =
    shut (is_of st.followed source) (is_of st.former source) (is_tried st.tried source now)
    (is_live_one st.followed now)
    (may_begin st.tried source now) h (may st.tried source now i)

-- ---- the former stream, and the one that is tried

abbrev Fewer : Option Stream → ℕ → Type 0
Fewer o n = MatchOption o (Unit {0}) (λ g. g.pictures ≤ n)

weaker : (o : Option Stream) (n : ℕ) → Fewer o n → Fewer o (n + 1)
weaker None n h = tt
weaker (Some g) n h = omega arith

abbrev Keeps : Stream → ℕ → Streams → Type 0
Keeps f n st = (st.followed ≡ Some f) × Fewer st.former n

overtaken : (f g : Stream) (o : Option Stream) (now : ℕ) → o ≡ Some f → now - f.last < 500000000
    → g.pictures + 1 ≤ f.pictures
    → overtakes o (stream_counted now g) now ≡ false
overtaken f g o now e live h =
    ap (λ (x : Option Stream). overtakes x (stream_counted now g) now) e
    ∙ ap (λ (b : Bool). cond b (ltb f.pictures (min (g.pictures + 1) 4294967295)) true)
    (lt-ltb (now - f.last) 500000000 live)
    ∙ le-ltb f.pictures (min (g.pictures + 1) 4294967295) (omega arith)

former_stays : (st : Streams) (f : Stream) (n now : ℕ) (o : Option Stream) → st.followed ≡ Some f → Fewer st.former n
    → Fewer o n
    → now - f.last < 500000000 → n + 1 ≤ f.pictures → Keeps f (n + 1) (with_former st o now)
former_stays st f n now None e h i live more = (e, weaker st.former n h)
former_stays st f n now (Some g) e h i live more =
    subst (λ (x : Streams). Keeps f (n + 1) x)
    (sym (ap (λ (b : Bool). cond b (record {
      followed = Some (stream_counted now g);
      former = st.followed;
      tried = st.tried;
    })
    (let y : Streams = record { followed = st.followed; former = Some (stream_counted now g); tried = st.tried } in y))
    (overtaken f g st.followed now e live (omega arith))))
    (e, smaller g.pictures n i)
  where
    smaller : (g n : ℕ) → g ≤ n → min (g + 1) 4294967295 ≤ n + 1
    smaller g n h = omega arith

is_live_still : (f : Stream) (o : Option Stream) (now : ℕ) → o ≡ Some f → now - f.last < 500000000
    → is_live_one o now ≡ true
is_live_still f o now e live =
    ap (λ (x : Option Stream). is_live_one x now) e ∙ lt-ltb (now - f.last) 500000000 live

tried_goes : (st : Streams) (f : Stream) (n now : ℕ) (o : Option Trial) → st.followed ≡ Some f → Fewer st.former n
    → now - f.last < 500000000 → Keeps f n (with_tried st o now)
tried_goes st f n now None e h live = (e, h)
tried_goes st f n now (Some t) e h live =
    subst (λ (x : Streams). Keeps f n x)
    (sym (ap (λ (b : Bool). cond b (record { followed = st.followed; former = st.former; tried = None })
    (let y : Streams = record {
      followed = Some (record { source = t.source; pictures = 1; last = now });
      former = kept st.former st.followed;
      tried = None;
    } in y))
    (is_live_still f st.followed now e live)))
    (e, h)

-- ---- undisturbed

-- both follow one stream, of this SSRC
record Agree (s a : Streams) (source : ℕ) : Type 0 where
  followed : Stream
  is : s.followed ≡ Some followed
  same : a.followed ≡ Some followed
  source_is : followed.source ≡ source

came_alone : (f : Stream) (other now : ℕ) → eqb other f.source ≡ true → streams_after_packet (alone f) other now
    ≡ alone f
came_alone f other now e =
    ap (λ (b : Bool).
    let y : Streams = record {
      followed = Some f;
      former = None;
      tried = tried_after (cond b takers.Followed (cond (is_of None other) takers.Former
          (cond (is_tried None other now) takers.Tried (cond (is_live_one (Some f) now) takers.NoRun
          (cond (may_begin None other now) takers.Begins takers.NoRun))))) None other now;
    } in y)
    (eq-eqb f.source other (sym (eqb-true other f.source e)))

alone_still : (b : Bool) (f : Stream) (e : ChoiceEvent) (es : List ChoiceEvent)
    → (b ≡ true → streams_after (alone f) e ≡ alone f)
    → streams_after_all (alone f) (cond b (e ∷ es) es) ≡ streams_after_all (alone f) es
alone_still true f e es h = ap (λ (s : Streams). streams_after_all s es) (h refl)
alone_still false f e es h = refl

agree : (es : List ChoiceEvent) (st : Streams) (f : Stream) (n : ℕ) → st.followed ≡ Some f → Fewer st.former n
    → StreamStaysLive n f es
    → Agree (streams_after_all st es) (streams_after_all (alone f) (filter (is_own_event f.source) es)) f.source
agree [] st f n e h s = record { followed = f; is = e; same = refl; source_is = refl }
agree (Came other now ∷ es) st f n e h s =
    subst (λ (a : Streams). Agree (streams_after_all (streams_after_packet st other now) es) a f.source)
    (sym (alone_still (eqb other f.source) f (Came other now) (filter (is_own_event f.source) es)
    (came_alone f other now)))
    (agree es (streams_after_packet st other now) f n e h s.1)
agree (Complete runs.Followed now ∷ es) st f n e h s =
    agree es (record { followed = option_map (stream_counted now) st.followed; former = st.former; tried = st.tried })
    (stream_counted now f) n
    (ap (option_map (stream_counted now)) e) h s.1
agree (Complete runs.Former now ∷ es) st f n e h s =
    let k = former_stays st f n now st.former e h h s.0 s.1 in
    agree es (with_former st st.former now) f (n + 1) k.0 k.1 s.2
agree (Complete runs.Tried now ∷ es) st f n e h s =
    let k = tried_goes st f n now st.tried e h s.0 in
    agree es (with_tried st st.tried now) f n k.0 k.1 s.1

taken : (st : Streams) (f : Stream) (source now : ℕ) → st.followed ≡ Some f → f.source ≡ source
    → taker_of st source now ≡ takers.Followed
taken st f source now e h =
    ap (λ (b : Bool). cond b takers.Followed
    (cond (is_of st.former source) takers.Former (cond (is_tried st.tried source now) takers.Tried
    (cond (is_live_one st.followed now) takers.NoRun
    (cond (may_begin st.tried source now) takers.Begins takers.NoRun)))))
    (ap (λ (o : Option Stream). is_of o source) e ∙ eq-eqb f.source source h)

pub undisturbed : (st : Streams) (f : Stream) (n : ℕ) (es : List ChoiceEvent) → st.followed ≡ Some f
    → MatchOption st.former (Unit {0}) (λ g. g.pictures ≤ n) → StreamStaysLive n f es
    → ((streams_after_all st es).followed ≡ (streams_after_all (alone f) (filter (is_own_event f.source) es)).followed)
    × ((now : ℕ) → taker_of (streams_after_all st es) f.source now ≡ takers.Followed)
undisturbed st f n es e h s =
    let a = agree es st f n e h s in
    (a.is ∙ sym a.same, λ now. taken (streams_after_all st es) a.followed f.source now a.is a.source_is)
