-- While a stream is followed that is live, no other comes to be the former one.
use Rattle.std.proofs.Common.{◌≡◌, ℕ, ◌<◌, ◌≤◌, not, Bool, true, false, cond, eqb, List, [], ◌∷◌, ◌++◌, Option, Some, None, Result, Ok, Err, refl, ap, sym, ◌∙◌}
use Rattle.std.proofs.lemmas.Bool.{eqb-true, true≢false}
use Rattle.rtp_source.specs.Source.{renamed}
use Rattle.stream_choice.specs.declared.stream.Stream.{Stream}
use Rattle.stream_choice.specs.declared.trial.Trial.{Trial}
use Rattle.stream_choice.specs.declared.streams.Streams.{Streams}
use Rattle.stream_choice.specs.declared.streams.Run.TheVariants as runs
use Rattle.stream_choice.specs.declared.streams.Taker.{Taker}
use Rattle.stream_choice.specs.declared.streams.Taker.TheVariants as takers
use Rattle.stream_choice.specs.Choice as choice
use Rattle.session_intake.specs.Datagrams.{seen_in}
use Rattle.session_intake.specs.declared.seen.Seen.{Seen}
use Rattle.session_intake.specs.declared.seen.Cause.{Cause}
use Rattle.session_runs.specs.Histories.{Config}
use Rattle.call_session.specs.Sessions as session
use Rattle.session_laws.specs.Undisturbed.{Followed, InOrder, ComesBeside, IsLive, StaysLive, followed_in, is_from_other, is_of_former, newest_time, own_of, said_of_stream}
use Rattle.session_laws.proofs.Apart.{goes, set_to, undisturbed}
use Rattle.session_laws.proofs.Marking.{Shows, complete_if, noted_by}
use Rattle.session_laws.proofs.Recovered.{completes_by, lines_for, played_streams, seen_streams, shows_in, streams_by}

-- ---- a packet

live_if : (b : Bool) (x y : Streams) → b ≡ true → (cond b x y).former ≡ x.former
live_if true x y e = refl
live_if false x y e = absurd cc

tried_former : (st : Streams) (o : Option Trial) (now : ℕ) → choice.is_live_one st.followed now ≡ true
    → (choice.with_tried st o now).former ≡ st.former
tried_former st None now e = refl
tried_former st (Some t) now e =
    live_if (choice.is_live_one st.followed now)
    (record { followed = st.followed; former = st.former; tried = None })
    (record {
      followed = Some (record { source = t.source; pictures = 1; last = now });
      former = choice.kept st.former st.followed;
      tried = None;
    }) e

tried_if : (k : Bool) (st : Streams) (now : ℕ) → choice.is_live_one st.followed now ≡ true
    → (complete_if k (Some runs.Tried) now st).former ≡ st.former
tried_if false st now e = refl
tried_if true st now e = tried_former st st.tried now e

followed_if : (k : Bool) (st : Streams) (now : ℕ) → (complete_if k (Some runs.Followed) now st).former ≡ st.former
followed_if false st now = refl
followed_if true st now = refl

not_former : (o : Option Stream) (source : ℕ) → o ≡ None → choice.is_of o source ≡ true → ⊥
not_former None source e h = true≢false (sym h)
not_former (Some f) source e h = absurd cc

-- by its taker: a stream is live where it isn't the one that is followed
by_taker : (g : Bool) (t : Taker) (c : Config) (seen : Seen) (own : List ℕ) (st : session.SessionState)
    → Shows (choice.is_of st.follows.streams.followed seen.source) (choice.is_of st.follows.streams.former seen.source)
    (choice.is_tried st.follows.streams.tried seen.source st.now) t
    → st.follows.streams.former ≡ None
    → (choice.is_of st.follows.streams.followed seen.source ≡ false
    → choice.is_live_one st.follows.streams.followed st.now ≡ true)
    → (streams_by g c seen t own st).former ≡ None
by_taker false t c seen own st s e l = e
by_taker true takers.Followed c seen own st s e l =
    followed_if (completes_by c (Some runs.Followed) seen own st.now (lines_for c seen takers.Followed st))
    (noted_by takers.Followed seen.source st.now st.follows.streams) st.now ∙ e
by_taker true takers.Former c seen own st s e l = absurd (not_former st.follows.streams.former seen.source e s.1)
by_taker true takers.Tried c seen own st s e l =
    tried_if (completes_by c (Some runs.Tried) seen own st.now (lines_for c seen takers.Tried st))
    (noted_by takers.Tried seen.source st.now st.follows.streams) st.now (l s.0) ∙ e
by_taker true takers.Begins c seen own st s e l =
    tried_if (completes_by c (Some runs.Tried) seen own st.now (lines_for c seen takers.Begins st))
    (noted_by takers.Begins seen.source st.now st.follows.streams) st.now (l s) ∙ e
by_taker true takers.NoRun c seen own st s e l = e

other_source : (seen : Seen) (source : ℕ) (o : Option Stream) → choice.is_of o source ≡ true
    → choice.is_of o seen.source ≡ false → is_from_other source (Ok seen) ≡ true
other_source seen source o h i = by (eqb seen.source source) (eqb-true seen.source source)
  where
    by : (b : Bool) → (b ≡ true → seen.source ≡ source) → not b ≡ true
    by false f = refl
    by true f =
        absurd (true≢false (sym h ∙ ap (λ (n : ℕ). choice.is_of o n) (sym (f refl)) ∙ i))

by_reading : (r : Result Seen Cause) (c : Config) (source : ℕ) (own : List ℕ) (st : session.SessionState)
    → choice.is_of st.follows.streams.followed source ≡ true
    → st.follows.streams.former ≡ None
    → (is_from_other source r ≡ true → choice.is_live_one st.follows.streams.followed st.now ≡ true)
    → (session.after_reading c r own st).follows.streams.former ≡ None
by_reading (Err cause) c source own st h e l = e
by_reading (Ok seen) c source own st h e l =
    let t = session.taker_in seen st in
    let g = session.is_looked_at t st in
    ap (λ (s : Streams). s.former) (seen_streams g c seen own st)
    ∙ by_taker g t c seen own st (shows_in seen st) e
    (λ i. l (other_source seen source st.follows.streams.followed h i))

-- ---- all of them

no_former : (o : Option Stream) (r : Result Seen Cause) → o ≡ None → is_of_former o r ≡ true → ⊥
no_former None (Err cause) e h = true≢false (sym h)
no_former None (Ok seen) e h = true≢false (sym h)
no_former (Some f) r e h = absurd cc

live_at : (o p : Option Stream) (n m : ℕ) → o ≡ p → n ≡ m → choice.is_live_one o n ≡ true → choice.is_live_one p m
    ≡ true
live_at o p n m e f h =
    sym (ap (λ (x : Option Stream). choice.is_live_one x m) e) ∙ sym (ap (choice.is_live_one o) f) ∙ h

packet : (r : Result Seen Cause) (c : Config) (source : ℕ) (bytes : List ℕ) (now : ℕ)
    (before es : List session.SessionEntry)
    → choice.is_of (session.session_run c before).follows.streams.followed source ≡ true
    → newest_time (es ++ before) ≤ now → now < 4611686018427387904 → InOrder (es ++ before)
    → StaysLive c source before es × ((session.session_run c (es ++ before)).follows.streams.former ≡ None)
    → (is_from_other source r ≡ true
    → choice.is_live_one (session.session_run c (own_of c source es ++ before)).follows.streams.followed now ≡ true)
    → (is_from_other source r ≡ true
    → ComesBeside r now (session.session_run c (own_of c source es ++ before)).follows.streams.followed
    (session.session_run c (es ++ before)).follows.streams.former)
    × ((session.after_reading c r bytes (session.at now (session.session_run c (es ++ before)))).follows.streams.former
    ≡ None)
packet r c source bytes now before es h i j o k l =
    let a = session.session_run c (es ++ before) in
    let b = session.session_run c (own_of c source es ++ before) in
    let m = goes c source before es h o k.0 in
    let now_is = set_to a.now (newest_time (es ++ before)) now m.now i j in
    let same = ap (λ (v : Followed). v.stream) m.same in (
      λ x. record { live = l x; behind = λ y. absurd (no_former a.follows.streams.former r k.1 y) },
      by_reading r c source bytes (session.at now a) m.source_is k.1
          (λ x. live_at b.follows.streams.followed a.follows.streams.followed now (session.session_time a.now now)
          (sym same)
          (sym now_is) (l x)),
    )

stays : (c : Config) (source : ℕ) (before es : List session.SessionEntry)
    → choice.is_of (session.session_run c before).follows.streams.followed source ≡ true
    → (session.session_run c before).follows.streams.former ≡ None
    → InOrder (es ++ before) → IsLive c source before es
    → StaysLive c source before es × ((session.session_run c (es ++ before)).follows.streams.former ≡ None)
stays c source before [] h n o l = (tt, n)
stays c source before (session.Turn now ∷ es) h n o l =
    let k = stays c source before es h n o.2 l in
    let a = session.at now (session.session_run c (es ++ before)) in
    (k.0, ap (λ (s : Streams). s.former) (played_streams (session.played_run c a) c a) ∙ k.1)
stays c source before (session.Asked round_trip now ∷ es) h n o l = stays c source before es h n o.2 l
stays c source before (session.Ended other now ∷ es) h n o l = stays c source before es h n o.2 l
stays c source before (session.Anew now ∷ es) h n o l = absurd l
stays c source before (session.Datagram bytes now ∷ es) h n o l =
    let k = stays c source before es h n o.2 l.1 in
    let g = packet (seen_in c.params bytes) c source (renamed bytes) now before es h o.0 o.1 o.2 k l.0 in
    ((g.0, k.0), g.1)
stays c source before (session.DatagramOf only bytes now ∷ es) h n o l =
    let k = stays c source before es h n o.2 l.1 in
    let g = packet (session.seen_of_one c only bytes) c source (renamed bytes) now before es h o.0 o.1 o.2 k l.0 in
    ((g.0, k.0), g.1)

pub undisturbed_first : (c : Config) (source : ℕ) (before es : List session.SessionEntry)
    → choice.is_of (session.session_run c before).follows.streams.followed source ≡ true
    → (session.session_run c before).follows.streams.former ≡ None
    → InOrder (es ++ before) → IsLive c source before es
    → (said_of_stream c source before es ≡ said_of_stream c source before (own_of c source es))
    × (followed_in (session.session_run c (es ++ before))
    ≡ followed_in (session.session_run c (own_of c source es ++ before)))
    × (choice.is_of (session.session_run c (es ++ before)).follows.streams.followed source ≡ true)
undisturbed_first c source before es h n o l =
    undisturbed c source before es h o (stays c source before es h n o l).0
