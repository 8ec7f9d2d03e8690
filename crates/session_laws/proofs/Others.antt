-- What others send leaves all that there is of the stream that is followed.
use Rattle.std.proofs.Common.{◌≡◌, ℕ, ◌+◌, ◌<◌, ◌≤◌, min, not, Bool, true, false, cond, eqb, ltb, List, Option, Some, None, Result, Ok, Err, refl, ap, sym, arith, ◌∙◌}
use Rattle.std.proofs.lemmas.Bool.{eq-eqb, eqb-true, le-ltb, ltb-true, ne_eqb, true≢false}
use Rattle.stream_choice.specs.declared.stream.Stream.{Stream}
use Rattle.stream_choice.specs.declared.trial.Trial.{Trial}
use Rattle.stream_choice.specs.declared.streams.Streams.{Streams}
use Rattle.stream_choice.specs.declared.streams.Run.{Run}
use Rattle.stream_choice.specs.declared.streams.Run.TheVariants as runs
use Rattle.stream_choice.specs.declared.streams.Taker.{Taker}
use Rattle.stream_choice.specs.declared.streams.Taker.TheVariants as takers
use Rattle.stream_choice.specs.declared.streams.Turn.{Turn}
use Rattle.stream_choice.specs.declared.streams.Turn.TheVariants as turns
use Rattle.stream_choice.specs.Choice as choice
use Rattle.session_intake.specs.declared.seen.Seen.{Seen}
use Rattle.session_intake.specs.declared.seen.Cause.{Cause}
use Rattle.session_intake.specs.declared.seen.Cause.TheVariants as causes
use Rattle.session_runs.specs.Histories.{Config, History, history_after_packet, answer_in, answer_completes}
use Rattle.session_runs.specs.Lines.{Lines, line_of, made_ready, turned, lines_with}
use Rattle.session_runs.specs.Following.{Follows, completed_if}
use Rattle.call_session.specs.Sessions.{SessionState, after_grant, after_reading, after_seen, asked_for, dropped, is_looked_at, taker_in}
use Rattle.session_laws.specs.Undisturbed.{Followed, ComesBeside, followed_in, is_behind, is_from, is_from_other}

-- ---- by its parts

abbrev pub made : Option Stream → History → List ℕ → ℕ → ℕ → ℕ → Followed
made s l a x p h = record { stream = s; line = l; asked = a; exact = x; patched = p; held = h }

pub same_parts : (x y : Followed) → x.stream ≡ y.stream → x.line ≡ y.line → x.asked ≡ y.asked → x.exact ≡ y.exact
    → x.patched ≡ y.patched → x.held ≡ y.held → x ≡ y
same_parts x y a b c d e f =
    ap (λ (z : Option Stream). made z x.line x.asked x.exact x.patched x.held) a
    ∙ ap (λ (z : History). made y.stream z x.asked x.exact x.patched x.held) b
    ∙ ap (λ (z : List ℕ). made y.stream y.line z x.exact x.patched x.held) c
    ∙ ap (λ (z : ℕ). made y.stream y.line y.asked z x.patched x.held) d
    ∙ ap (λ (z : ℕ). made y.stream y.line y.asked y.exact z x.held) e
    ∙ ap (λ (z : ℕ). made y.stream y.line y.asked y.exact y.patched z) f

-- ---- with a complete picture of another stream

pick : (b : Bool) (x y : Streams) → b ≡ true → (cond b x y).followed ≡ x.followed
pick true x y h = refl
pick false x y h = absurd cc

pick_other : (b : Bool) (x y : Streams) → b ≡ false → (cond b x y).followed ≡ y.followed
pick_other true x y h = absurd cc
pick_other false x y h = refl

stays : (b : Bool) (t : Turn) (l : Lines) → b ≡ true → (turned (cond b turns.Stays t) l).followed ≡ l.followed
stays true t l h = refl
stays false t l h = absurd cc

stays_other : (b : Bool) (t : Turn) (l : Lines) → b ≡ false → (turned (cond b t turns.Stays) l).followed ≡ l.followed
stays_other true t l h = absurd cc
stays_other false t l h = refl

tried_case : (st : Streams) (l : Lines) (o : Option Trial) (now : ℕ) → choice.is_live_one st.followed now ≡ true
    → ((choice.with_tried st o now).followed ≡ st.followed) × ((turned (choice.tried_turn st o now) l).followed
    ≡ l.followed)
tried_case st l None now h = (refl, refl)
tried_case st l (Some t) now h = (
  pick (choice.is_live_one st.followed now)
      (record { followed = st.followed; former = st.former; tried = None })
      (record {
        followed = Some (record { source = t.source; pictures = 1; last = now });
        former = choice.kept st.former st.followed;
        tried = None;
      }) h,
  stays (choice.is_live_one st.followed now)
      (cond (choice.keeps_run st.former st.followed) turns.ToTried turns.ToTriedBeside) l h,
)

overtaken : (o : Option Stream) (g : Stream) (now : ℕ) → choice.is_live_one o now ≡ true → is_behind (Some g) o ≡ true
    → choice.overtakes o (choice.stream_counted now g) now ≡ false
overtaken None g now h i = absurd cc
overtaken (Some f) g now h i =
    ap (λ (b : Bool). cond b (ltb f.pictures (min (g.pictures + 1) 4294967295)) true) h
    ∙ le-ltb f.pictures (min (g.pictures + 1) 4294967295)
    (bound g.pictures f.pictures (ltb-true g.pictures f.pictures i))
  where
    bound : (g f : ℕ) → g < f → min (g + 1) 4294967295 ≤ f
    bound g f h = omega arith

former_case : (st : Streams) (l : Lines) (o : Option Stream) (now : ℕ) → choice.is_live_one st.followed now ≡ true
    → is_behind o st.followed ≡ true
    → ((choice.with_former st o now).followed ≡ st.followed)
    × ((turned (choice.former_turn st o now) l).followed ≡ l.followed)
former_case st l None now h i = (refl, refl)
former_case st l (Some g) now h i =
    let e = overtaken st.followed g now h i in (
      pick_other (choice.overtakes st.followed (choice.stream_counted now g) now)
          (record { followed = Some (choice.stream_counted now g); former = st.followed; tried = st.tried })
          (record { followed = st.followed; former = Some (choice.stream_counted now g); tried = st.tried }) e,
      stays_other (choice.overtakes st.followed (choice.stream_counted now g) now) turns.ToFormer l e,
    )

completed_tried : (k : Bool) (f : Follows) (now : ℕ) → choice.is_live_one f.streams.followed now ≡ true
    → ((completed_if k runs.Tried now f).streams.followed ≡ f.streams.followed)
    × ((completed_if k runs.Tried now f).lines.followed ≡ f.lines.followed)
completed_tried false f now h = (refl, refl)
completed_tried true f now h = tried_case f.streams f.lines f.streams.tried now h

completed_former : (k : Bool) (f : Follows) (now : ℕ) → choice.is_live_one f.streams.followed now ≡ true
    → is_behind f.streams.former f.streams.followed ≡ true
    → ((completed_if k runs.Former now f).streams.followed ≡ f.streams.followed)
    × ((completed_if k runs.Former now f).lines.followed ≡ f.lines.followed)
completed_former false f now h i = (refl, refl)
completed_former true f now h i = former_case f.streams f.lines f.streams.former now h i

-- ---- with a packet of another stream

-- the lines and the streams where a packet of it is heard
abbrev lines_for : Config → Seen → Taker → SessionState → Lines
lines_for c seen taker st = made_ready c taker seen.packet.reference st.now st.follows.lines

abbrev heard : Config → Seen → List ℕ → Run → Lines → SessionState → Follows
heard c seen own run l st =
    record {
      streams = choice.streams_after_packet st.follows.streams seen.source st.now;
      lines = lines_with run (history_after_packet c seen.packet own st.now (line_of run l)) l;
    }

abbrev completes : Config → Seen → List ℕ → Run → Lines → SessionState → Bool
completes c seen own run l st = answer_completes (answer_in c seen.packet own st.now (line_of run l))

former_granted : (g : Bool) (c : Config) (seen : Seen) (own : List ℕ) (st : SessionState)
    → choice.is_live_one st.follows.streams.followed st.now ≡ true
    → is_behind st.follows.streams.former st.follows.streams.followed ≡ true
    → followed_in (after_grant c seen takers.Former own g (asked_for takers.Former st)) ≡ followed_in st
former_granted false c seen own st h i = refl
former_granted true c seen own st h i =
    let l = lines_for c seen takers.Former st in
    let k = completed_former (completes c seen own runs.Former l st) (heard c seen own runs.Former l st) st.now h i in
    same_parts (followed_in (after_grant c seen takers.Former own true (asked_for takers.Former st))) (followed_in st)
    k.0 k.1 refl refl refl refl

tried_granted : (g : Bool) (c : Config) (seen : Seen) (own : List ℕ) (st : SessionState)
    → choice.is_live_one st.follows.streams.followed st.now ≡ true
    → followed_in (after_grant c seen takers.Tried own g (asked_for takers.Tried st)) ≡ followed_in st
tried_granted false c seen own st h = refl
tried_granted true c seen own st h =
    let l = lines_for c seen takers.Tried st in
    let k = completed_tried (completes c seen own runs.Tried l st) (heard c seen own runs.Tried l st) st.now h in
    same_parts (followed_in (after_grant c seen takers.Tried own true (asked_for takers.Tried st))) (followed_in st)
    k.0 k.1 refl refl refl refl

begins_granted : (g : Bool) (c : Config) (seen : Seen) (own : List ℕ) (st : SessionState)
    → choice.is_live_one st.follows.streams.followed st.now ≡ true
    → followed_in (after_grant c seen takers.Begins own g (asked_for takers.Begins st)) ≡ followed_in st
begins_granted false c seen own st h = refl
begins_granted true c seen own st h =
    let l = lines_for c seen takers.Begins st in
    let k = completed_tried (completes c seen own runs.Tried l st) (heard c seen own runs.Tried l st) st.now h in
    same_parts (followed_in (after_grant c seen takers.Begins own true (asked_for takers.Begins st))) (followed_in st)
    k.0 k.1 refl refl refl refl

none_granted : (g : Bool) (c : Config) (seen : Seen) (own : List ℕ) (st : SessionState)
    → followed_in (after_grant c seen takers.NoRun own g (asked_for takers.NoRun st)) ≡ followed_in st
none_granted false c seen own st = refl
none_granted true c seen own st = refl

by_taker : (t : Taker) (c : Config) (seen : Seen) (own : List ℕ) (st : SessionState) → (t ≡ takers.Followed → ⊥)
    → (t ≡ takers.Former → is_behind st.follows.streams.former st.follows.streams.followed ≡ true)
    → choice.is_live_one st.follows.streams.followed st.now ≡ true
    → followed_in (after_seen c seen t own st) ≡ followed_in st
by_taker takers.Followed c seen own st n b h = absurd (n refl)
by_taker takers.Former c seen own st n b h =
    former_granted (is_looked_at takers.Former st) c seen own st h (b refl)
by_taker takers.Tried c seen own st n b h = tried_granted (is_looked_at takers.Tried st) c seen own st h
by_taker takers.Begins c seen own st n b h = begins_granted (is_looked_at takers.Begins st) c seen own st h
by_taker takers.NoRun c seen own st n b h = none_granted (is_looked_at takers.NoRun st) c seen own st

-- ---- who takes it

not_followed : (b1 b2 b3 b4 b5 : Bool) → b1 ≡ false
    → cond b1 takers.Followed
    (cond b2 takers.Former (cond b3 takers.Tried (cond b4 takers.NoRun (cond b5 takers.Begins takers.NoRun))))
    ≡ takers.Followed → ⊥
not_followed true b2 b3 b4 b5 h e = cc
not_followed false true b3 b4 b5 h e = cc
not_followed false false true b4 b5 h e = cc
not_followed false false false true b5 h e = cc
not_followed false false false false true h e = cc
not_followed false false false false false h e = cc

by_former : (b1 b2 b3 b4 b5 : Bool)
    → cond b1 takers.Followed
    (cond b2 takers.Former (cond b3 takers.Tried (cond b4 takers.NoRun (cond b5 takers.Begins takers.NoRun))))
    ≡ takers.Former → b2 ≡ true
by_former true b2 b3 b4 b5 e = absurd cc
by_former false true b3 b4 b5 e = refl
by_former false false true b4 b5 e = absurd cc
by_former false false false true b5 e = absurd cc
by_former false false false false true e = absurd cc
by_former false false false false false e = absurd cc

-- no stream has two SSRCs
pub one_source : (o : Option Stream) (source other : ℕ) → choice.is_of o source ≡ true → eqb other source ≡ false
    → choice.is_of o other ≡ false
one_source None source other h i = refl
one_source (Some f) source other h i =
    ne_eqb f.source other (λ e. true≢false (sym (eq-eqb other source (sym e ∙ eqb-true f.source source h)) ∙ i))

drops : (cause : Cause) (st : SessionState) → followed_in (dropped cause st) ≡ followed_in st
drops causes.Long st = refl
drops causes.Malformed st = refl
drops causes.OtherPictures st = refl
drops causes.TooFast st = refl
drops causes.OtherStream st = refl

pub by_others : (r : Result Seen Cause) (c : Config) (source : ℕ) (own : List ℕ) (st : SessionState)
    → is_from source r ≡ false
    → choice.is_of st.follows.streams.followed source ≡ true
    → (is_from_other source r ≡ true → ComesBeside r st.now st.follows.streams.followed st.follows.streams.former)
    → followed_in (after_reading c r own st) ≡ followed_in st
by_others (Err cause) c source own st n h i = drops cause st
by_others (Ok seen) c source own st n h i =
    let beside = i (ap not n) in
    let s = st.follows.streams in
    by_taker (taker_in seen st) c seen own st
    (not_followed (choice.is_of s.followed seen.source) (choice.is_of s.former seen.source)
    (choice.is_tried s.tried seen.source st.now)
    (choice.is_live_one s.followed st.now)
    (choice.may_begin s.tried seen.source st.now) (one_source s.followed source seen.source h n))
    (λ e. beside.behind (by_former (choice.is_of s.followed seen.source) (choice.is_of s.former seen.source)
    (choice.is_tried s.tried seen.source st.now)
    (choice.is_live_one s.followed st.now)
    (choice.may_begin s.tried seen.source st.now) e))
    beside.live
