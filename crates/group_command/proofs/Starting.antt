-- Before the first line: the head is read, those of the pictures are written, and nothing has happened.
use Rattle.std.proofs.Common.{◌≡◌, ◌≢◌, ℕ, zero, suc, ◌-◌, ◌≤◌, Bool, true, false, List, [], length, take, Option, Result, Ok, Err, IsErr, refl, sym, ap, ◌∙◌, subst, arith}
use Rattle.std.specs.Prelude.{◌&&◌, nat_le, IfErr, IsErrAnd}
use Rattle.std.proofs.lemmas.Bool.{leb-true}
use Rattle.h263_types.specs.declared.format.Format.{Format}
use Rattle.h263_types.specs.declared.params.Params.{Params}
use Rattle.h263_types.specs.Params.{IsParams}
use Rattle.h263_types.specs.Clocks.{period_of}
use Rattle.h263_types.specs.Sizes.{size_of_picture}
use Rattle.h263_outside.specs.Desk.{Faults, Outside}
use Rattle.h263_outside.specs.declared.desk.Role.{Role}
use Rattle.h263_outside.specs.declared.desk.Role.TheVariants.{Video, Events}
use Rattle.y4m.specs.declared.fault.Y4mFault.{Y4mFault}
use Rattle.y4m.specs.declared.fault.VideoStop.{VideoStop}
use Rattle.y4m.specs.declared.fault.VideoStop.TheVariants.{Read, Refused}
use Rattle.y4m.specs.Place.{Y4mPlace}
use Rattle.y4m.specs.Head.{head_of, head_size}
use Rattle.y4m.specs.Reader.{HeadGives}
use Rattle.y4m.specs.Video.{most_frames}
use Rattle.call_report.specs.declared.status.Status.{Status}
use Rattle.call_report.specs.declared.status.Status.TheVariants.{OutOfMemory, VideoRefused, WriteFault}
use Rattle.call_report.specs.Status.{phase, video_stop}
use Rattle.desk_program.specs.Run.{Run, Step, left_after, video_refusal}
use Rattle.desk_program.specs.Ends.{Gains, GainsFronts, GivesUp, HasCause, HasEnded, IsPart, Tells, Went, silent, start_status, step_texts, step_turns}
use Rattle.desk_program.specs.Laws.{TurnLaws}
use Rattle.desk_program.specs.Texts.{no_bytes, of}
use Rattle.call_command.specs.Laws.{VideoLaws}
use Rattle.group_command.specs.declared.room.Room.{Room}
use Rattle.group_command.specs.declared.terms.GroupTerms.{GroupTerms}
use Rattle.group_command.specs.Begin.{IsNewRoom}
use Rattle.group_command.specs.Group.{GroupState, group_at_start, group_begin, group_head_step, viewers_heads, after_joins, room_may_read}
use Rattle.group_command.specs.Standing.{AreViewing, GroupOpens, RoomReady, RoomStandsAt, room_lines_left}
use Rattle.call_command.specs.Call.{most_lines}

-- parameters stay in their ranges in another format
pub in_format : (p : Params) (f : Format) → IsParams p → IsParams (record p { format = f })
in_format p f is = record {
  quant_low = is.quant_low;
  quant_high = is.quant_high;
  keep_low = is.keep_low;
  keep_high = is.keep_high;
  radius = is.radius;
  limit_low = is.limit_low;
  limit_high = is.limit_high;
  slots_low = is.slots_low;
  slots_high = is.slots_high;
  lead = is.lead;
  messages_low = is.messages_low;
  messages_high = is.messages_high;
}

-- ---- what was taken holds no whole head

not_held : (size k : ℕ) → (size ≤ k → ⊥) → nat_le size k ≡ false
not_held size k few = at_test (nat_le size k) refl
  where
    at_test : (t : Bool) → nat_le size k ≡ t → t ≡ false
    at_test true is = absurd (few (leb-true size k is))
    at_test false is = refl

part_of : (size k : ℕ) → (size ≤ k → ⊥) → (true && nat_le size k && true && true) ≡ false
part_of size k few = ap (λ (b : Bool). true && b && true && true) (not_held size k few)

not_an_err : {T E : Type 0} (r : Result T E) (x : T) → r ≡ Ok x → IsErr r → ⊥
not_an_err {T} {E} r x is lost = ok_is_none x (subst IsErr is lost)
  where
    ok_is_none : (x : T) → IsErr {T = T} {E = E} (Ok x) → ⊥
    ok_is_none x lost = absurd (cc lost)

head_part : VideoLaws → (t : GroupTerms) (video : List ℕ) (k : ℕ) (r : Result Format Y4mFault) → head_of video ≡ r
    → IsErr (head_of (take k video)) → IsPart (step_turns (group_head_step t video r)) (of Video k)
head_part laws t video k (Ok f) is lost = part_of (head_size video) k
    (λ le. not_an_err _ f (laws.head video f k is le).0 lost)
head_part laws t video k (Err fault) is lost = tt

-- ---- an end that is known

pub ends_so : {Machine : Type 0} (r : Result Machine Status) (status : Status) (run : Run) (inputs : Role
    → List ℕ) (start : Role → Option (List ℕ)) (now : Outside)
    → IsErrAnd r (λ x. x ≡ status) → HasEnded run silent status inputs start now
    → IfErr r (λ x. HasEnded run silent x inputs start now)
ends_so (Ok m) status run inputs start now is ended = absurd is
ends_so (Err x) status run inputs start now is ended = subst (λ (y : Status). HasEnded run silent y inputs start now)
    (sym is) ended

-- a start for which there was no memory, where no call had failed
pub starved_cause : {Machine : Type 0} (r : Result Machine Status) (old new : Faults)
    → IsErrAnd r (λ x. x ≡ OutOfMemory) → new ≡ old → HasCause (start_status r) old new
starved_cause (Ok m) old new is quiet = absurd is
starved_cause (Err x) old new is quiet = subst (λ (y : Status). HasCause y old new) (sym is) quiet

-- ---- the head was read, from old to mid

module _ (turns : TurnLaws) (laws : VideoLaws) (t : GroupTerms) (inputs : Role
    → List ℕ) (old mid : Outside) (told : Tells old inputs) (others : (r : Role) → r ≢ Video
    → mid.left r ≡ old.left r) (same : mid.written ≡ old.written) where
  pub head_stops : (stop : VideoStop) → HeadGives (Err stop) (inputs Video) (mid.left Video)
      → GivesUp (phase (video_stop stop)) (video_stop stop) (group_begin t inputs) true inputs old mid
  head_stops Read e = record {
    part = of Video e.0;
    partly = head_part laws t (inputs Video) e.0 (head_of (inputs Video)) refl e.2;
    could = refl;
    left = turns.one_read Video e.0 old mid inputs told e.1 others;
    written = same;
  }
  head_stops (Refused fault) e = record {
    last = video_refusal Video no_bytes (VideoRefused fault);
    is = ap (λ (r : Result Format Y4mFault). group_head_step t (inputs Video) r) e;
    by = turns.refuses_video Video no_bytes (VideoRefused fault) inputs old mid (λ r input other. others r other
        ∙ told r input) same;
  }

  -- the heads of the pictures could not be written
  pub heads_cut : (f : Format) → head_of (inputs Video) ≡ Ok f → (status : Status) (last : Outside)
      → status ≡ WriteFault → GainsFronts (viewers_heads f t.receivers) mid.written last.written
      → GivesUp (phase status) status (group_begin t inputs) true inputs old last
  heads_cut f head status last is fronts =
      subst (λ (y : Status). GivesUp (phase y) y (group_begin t inputs) true inputs old last) (sym is)
      (subst (λ (step : Step GroupState). GainsFronts (step_texts step) old.written last.written)
      (sym (ap (λ (r : Result Format Y4mFault). group_head_step t (inputs Video) r) head))
      (subst (λ (w : Role → Option (List ℕ)). GainsFronts (viewers_heads f t.receivers) w last.written) same fronts))

  -- they were
  module _ (video : Y4mPlace) (m : Room) (new : IsNewRoom (record t.params { format = video.format }) t.receivers video
      m) (more : video.more ≡ most_frames) (e : HeadGives (Ok video) (inputs Video) (mid.left Video)) where
    abbrev p : Params
    p = record t.params { format = video.format }

    abbrev first : GroupState
    first = group_at_start p t.receivers (head_size (inputs Video))

    not_ended : (ended : Bool) (l : List ℕ) → ended ≡ false → ended ≡ true → l ≡ []
    not_ended ended l none over = absurd (cc (none, over))

    begun : (rest : Role → List ℕ) → RoomStandsAt m first rest
    begun rest = record {
      params = sym new.params;
      place = sym e.1 ∙ ap (λ (v : Y4mPlace). v.at) (sym new.video_is);
      more = sym more ∙ ap (λ (v : Y4mPlace). v.more) (sym new.video_is);
      lines = sym new.lines;
      ended = sym new.ended;
      over = not_ended m.trace.ended (rest Events) new.ended;
      cast = new.cast;
      views = new.views;
    }

    pub heads_go : (last : Outside) → last.left ≡ mid.left
        → Gains (viewers_heads video.format t.receivers) mid.written last.written
        → Went (group_begin t inputs) (RoomStandsAt m) room_may_read true inputs old last
    heads_go last still gains = record {
      next = first;
      turn = record {
        taken = of Video (head_size (inputs Video));
        whole = true;
        texts = viewers_heads video.format t.receivers;
      };
      could = refl;
      is = ap (λ (r : Result Format Y4mFault). group_head_step t (inputs Video) r) e.0;
      kept = begun (left_after inputs (of Video (head_size (inputs Video))));
      whole = refl;
      left = λ r input. ap (λ (l : Role → Option (List ℕ)). l r) still
          ∙ turns.one_read Video (head_size (inputs Video)) old mid inputs told e.2 others r input;
      written = subst (λ (w : Role → Option (List ℕ)). Gains (viewers_heads video.format t.receivers) w last.written)
          same
          gains;
    }

module _ (p : Params) (receivers : ℕ) (video : Y4mPlace) (m : Room) (new : IsNewRoom p receivers video m) where
  pub all_may_come : room_lines_left m ≡ most_lines
  all_may_come = ap (λ (n : ℕ). 16777216 - n) new.lines

  pub ready_first : (attached : Role → Bool) → IsParams p → p.format ≡ video.format → video.more ≡ most_frames
      → GroupOpens receivers attached → RoomReady m attached
  ready_first attached params format more opens =
      let none : m.trace.lines ≡ 0 = new.lines in
      let from : m.params ≡ p = new.params in
      record {
        opens = subst (λ (n : ℕ). GroupOpens n attached) (sym new.count) opens;
        in_range = subst IsParams (sym from) params;
        format = ap (λ (v : Y4mPlace). v.format) new.video_is ∙ sym format ∙ ap (λ (q : Params). q.format) (sym from);
        frame = new.frame ∙ ap (λ (q : Params). size_of_picture q.format) (sym from);
        params = new.params_in_cast ∙ sym from;
        period = new.period ∙ ap (λ (q : Params). period_of q.clock) (sym from);
        casting = new.casting;
        sent = omega (arith, new.sent, ap (λ (v : Y4mPlace). v.more) new.video_is, more);
        few = omega (arith, none);
        viewing = subst (λ (n : ℕ). AreViewing n m.trace.lines m.viewers) (sym new.sent)
            (subst (λ (n : ℕ). AreViewing 0 n m.viewers) (sym none) new.viewing);
      }

pub none_coded : (k : ℕ) → length (after_joins k).coded ≡ 0
none_coded zero = refl
none_coded (suc k) = none_coded k
