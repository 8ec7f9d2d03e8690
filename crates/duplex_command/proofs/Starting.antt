-- Before the first line: both parties stand where nothing has happened.
use Rattle.std.proofs.Common.{◌≡◌, ℕ, ◌+◌, ◌-◌, ◌≤◌, Bool, true, false, List, [], length, Option, Result, Ok, Err, refl, sym, ap, ◌∙◌, subst, arith}
use Rattle.std.specs.Prelude.{IfErr, IsErrAnd}
use Rattle.h263_types.specs.declared.format.Format.{Format}
use Rattle.h263_types.specs.declared.params.Params.{Params}
use Rattle.h263_types.specs.Params.{IsParams}
use Rattle.h263_types.specs.Sizes.{size_of_picture}
use Rattle.h263_outside.specs.Desk.{Faults, Outside}
use Rattle.h263_outside.specs.declared.desk.Role.{Role}
use Rattle.h263_outside.specs.declared.desk.Role.TheVariants.{Video, Events, Video2}
use Rattle.y4m.specs.Place.{Y4mPlace}
use Rattle.y4m.specs.Head.{head_size}
use Rattle.y4m.specs.Video.{most_frames}
use Rattle.call_report.specs.declared.status.Status.{Status}
use Rattle.call_report.specs.declared.status.Status.TheVariants.{OutOfMemory, WriteFault}
use Rattle.call_report.specs.Status.{phase}
use Rattle.desk_program.specs.Run.{Run, Step, left_after}
use Rattle.desk_program.specs.Ends.{Gains, GainsFronts, GivesUp, HasCause, HasEnded, Went, silent, start_status, step_texts}
use Rattle.duplex_call.specs.declared.line.Party.{Party}
use Rattle.duplex_call.specs.declared.line.Party.TheVariants.{A, B}
use Rattle.duplex_call.specs.Duplex.{no_runs}
use Rattle.duplex_ends.specs.Laws.{PairLaws}
use Rattle.duplex_ends.specs.Pair.{HoldsPair}
use Rattle.duplex_command.specs.declared.heads.Heads.{Heads}
use Rattle.duplex_command.specs.declared.station.Station.{Station}
use Rattle.duplex_command.specs.declared.talk.Talk.{Talk}
use Rattle.duplex_command.specs.Begin.{HaveHeads, IsNewTalk, duplex_begin, heads_step, heads_taken, both_heads, in_formats}
use Rattle.duplex_command.specs.Duplex.{DuplexState, duplex_at_start, talk_may_read}
use Rattle.duplex_command.specs.Standing.{StationReady, StationsReady, TalkStands, talk_lines_left, place_in_video}
use Rattle.call_command.specs.Call.{most_lines}

-- parameters stay in their ranges in another format
in_format : (p : Params) (f : Format) → IsParams p → IsParams (record p { format = f })
in_format p f is = record {
  quant_low = is.quant_low;
  quant_high = is.quant_high;
  keep_low = is.keep_low;
  keep_high = is.keep_high;
  radius = is.radius;
  limit_low = is.limit_low;
  limit_high = is.limit_high;
  slots_low = is.slots_low;
  slots_high = is.slots_high;
  lead = is.lead;
  messages_low = is.messages_low;
  messages_high = is.messages_high;
}

pub in_range : (p : Params) (f g : Format) → IsParams p → (y : Party) → IsParams (in_formats p f g y)
in_range p f g is A = in_format p f is
in_range p f g is B = in_format p g is

place_first : (v w : Y4mPlace) (n : ℕ) → v ≡ w → w.at ≡ n → w.more ≡ most_frames → record { at = n; more = 1048576 }
    ≡ place_in_video v
place_first v w n is at more = (λ i. record { at = sym at i; more = sym more i }) ∙ ap place_in_video (sym is)

pub fits : (f g : Format) (long room : ℕ) → f ≡ g → long ≡ room → size_of_picture f ≤ room → size_of_picture g ≤ long
fits f g long room same is le = subst (λ (h : Format). size_of_picture h ≤ long) same
    (subst (λ (n : ℕ). size_of_picture f ≤ n) (sym is) le)

not_ended : (ended : Bool) (l : List ℕ) → ended ≡ false → ended ≡ true → l ≡ []
not_ended ended l none over = absurd (cc (none, over))

ready_first : (station : Station) (heads_video : Y4mPlace) (q : Params) (room : ℕ) → station.video ≡ heads_video
    → station.ends.params ≡ q → q.format ≡ heads_video.format
    → station.ends.sender.sent ≡ 0 → heads_video.more ≡ most_frames → size_of_picture heads_video.format ≤ room
    → StationReady station room
ready_first station video q room is params format sent more fits =
    let same : station.ends.params.format ≡ video.format = ap (λ (x : Params). x.format) params ∙ format in
    record {
      format = ap (λ (v : Y4mPlace). v.format) is ∙ sym same;
      frame = subst (λ (f : Format). size_of_picture f ≤ room) (sym same) fits;
      sent = (λ i. sent i + (is i).more) ∙ omega (arith, more);
    }

module _ (p : Params) (heads : Heads) (m : Talk) (new : IsNewTalk p heads m)
    (laws : PairLaws (in_formats p heads.a.format heads.b.format)) (params : IsParams p) (more_a : heads.a.more
    ≡ most_frames) (more_b : heads.b.more ≡ most_frames) where
  holds_first : HoldsPair (in_formats p heads.a.format heads.b.format) A m.a.ends m.b.ends no_runs
  holds_first = laws.first A m.a.ends m.b.ends (in_range p heads.a.format heads.b.format params)
      refl new.new_a new.new_b

  pub stations_ready : StationsReady m.a m.b (length m.frame.items)
  stations_ready = record {
    own_ready = ready_first m.a heads.a _ _ new.video_a new.new_a.params refl new.new_a.sent more_a new.room_a;
    far_ready = ready_first m.b heads.b _ _ new.video_b new.new_b.params refl new.new_b.sent more_b new.room_b;
    ends = record {
      params = in_formats p heads.a.format heads.b.format;
      party = A;
      ways = no_runs;
      holds = holds_first;
    };
  }

  pub all_may_come : talk_lines_left m ≡ most_lines
  all_may_come = ap (λ (n : ℕ). 16777216 - n) new.lines

  -- ---- over a desk: the heads were read from old to mid, and written from mid to last

  module _ (inputs : Role → List ℕ) (old mid : Outside) (have : HaveHeads heads inputs mid) (same : mid.written
      ≡ old.written) where
    begun : (rest : Role → List ℕ)
        → TalkStands m (duplex_at_start (in_formats p heads.a.format heads.b.format) (head_size (inputs Video))
        (head_size (inputs Video2))) rest
    begun rest = record {
      own_place = place_first m.a.video heads.a (head_size (inputs Video)) new.video_a have.at_a more_a;
      far_place = place_first m.b.video heads.b (head_size (inputs Video2)) new.video_b have.at_b more_b;
      lines = sym new.lines;
      ended = sym new.ended;
      over = not_ended m.trace.ended (rest Events) new.ended;
      holds = holds_first;
    }

    begins : duplex_begin p inputs ≡ heads_step p inputs (Ok heads.a.format) (Ok heads.b.format)
    begins = λ i. heads_step p inputs (have.head_a i) (have.head_b i)

    pub heads_go : (last : Outside) → last.left ≡ mid.left
        → Gains (both_heads heads.a.format heads.b.format) mid.written last.written
        → Went (duplex_begin p inputs) (TalkStands m) talk_may_read true inputs old last
    heads_go last still gains = record {
      next = duplex_at_start (in_formats p heads.a.format heads.b.format) (head_size (inputs Video))
          (head_size (inputs Video2));
      turn = record { taken = heads_taken inputs; whole = true; texts = both_heads heads.a.format heads.b.format };
      could = refl;
      is = begins;
      kept = begun (left_after inputs (heads_taken inputs));
      whole = refl;
      left = λ r input. ap (λ (l : Role → Option (List ℕ)). l r) still ∙ have.left r input;
      written = subst (λ (w : Role → Option (List ℕ)). Gains (both_heads heads.a.format heads.b.format) w last.written)
          same gains;
    }

module _ (p : Params) (heads : Heads) (inputs : Role → List ℕ) (old mid : Outside) (have : HaveHeads heads inputs mid)
    (same : mid.written ≡ old.written) where
  -- the heads' lines could not be written
  pub heads_cut : (status : Status) (last : Outside) → status ≡ WriteFault
      → GainsFronts (both_heads heads.a.format heads.b.format) mid.written last.written
      → GivesUp (phase status) status (duplex_begin p inputs) true inputs old last
  heads_cut status last is fronts =
      let begins : duplex_begin p inputs ≡ heads_step p inputs (Ok heads.a.format) (Ok heads.b.format) =
      λ i. heads_step p inputs (have.head_a i) (have.head_b i)
      in
      subst (λ (y : Status). GivesUp (phase y) y (duplex_begin p inputs) true inputs old last) (sym is)
      (subst (λ (step : Step DuplexState). GainsFronts (step_texts step) old.written last.written) (sym begins)
      (subst (λ (w : Role → Option (List ℕ)). GainsFronts (both_heads heads.a.format heads.b.format) w last.written)
      same fronts))

-- an end that is known
pub ends_so : {Machine : Type 0} (r : Result Machine Status) (status : Status) (run : Run) (inputs : Role
    → List ℕ) (start : Role → Option (List ℕ)) (now : Outside)
    → IsErrAnd r (λ x. x ≡ status) → HasEnded run silent status inputs start now
    → IfErr r (λ x. HasEnded run silent x inputs start now)
ends_so (Ok m) status run inputs start now is ended = absurd is
ends_so (Err x) status run inputs start now is ended = subst (λ (y : Status). HasEnded run silent y inputs start now)
    (sym is) ended

-- a start for which there was no memory, where no call had failed
pub starved_cause : {Machine : Type 0} (r : Result Machine Status) (old new : Faults)
    → IsErrAnd r (λ x. x ≡ OutOfMemory) → new ≡ old → HasCause (start_status r) old new
starved_cause (Ok m) old new is quiet = absurd is
starved_cause (Err x) old new is quiet = subst (λ (y : Status). HasCause y old new) (sym is) quiet
