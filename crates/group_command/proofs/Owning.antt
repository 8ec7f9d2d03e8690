-- A line of a receiver: what it says is refused, or done.
use Rattle.std.proofs.Common.{◌≡◌, inl, inr, ℕ, suc, ◌+◌, ◌<◌, ◌≤◌, Bool, true, List, [], length, Option, Some, None, Result, Ok, Err, refl, sym, ap, subst, ◌∙◌, arith}
use Rattle.std.specs.Prelude.{slice_set}
use Rattle.h263_types.specs.Clocks.{half_of, period_of}
use Rattle.h263_types.specs.declared.clock.Clock.{Clock}
use Rattle.h263_types.specs.declared.clock.Clock.TheVariants.{Standard, Custom}
use Rattle.h263_types.specs.declared.params.Params.{Params}
use Rattle.h263_outside.specs.Desk.{OnlyWrites, Outside}
use Rattle.h263_outside.specs.declared.desk.Role.{Role}
use Rattle.h263_outside.specs.declared.desk.Role.TheVariants.{Events}
use Rattle.call_report.specs.declared.status.Status.{Status}
use Rattle.call_report.specs.declared.status.Status.TheVariants.{TraceRefused}
use Rattle.call_report.specs.Status.{phase}
use Rattle.call_model.specs.IdealCall.{Event}
use Rattle.call_model.specs.Refusals.{Refusal}
use Rattle.call_command.specs.Laws.{LineLaws}
use Rattle.call_command.specs.Refused.{fault_told}
use Rattle.call_command.specs.Standing.{HasTaken}
use Rattle.desk_program.specs.Ends.{GainsFronts, GivesUp, Went, step_texts}
use Rattle.desk_program.specs.Run.{Step}
use Rattle.group_call.specs.declared.viewer.Viewer.{Viewer}
use Rattle.group_call.specs.declared.broadcast.Broadcast.{Broadcast}
use Rattle.group_call.specs.Holding.{cast_period, sent_in}
use Rattle.group_call.specs.Refused.{view_refusal}
use Rattle.group_call.specs.Viewing.{ViewerRun}
use Rattle.group_command.specs.declared.event.OwnLine.{OwnLine}
use Rattle.group_command.specs.declared.room.Room.{Room}
use Rattle.group_command.specs.declared.viewers.Viewers.{Viewers}
use Rattle.group_command.specs.Group.{GroupState, event_of, room_may_read, own_step, quiet_group_step, texts_after, view_in, with_own_event}
use Rattle.group_command.specs.Standing.{AllWatch, AreViewing, GroupOpens, RoomReady, RoomStandsAt, and_then, viewers_in}
use Rattle.group_command.specs.Turning.{HasLine, IsGroupRead, KeepsCast, MayTake, OwnGives}
use Rattle.group_command.proofs.LineTurning.{line_goes, line_refused}
use Rattle.call_command.specs.Call.{unless_refused}

few_half : (clock : Clock) → half_of clock ≤ 512
few_half Standard = omega arith
few_half Custom = omega arith

few_viewers : (second third : Option Viewer) → suc (length (and_then second (and_then third []))) ≤ 3
few_viewers None None = omega arith
few_viewers None (Some c) = omega arith
few_viewers (Some b) None = omega arith
few_viewers (Some b) (Some c) = omega arith

pub may_take : (m : Room) (attached : Role → Bool) (said : OwnLine) (half : ℕ) → RoomReady m attached
    → HasLine m said.line → said.place < length (viewers_in m.viewers) → half ≡ half_of m.params.clock
    → MayTake half said m.cast
may_take m attached said half r line there is = record {
  half_few = omega (arith, is, few_half m.params.clock);
  place = omega (arith, there, few_viewers m.viewers.second m.viewers.third);
  some = line.some;
  few = omega (arith, line.number, r.few);
  sent = omega (arith, r.sent);
  casting = r.casting;
}

-- the machine is ready after it
pub ready_own : (m : Room) (cast : Broadcast) (viewers : Viewers) (line : ℕ) (old new : Role → Bool) → RoomReady m old
    → HasLine m line → new ≡ old → KeepsCast m.cast cast → length (viewers_in viewers) ≡ length (viewers_in m.viewers)
    → AreViewing (sent_in m.cast) line viewers → RoomReady (record m { cast = cast; viewers = viewers }) new
ready_own m cast viewers line old new r has same keeps count viewing = record {
  opens = subst (λ (n : ℕ). GroupOpens n new) (sym count)
      (subst (λ (a : Role → Bool). GroupOpens (length (viewers_in m.viewers)) a) (sym same) r.opens);
  in_range = r.in_range;
  format = r.format;
  frame = r.frame;
  params = keeps.params ∙ r.params;
  period = keeps.kept ∙ r.period;
  casting = keeps.casting r.casting;
  sent = omega (arith, r.sent, keeps.sent);
  few = r.few;
  viewing = subst (λ (n : ℕ). AreViewing n m.trace.lines viewers) (sym keeps.sent)
      (subst (λ (n : ℕ). AreViewing (sent_in m.cast) n viewers) has.number viewing);
}

module _ (m : Room) (said : OwnLine) (mid old new : Outside) (s : GroupState) (inputs : Role
    → List ℕ) (b : IsGroupRead m said.line mid old s inputs) (laws : LineLaws) (only : OnlyWrites mid new) where
  abbrev trace : List ℕ
  trace = inputs Events

  abbrev view : ViewerRun
  view = view_in s.views said.place

  abbrev e : Event
  e = event_of said.event

  abbrev refusal : Option Refusal
  refusal = view_refusal s.params s.run view e

  abbrev texts : Role → List ℕ
  texts = texts_after s.params said.place s.run view said.event

  abbrev step : Step GroupState
  step = own_step s trace said.place said.event

  abbrev Holds : Broadcast → Viewers → Result Unit Status → Type 0
  Holds cast viewers r =
      OwnGives r said s.params s.run view (λ run view. AllWatch s.params run (viewers_in viewers)
      (slice_set s.views said.place view)) cast mid.written new.written

  -- the conditions of what is said of the event
  pub clock_is : (half : ℕ) → half ≡ half_of m.params.clock → half ≡ half_of s.params.clock
  clock_is half is = is ∙ ap (λ (p : Params). half_of p.clock) (sym b.stood.params)

  pub period_is : cast_period m.cast ≡ period_of m.params.clock → cast_period m.cast ≡ period_of s.params.clock
  period_is is = is ∙ ap (λ (p : Params). period_of p.clock) (sym b.stood.params)

  pub own_gave_up : (cast : Broadcast) (viewers : Viewers) (status : Status) → Holds cast viewers (Err status)
      → GivesUp (phase status) status step true inputs old new
  own_gave_up cast viewers status (inl (r, is, told, same)) =
      let told_so : status ≡ TraceRefused (fault_told (s.lines + 1) e r) = told
      ∙ ap (λ (n : ℕ). TraceRefused (fault_told n e r)) b.number in
      let taken : HasTaken inputs old new =
      record {
        left = λ role input. ap (λ (l : Role → Option (List ℕ)). l role) only.left ∙ b.taken.left role input;
        written = same ∙ b.taken.written;
      } in
      subst (λ (z : Status). GivesUp (phase z) z step true inputs old new) (sym told_so)
      (line_refused s inputs old new taken laws (TraceRefused (fault_told (s.lines + 1) e r)) (fault_told (s.lines + 1)
      e r)
      step refl
      (ap (λ (o : Option Refusal). unless_refused (s.lines + 1) trace e o (quiet_group_step trace texts
      (with_own_event s said.place said.event))) is))
  own_gave_up cast viewers status (inr (none, kind, fronts)) =
      subst (λ (z : Status). GivesUp (phase z) z step true inputs old new) (sym kind)
      (subst (λ (x : Step GroupState). GainsFronts (step_texts x) old.written new.written)
      (sym (ap (λ (o : Option Refusal). unless_refused (s.lines + 1) trace e o
      (quiet_group_step trace texts (with_own_event s said.place said.event))) none))
      (subst (λ (w : Role → Option (List ℕ)). GainsFronts texts w new.written) b.taken.written fronts))

  pub own_went : (cast : Broadcast) (viewers : Viewers) → Holds cast viewers (Ok tt)
      → Went step (RoomStandsAt (record m { cast = cast; viewers = viewers })) room_may_read true inputs old new
  own_went cast viewers (none, done, gains) =
      let stood = b.stood in
      line_goes s inputs old mid b.taken (with_own_event s said.place said.event) texts step
      (RoomStandsAt (record m { cast = cast; viewers = viewers }))
      (ap (λ (o : Option Refusal). unless_refused (s.lines + 1) trace e o (quiet_group_step trace texts
      (with_own_event s said.place said.event))) none)
      (record {
        params = stood.params;
        place = stood.place;
        more = stood.more;
        lines = stood.lines;
        ended = stood.ended;
        over = stood.over;
        cast = done.0;
        views = done.1;
      })
      new only.left gains
