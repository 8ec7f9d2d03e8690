-- A line that was read: it is refused, or its event is done, over a desk where its party is the first one.
use Rattle.std.proofs.Common.{◌≡◌, ℕ, ◌+◌, ◌-◌, Bool, true, List, [], length, drop, Option, None, Result, Ok, Err, IsErrAnd, OnOk, refl, sym, ap, subst, ◌∙◌, arith}
use Rattle.h263_types.specs.Sizes.{size_of_picture}
use Rattle.h263_types.specs.declared.params.Params.{Params}
use Rattle.h263_outside.specs.Desk.{Outside, Rose}
use Rattle.h263_outside.specs.declared.desk.Role.{Role}
use Rattle.h263_outside.specs.declared.desk.Role.TheVariants.{Video, Events, Pictures}
use Rattle.loss_trace.specs.declared.event.Event.{Event as Line}
use Rattle.loss_trace.specs.declared.event.Event.TheVariants as says
use Rattle.loss_trace.specs.declared.fault.TraceFault.{TraceFault}
use Rattle.loss_trace.specs.Place.{TracePlace}
use Rattle.call_report.specs.declared.status.Status.{Status}
use Rattle.call_report.specs.declared.status.Status.TheVariants.{TraceRefused, VideoRefused, WriteFault}
use Rattle.desk_program.specs.Run.{Step, left_after}
use Rattle.desk_program.specs.Run.Step.{Goes}
use Rattle.desk_program.specs.Ends.{Ended, Gains, GainsFronts, KeepsRoles, TurnGives, Went, step_texts}
use Rattle.desk_program.specs.Laws.{StepLaws, TurnLaws}
use Rattle.desk_program.specs.Texts.{and_of, no_texts, of}
use Rattle.call_model.specs.IdealCall.{Event, Send, Deliver, Play, Back}
use Rattle.call_model.specs.Refusals.{Refusal}
use Rattle.call_encoding.specs.Frames.{Frame}
use Rattle.h263_planes.specs.Layout.{picture_of}
use Rattle.one_way.specs.declared.refusals.EventRefusal.{EventRefusal as Told}
use Rattle.one_way.specs.Refused.{IsAllowed}
use Rattle.duplex_call.specs.declared.line.Party.{Party}
use Rattle.duplex_call.specs.declared.line.Party.TheVariants.{A, B}
use Rattle.duplex_call.specs.Duplex.{MayHappenOf, WayRuns, other, with_capture}
use Rattle.duplex_call.specs.Refused.{NoneWhereItMayHappenOf, refusal_of}
use Rattle.duplex_ends.specs.Keeping.{KeepsInDelivery}
use Rattle.duplex_ends.specs.Pair.{AreInCall, HoldsPair, IsInCall}
use Rattle.duplex_ends.specs.Ways.{call_in, sides}
use Rattle.duplex_ends.specs.declared.party.PartyEnds.{PartyEnds}
use Rattle.duplex_command.specs.declared.station.Station.{Station}
use Rattle.duplex_command.specs.Duplex.{DuplexState, after_party_line, party_capture_step, party_event_step, talk_may_read, video_place_of, play_step, party_play_texts, quiet_party_step, party_refusal, seen_of, with_party_frame, with_next}
use Rattle.call_command.specs.Call.{line_size, line_turn, unless_refused}
use Rattle.call_command.specs.Laws.{LineLaws}
use Rattle.call_command.specs.Refused.{IsNotRefused, IsRefusedWith, fault_on_line, fault_told}
use Rattle.call_command.specs.Turning.{IsChecked}
use Rattle.duplex_command.specs.Standing.{StationReady, StationsReady, StationsStand, place_in_video}
use Rattle.duplex_command.specs.Turning.{IsPartyTurn, IsPartyRead, TakesPartyFrame}
use Rattle.duplex_command.proofs.LineTurning.{line_goes, line_refused, place_same}
use Rattle.duplex_command.proofs.PartyTurns.{gave_up, was_cut, went_on}

-- ---- at some point of the call

-- so many pictures are asked for
abbrev pub one_left : (Party → Params) → Party → WayRuns Frame → ℕ
one_left p x ways = length (call_in p x ways).coded + 1

abbrev pub Refusals : Type 0
Refusals = (p : Party → Params) → NoneWhereItMayHappenOf (sides p)

pub may_happen : Refusals → (p : Party → Params) (x : Party) (ways : WayRuns Frame) (e : Event)
    → refusal_of (sides p) (one_left p x ways) x e ways ≡ None
    → MayHappenOf (sides p) (one_left p x ways) x e ways
may_happen laws p x ways e none = (laws p (one_left p x ways) x e ways).0 none

pub is_in_call : (own far : PartyEnds) → AreInCall own far → IsInCall own
is_in_call own far k = record { far = far; both = k }

-- a station is as ready as it was, where its ends have the same parameters and sent the same
pub station_kept : (station : Station) (ends : PartyEnds) (room : ℕ) → StationReady station room
    → ends.params ≡ station.ends.params → ends.sender.sent ≡ station.ends.sender.sent
    → StationReady (record station { ends = ends }) room
station_kept station ends room r params sent =
    let same = ap (λ (p : Params). p.format) params in
    record {
      format = r.format ∙ sym same;
      frame = omega (arith, r.frame, ap size_of_picture same);
      sent = omega (arith, r.sent, sent);
    }

-- both are, after a delivery
stations_delivered : (own far : Station) (own_ends far_ends : PartyEnds) (room : ℕ) → StationsReady own far room
    → AreInCall own_ends far_ends → KeepsInDelivery own.ends far.ends own_ends far_ends
    → StationsReady (record own { ends = own_ends }) (record far { ends = far_ends }) room
stations_delivered own far own_ends far_ends room r ends keeps = record {
  own_ready = station_kept own own_ends room r.own_ready keeps.own_params (ap (λ s. s.sent) keeps.own_sender);
  far_ready = station_kept far far_ends room r.far_ready keeps.far_params keeps.far_sent;
  ends = ends;
}

-- one that is not refused has no refusal
pub none_so : (r : Result Unit Told) (e : Event) (refusal : Option Refusal) → IsNotRefused r → IsAllowed r e refusal
    → refusal ≡ None
none_so (Ok u) e refusal free allowed = allowed
none_so (Err told) e refusal free allowed = absurd free

-- and may be done
pub may_so : {P : Type 0} (r : Result Unit Told) → IsNotRefused r → OnOk r P → P
may_so (Ok u) free may = may
may_so (Err told) free may = absurd free

-- ---- the line of a party

module _ (x : Party) (own far : Station) (line : ℕ) (trace_new : TracePlace) (before mid : Outside) (s : DuplexState)
    (inputs : Role → List ℕ) (b : IsPartyRead x own far line trace_new mid before s inputs) where
  abbrev trace : List ℕ
  trace = inputs Events

  abbrev taken_line : Role → ℕ
  taken_line = of Events (line_size trace)

  abbrev step_of : Line → Step DuplexState
  step_of event = party_event_step Video Pictures VideoRefused x s trace inputs event

  -- ---- a refused event

  module _ (laws : LineLaws) (told : Told) (fault : TraceFault) (fault_is : fault ≡ fault_on_line line told) where
    event_refused : (e : Event) (step : Step DuplexState) → IsAllowed (Err told) e (party_refusal x s e)
        → Ended (unless_refused (s.lines + 1) trace e (party_refusal x s e) step) (TraceRefused fault) inputs before mid
    event_refused e step refused =
        let told_so = refused.2 in
        line_refused s inputs before mid b.taken laws (TraceRefused fault) (fault_told (s.lines + 1) e refused.0) _
        (ap (λ (f : TraceFault). TraceRefused f) fault_is ∙ (λ i. TraceRefused (fault_on_line (b.number i)
        (told_so i))))
        (ap (λ (o : Option Refusal). unless_refused (s.lines + 1) trace e o step) refused.1)

    pub line_is_refused : (event : Line) → IsChecked (Err told) event (λ e. party_refusal x s e)
        → Ended (step_of event) (TraceRefused fault) inputs before mid
    line_is_refused says.Nothing refused = absurd refused
    line_is_refused says.Send refused = event_refused Send _ refused
    line_is_refused (says.Packet n j) refused = event_refused (Deliver n j) _ refused
    line_is_refused (says.All n) refused = event_refused (Deliver n 0) _ refused
    line_is_refused (says.Back m) refused = event_refused (Back m) (quiet_party_step s trace s.ways) refused
    line_is_refused says.Play refused = event_refused Play _ refused

  -- ---- an event that may happen

  pub step_is : (e : Event) (step : Step DuplexState) → party_refusal x s e ≡ None
      → unless_refused (s.lines + 1) trace e (party_refusal x s e) step ≡ step
  step_is e step none = ap (λ (o : Option Refusal). unless_refused (s.lines + 1) trace e o step) none

  -- the stations where both ways are these
  pub stands_event : (own_new far_new : Station) (ways : WayRuns Frame) → own_new.video ≡ own.video
      → far_new.video ≡ far.video
      → HoldsPair s.params x own_new.ends far_new.ends ways
      → StationsStand x own_new far_new trace_new (after_party_line (record s { ways = ways }) trace)
      (left_after inputs taken_line Events)
  stands_event own_new far_new ways own_same far_same holds = record {
    own_place = place_same x (after_party_line (record s { ways = ways }) trace) (after_party_line s trace) refl refl
        ∙ b.stood.own_place ∙ ap place_in_video (sym own_same);
    far_place = place_same (other x) (after_party_line (record s { ways = ways }) trace) (after_party_line s trace) refl
        refl
        ∙ b.stood.far_place ∙ ap place_in_video (sym far_same);
    lines = b.stood.lines;
    ended = b.stood.ended;
    over = b.stood.over;
    holds = holds;
  }

  -- the reader of the video is where the state before the line says
  pub own_place : video_place_of x s ≡ place_in_video own.video
  own_place = place_same x s (after_party_line s trace) refl refl ∙ b.stood.own_place

  pub format_is : own.video.format ≡ own.ends.params.format → own.video.format ≡ (s.params x).format
  format_is is = is ∙ ap (λ (p : Params). p.format) b.stood.holds.own_holds.params

  pub event_goes : TurnLaws → (own_new far_new : Station) (event : Line) (ways : WayRuns Frame)
      → own_new.video ≡ own.video → far_new.video ≡ far.video
      → step_of event ≡ quiet_party_step s trace ways → HoldsPair s.params x own_new.ends far_new.ends ways
      → Went (step_of event) (λ next rest. StationsStand x own_new far_new trace_new next (rest Events)) talk_may_read
      true
      inputs before mid
  event_goes laws own_new far_new event ways own_same far_same is holds =
      line_goes s inputs before mid b.taken (record s { ways = ways }) no_texts _
      (λ next rest. StationsStand x own_new far_new trace_new next (rest Events)) is
      (stands_event own_new far_new ways own_same far_same holds) mid refl (laws.no_text mid.written mid.written refl)

  -- ---- the next picture was played

  module _ (new : Outside) (still : new.left ≡ mid.left) (none : party_refusal x s Play ≡ None) where
    abbrev shown : Role → List ℕ
    shown = party_play_texts Pictures x (seen_of x (with_next x s)) (seen_of x s).played

    play_is : step_of says.Play ≡ Goes (after_party_line (with_next x s) trace) (line_turn trace shown)
    play_is = step_is Play (play_step Video Pictures VideoRefused x s trace) none

    pub play_goes : (stands : DuplexState → (Role → List ℕ) → Type 0)
        → stands (after_party_line (with_next x s) trace) (left_after inputs taken_line)
        → Gains shown mid.written new.written → Went (step_of says.Play) stands talk_may_read true inputs before new
    play_goes stands kept gains = line_goes s inputs before mid b.taken (with_next x s) shown _ stands play_is kept new
        still gains

    pub play_cut : GainsFronts shown mid.written new.written
        → GainsFronts (step_texts (step_of says.Play)) before.written new.written
    play_cut gains =
        subst (λ (step : Step DuplexState). GainsFronts (step_texts step) before.written new.written) (sym play_is)
        (subst (λ (w : Role → Option (List ℕ)). GainsFronts shown w new.written) b.taken.written gains)

  -- ---- the frame that the line asks for was sent

  pub stands_sent : (own_new : Station) (size : ℕ) (out : List ℕ) → own_new.video.at ≡ (video_place_of x s).at + size
      → own_new.video.more + 1 ≡ (video_place_of x s).more
      → HoldsPair s.params x own_new.ends far.ends (with_capture (sides s.params) x (picture_of (s.params x).format out)
      s.ways)
      → StationsStand x own_new far trace_new (after_party_line (with_party_frame x s size out) trace)
      (left_after inputs (and_of taken_line (of Video size)) Events)
  stands_sent own_new size out place fewer holds = by_party x (place_same (other x) s (after_party_line s trace) refl
      refl
      ∙ b.stood.far_place) b.stood.lines b.stood.ended place_is holds
    where
      less : (a b : ℕ) → a + 1 ≡ b → b - 1 ≡ a
      less a b is = omega (arith, is)

      place_is : record { at = (video_place_of x s).at + size; more = (video_place_of x s).more - 1 }
          ≡ place_in_video own_new.video
      place_is = let few = less own_new.video.more (video_place_of x s).more fewer in
          λ i. record { at = sym place i; more = few i }

      nothing_more : (n : ℕ) → n + 0 ≡ n
      nothing_more n = omega arith

      over : trace_new.ended ≡ true → drop (line_size trace + 0) trace ≡ []
      over ended = ap (λ (n : ℕ). drop n trace) (nothing_more (line_size trace)) ∙ b.stood.over ended

      by_party : (y : Party) → video_place_of (other y) s ≡ place_in_video far.video → s.lines + 1 ≡ trace_new.lines
          → (after_party_line s trace).ended ≡ trace_new.ended
          → record { at = (video_place_of y s).at + size; more = (video_place_of y s).more - 1 }
          ≡ place_in_video own_new.video
          → HoldsPair s.params y own_new.ends far.ends
          (with_capture (sides s.params) y (picture_of (s.params y).format out) s.ways)
          → StationsStand y own_new far trace_new (after_party_line (with_party_frame y s size out) trace)
          (left_after inputs (and_of taken_line (of Video size)) Events)
      by_party A far_place lines ended own_place holds = record {
        own_place = own_place;
        far_place = far_place;
        lines = lines;
        ended = ended;
        over = over;
        holds = holds;
      }
      by_party B far_place lines ended own_place holds = record {
        own_place = own_place;
        far_place = far_place;
        lines = lines;
        ended = ended;
        over = over;
        holds = holds;
      }

-- ---- what a line's turn is, by what the line says

module _ (x : Party) (own far own_new far_new : Station) (line room : ℕ) (event said : Line) (mid new : Outside) where
  abbrev LineTurn : Line → Result Bool Status → Type 0
  LineTurn e r =
      IsPartyTurn x own_new far_new r mid new room (λ trace. IsPartyRead x own far line trace mid)
      (λ s inputs. party_event_step Video Pictures VideoRefused x s (inputs Events) inputs e)

  -- one whose event is done
  pub event_done : event ≡ said → StationsReady own_new far_new room → KeepsRoles mid new
      → ((trace : TracePlace) (old : Outside) (s : DuplexState) (inputs : Role → List ℕ)
      → IsPartyRead x own far line trace mid old s inputs
      → Went (party_event_step Video Pictures VideoRefused x s (inputs Events) inputs said)
      (λ next rest. StationsStand x own_new far_new trace next (rest Events)) talk_may_read true inputs old new)
      → LineTurn event (Ok true)
  event_done is ready rest gives = subst (λ (e : Line). LineTurn e (Ok true)) (sym is)
      (went_on x own_new far_new mid new room _ _ ready rest gives)

  -- one that can't write
  pub event_cut : event ≡ said → (r : Result Bool Status) (status : Status) → IsErrAnd r (λ z. z ≡ status)
      → status ≡ WriteFault → Rose mid.faults.write new.faults.write → KeepsRoles mid new
      → ((trace : TracePlace) (old : Outside) (s : DuplexState) (inputs : Role → List ℕ)
      → IsPartyRead x own far line trace mid old s inputs
      → GainsFronts (step_texts (party_event_step Video Pictures VideoRefused x s (inputs Events) inputs said))
      old.written
      new.written)
      → LineTurn event r
  event_cut is r status answer kind rose rest gives = subst (λ (e : Line). LineTurn e r) (sym is)
      (was_cut x own_new far_new mid new room _ _ r status answer kind rose rest gives)

-- one whose event is refused
pub line_stops : (x : Party) (own far : Station) (line room : ℕ) (event said : Line) (r : Result Bool Status)
    (status : Status) (checked : Result Unit Told) (now : Outside) → event ≡ said
    → IsErrAnd r (λ z. z ≡ status) → IsRefusedWith line checked status → LineLaws → StepLaws
    → ((trace : TracePlace) (old : Outside) (s : DuplexState) (inputs : Role → List ℕ)
    → IsPartyRead x own far line trace now old s inputs → IsChecked checked said (λ e. party_refusal x s e))
    → LineTurn x own far own far line room event said now now event r
line_stops x own far line room event said r status (Ok u) now is answer refused lines steps checks = absurd refused
line_stops x own far line room event said r status (Err told) now is answer refused lines steps checks =
    subst (λ (e : Line). LineTurn x own far own far line room event said now now e r) (sym is)
    (gave_up x own far now now room (λ trace. IsPartyRead x own far line trace now)
    (λ s inputs. party_event_step Video Pictures VideoRefused x s (inputs Events) inputs said)
    r (TraceRefused (fault_on_line line told)) (subst (λ (w : Status). IsErrAnd r (λ z. z ≡ w)) refused answer) tt tt
    (steps.none now)
    (λ trace old s inputs b. line_is_refused x own far line trace old now s inputs b lines told
    (fault_on_line line told)
    refl said (checks trace old s inputs b)))

-- one that delivers packets of a picture, of which one tells whether it may be done
pub delivery_done : (x : Party) (own far : Station) (own_ends far_ends : PartyEnds) (line room : ℕ) (event said : Line)
    (n j : ℕ) (mid : Outside)
    → TurnLaws → StepLaws → Refusals → event ≡ said → StationsReady own far room → AreInCall own_ends far_ends
    → KeepsInDelivery own.ends far.ends own_ends far_ends
    → (after : (Party → Params) → WayRuns Frame → WayRuns Frame)
    → ((s : DuplexState) (inputs : Role → List ℕ)
    → party_event_step Video Pictures VideoRefused x s (inputs Events) inputs said
    ≡ unless_refused (s.lines + 1) (inputs Events) (Deliver n j) (party_refusal x s (Deliver n j))
    (quiet_party_step s (inputs Events) (after s.params s.ways)))
    → ((s : DuplexState) → HoldsPair s.params x own.ends far.ends s.ways → party_refusal x s (Deliver n j) ≡ None)
    → ((p : Party → Params) (ways : WayRuns Frame) (left : ℕ) → HoldsPair p x own.ends far.ends ways
    → MayHappenOf (sides p) left x (Deliver n j) ways → HoldsPair p x own_ends far_ends (after p ways))
    → LineTurn x own far (record own { ends = own_ends }) (record far { ends = far_ends }) line room event said mid mid
    event (Ok true)
delivery_done x own far own_ends far_ends line room event said n j mid turns steps refusals is ready ends keeps after
    step none holds =
    let own_new : Station = record own { ends = own_ends } in
    let far_new : Station = record far { ends = far_ends } in
    event_done x own far own_new far_new line room event said mid mid is
    (stations_delivered own far own_ends far_ends room ready ends keeps) (steps.none mid)
    (λ trace old s inputs b.
    let free = none s b.stood.holds in
    event_goes x own far line trace old mid s inputs b turns own_new far_new said (after s.params s.ways) refl refl
    (step s inputs ∙ step_is x own far line trace old mid s inputs b (Deliver n j) _ free)
    (holds s.params s.ways (one_left s.params x s.ways) b.stood.holds (may_happen refusals s.params x s.ways
    (Deliver n j) free)))

-- one that asks for a frame
pub frame_asked : (x : Party) (own far own_new : Station) (line room : ℕ) (event : Line) (r : Result Bool Status)
    (mid new : Outside) → event ≡ says.Send
    → TakesPartyFrame x own far own_new line r mid new room
    → ((trace : TracePlace) (old : Outside) (s : DuplexState) (inputs : Role → List ℕ)
    → IsPartyRead x own far line trace mid old s inputs → party_refusal x s Send ≡ None)
    → LineTurn x own far own_new far line room event says.Send mid new event r
frame_asked x own far own_new line room event r mid new is t none =
    subst (λ (e : Line). LineTurn x own far own_new far line room event says.Send mid new e r) (sym is) (record {
      gives = λ trace old s inputs b.
          subst (λ (step : Step DuplexState). TurnGives r step (λ next rest. StationsStand x own_new far trace next
          (rest Events)) talk_may_read true inputs old new)
          (sym (ap (λ (o : Option Refusal). unless_refused (s.lines + 1) (inputs Events) Send o
          (party_capture_step Video Pictures VideoRefused x s
          (inputs Events) (inputs Video))) (none trace old s inputs b)))
          (t.gives trace old s inputs (record { read = b; none = none trace old s inputs b }));
      goes_on = t.goes_on;
      ready = t.ready;
      stop = t.stop;
      cause = t.cause;
      rest = t.rest;
    })
