-- What the machine of a call keeps in mind, and what it is ready for.
use Rattle.std.specs.Prelude.{◌≡◌, ◌≢◌, ℕ, ◌+◌, ◌-◌, ◌*◌, ◌≤◌, Bool, if◌then◌else◌, true, false, List, [], ◌++◌, length, Some}
use Rattle.h263_types.specs.Clocks.{period_of}
use Rattle.h263_types.specs.Params.{IsParams}
use Rattle.h263_types.specs.Sizes.{size_of_picture}
use Rattle.h263_outside.specs.Desk.{Outside}
use Rattle.h263_outside.specs.declared.desk.Role.{Role}
use Rattle.h263_outside.specs.declared.desk.Role.TheVariants.{Video, Events, Pictures, Report}
use Rattle.y4m.specs.Place.{Y4mPlace}
use Rattle.desk_program.specs.Run.{left_after}
use Rattle.desk_program.specs.Ends.{Tells}
use Rattle.desk_program.specs.Texts.{of}
use Rattle.call_model.specs.IdealCall.{Event}
use Rattle.call_model.specs.Receiving.{ReceiverEntry}
use Rattle.call_encoding.specs.Frames.{Frame}
use Rattle.receiver_end.specs.declared.kept.Kept.{Kept}
use Rattle.receiver_end.specs.State as receiver_end
use Rattle.one_way.specs.Both.{AreJoined, State, steady}
use Rattle.one_way.specs.Counts.{total_of}
use Rattle.one_way.specs.Way.{CanSend, HoldsNetwork, IsNewNetwork, kept_in, said_in, tally_of, way_of}
use Rattle.call_command.specs.declared.terms.Terms.{Terms}
use Rattle.call_command.specs.declared.link.Link.{Link}
use Rattle.call_command.specs.declared.world.World.{World}
use Rattle.call_command.specs.Call.{CallState, line_size, after_line}

-- ---- the ends of a call, and what carries it

-- the parts of a call at a turn
pub record CallParts : Type 0 where
  pub terms : Terms
  pub video : Y4mPlace
  pub sender : State
  pub receiver : Kept
  pub link : Link

-- those that a machine owns, and that are lent to it
abbrev pub call_parts : World → CallParts
call_parts m =
    record {
      terms = m.terms;
      video = m.video.now;
      sender = m.sender.now;
      receiver = m.receiver.now;
      link = record { trace = m.trace; network = m.network; frame = m.frame };
    }

-- the state of these frames and events
abbrev pub call_state_of : CallParts → List ReceiverEntry → List Frame → List Event → CallState
call_state_of x before frames past =
    record {
      params = x.terms.params;
      plain = x.terms.plain;
      before = before;
      frames = frames;
      past = past;
      at = x.video.at;
      more = x.video.more;
      lines = x.link.trace.lines;
      ended = x.link.trace.ended;
    }

-- both ends and the network have done these events
abbrev pub HasDone : CallParts → List ReceiverEntry → List Frame → List Event → Type 0
HasDone x before frames past = HoldsNetwork x.terms.params x.link.network x.sender x.receiver before frames past

-- The parts stand at a state: each of its frames was sent, and so it is whatever frames come after
-- them. The receiver had played nothing before. After a last line without a newline the trace is at
-- its end.
pub record PartsStand (x : CallParts) (s : CallState) (inputs : Role → List ℕ) : Type 0 where
  pub is : s ≡ call_state_of x s.before s.frames s.past
  pub begun : (receiver_end.run_of x.terms.params s.before).played ≡ 0
  pub sent : x.sender.sent ≡ length s.frames
  pub over : x.link.trace.ended ≡ true → inputs Events ≡ []
  pub holds : (later : List Frame) → HasDone x s.before (s.frames ++ later) s.past

-- both ends stand for what was done in the call
abbrev pub EndsStand : Terms → State → Kept → CallState → Type 0
EndsStand t sender receiver s = AreJoined t.params (steady t.params) sender receiver s.frames s.before s.past

-- how many turns may still come, and the input whose end is the end of the call
abbrev pub more_of : CallParts → ℕ
more_of x = if x.terms.plain then x.video.more else 16777216 - x.link.trace.lines

abbrev pub source_of : Terms → Role
source_of t = if t.plain then Video else Events

-- the packets of this many pictures are kept: those of the last period may still be delivered, and
-- over the plain trace those of the last picture
abbrev pub pictures_kept : Terms → ℕ
pictures_kept t = if t.plain then 1 else period_of t.params.clock

-- ---- what they are ready for

pub record CallOpens (t : Terms) (attached : Role → Bool) : Type 0 where
  pub params : IsParams t.params
  pub video : attached Video ≡ true
  pub events : t.plain ≡ false → attached Events ≡ true
  pub pictures : attached Pictures ≡ true
  pub report : attached Report ≡ true

pub record PartsReady (x : CallParts) (attached : Role → Bool) : Type 0 where
  pub opens : CallOpens x.terms attached
  pub format : x.video.format ≡ x.terms.params.format
  pub frame : length x.link.frame.items ≡ size_of_picture x.terms.params.format
  pub sender_params : x.sender.params ≡ x.terms.params
  pub can : CanSend (way_of x.link.network) x.sender
  pub period : kept_in (way_of x.link.network) ≡ pictures_kept x.terms
  pub sent : x.sender.sent + x.video.more ≡ 1048576
  pub played : x.receiver.played ≤ x.sender.sent
  pub level : x.terms.plain ≡ true → x.receiver.played ≡ x.sender.sent
  pub unread : x.terms.plain ≡ true → x.link.trace.ended ≡ false
  pub few : x.link.trace.lines ≤ 16777216
  pub counted : total_of (tally_of (way_of x.link.network)) ≡ x.receiver.played
  -- a line or a frame makes 400 messages at most
  pub said : said_in x.link.network ≤ 400 * (x.link.trace.lines + x.sender.sent)

-- there is room for the messages of one more
abbrev pub HasRoomToSay : CallParts → Type 0
HasRoomToSay x = said_in x.link.network + 400 ≤ 400 * (x.link.trace.lines + x.sender.sent)

-- before the first event
pub record IsFreshLink (t : Terms) (link : Link) : Type 0 where
  pub lines : link.trace.lines ≡ 0
  pub ended : link.trace.ended ≡ false
  pub frame : length link.frame.items ≡ size_of_picture t.params.format
  pub network_is : IsNewNetwork t.params (pictures_kept t) link.network

-- ---- a line that was read

-- of the inputs nothing but the trace was read, and nothing was written
pub record ReadsTrace (inputs : Role → List ℕ) (old new : Outside) : Type 0 where
  pub told : Tells old inputs
  pub others : (r : Role) → r ≢ Events → new.left r ≡ old.left r
  pub written : new.written ≡ old.written

-- its bytes were taken, and nothing was written
pub record HasTaken (inputs : Role → List ℕ) (old new : Outside) : Type 0 where
  pub left : Tells new (left_after inputs (of Events (line_size (inputs Events))))
  pub written : new.written ≡ old.written

-- the parts stood at the state before the line, and the reader of the trace has passed it
pub record StoodBefore (x : CallParts) (s : CallState) (inputs : Role → List ℕ) : Type 0 where
  pub is : after_line s (inputs Events) ≡ call_state_of x s.before s.frames s.past
  pub begun : (receiver_end.run_of x.terms.params s.before).played ≡ 0
  pub sent : x.sender.sent ≡ length s.frames
  pub recorded : x.terms.plain ≡ false
  pub over : x.link.trace.ended ≡ true → left_after inputs (of Events (line_size (inputs Events))) Events ≡ []
  pub holds : (later : List Frame) → HasDone x s.before (s.frames ++ later) s.past
