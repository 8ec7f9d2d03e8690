-- What the machine of a call on made input keeps in mind, and what it is ready for.
use Rattle.std.specs.Prelude.{◌≡◌, ℕ, ◌+◌, ◌*◌, ◌^◌, ◌<◌, ◌≤◌, ⊤, Bool, true, List, [], ◌∷◌, length}
use Rattle.h263_outside.specs.declared.desk.Role.{Role}
use Rattle.h263_outside.specs.declared.desk.Role.TheVariants.{Report}
use Rattle.h263_types.specs.Clocks as clocks
use Rattle.h263_types.specs.Params.{IsParams}
use Rattle.h263_types.specs.Sizes.{size_of_picture}
use Rattle.loss_trace.specs.declared.event.Event.{Event as Line}
use Rattle.loss_trace.specs.declared.event.Event.TheVariants as says
use Rattle.make_input.specs.Left.{lines_left}
use Rattle.make_input.specs.Trace.{made_trace}
use Rattle.call_model.specs.IdealCall.{AllMayHappen, Event}
use Rattle.call_decoding.specs.Rules.{rules_of}
use Rattle.coded_call.specs.Coding.{coding}
use Rattle.one_way.specs.Both.{steady}
use Rattle.one_way.specs.Counts.{total_of}
use Rattle.one_way.specs.Way.{CanSend, HoldsNetwork, SaysNothing, kept_in, said_in, tally_of, way_of}
use Rattle.demo_command.specs.declared.demo.Demo.{Demo}
use Rattle.demo_command.specs.declared.terms.DemoTerms.{DemoTerms}
use Rattle.demo_command.specs.Demo.{DemoState, made_events, made_video}

-- ---- lines

-- Where this many of the frames were sent, each line that sends has a frame, and each that
-- delivers all packets of a picture has one that was sent.
abbrev pub AreInPlace : ℕ → ℕ → List Line → Type 0
AreInPlace frames sent [] = ⊤
AreInPlace frames sent (says.Send ∷ lines) = (sent < frames) × AreInPlace frames (sent + 1) lines
AreInPlace frames sent (says.All n ∷ lines) = (n < sent) × AreInPlace frames sent lines
AreInPlace frames sent (_ ∷ lines) = AreInPlace frames sent lines

-- ---- at a line

-- these events are in place and near in the call of the made video
abbrev pub IsNearNow : DemoTerms → List Event → Type 0
IsNearNow t past = AllMayHappen (coding t.params) (rules_of t.params) (steady t.params) (made_video t) past

-- both ends and the network have done these events
abbrev pub DemoHasDone : Demo → List Event → Type 0
DemoHasDone m past = HoldsNetwork m.terms.params m.network m.both.sender m.both.receiver [] (made_video m.terms) past

-- this many pictures were sent after the line
abbrev pub sent_after : Line → ℕ → ℕ
sent_after says.Send sent = sent + 1
sent_after _ sent = sent

-- both ends and the network are ready for a line
pub record LineReady (m : Demo) : Type 0 where
  pub params : IsParams m.terms.params
  pub frame : length m.frame.items ≡ size_of_picture m.terms.params.format
  pub sender_params : m.both.sender.params ≡ m.terms.params
  pub can : CanSend (way_of m.network) m.both.sender
  pub period : kept_in (way_of m.network) ≡ clocks.period_of m.terms.params.clock
  pub few : m.both.sender.sent ≤ 10000
  pub counted : total_of (tally_of (way_of m.network)) ≡ m.both.receiver.played

-- one picture more was sent, and all else that counts stays as it was
pub record SendsOne (old new : Demo) : Type 0 where
  pub terms : new.terms ≡ old.terms
  pub lines : new.lines ≡ old.lines
  pub sent : new.both.sender.sent ≡ old.both.sender.sent + 1
  pub messages : SaysNothing old.network new.network
  pub played : new.both.receiver.played ≡ old.both.receiver.played

-- ---- the machine

-- its lines and its ends are those of the state, which is on its way to the whole made call
pub record DemoStands (m : Demo) (s : DemoState) (inputs : Role → List ℕ) : Type 0 where
  pub terms : s.terms ≡ m.terms
  pub lines : s.lines ≡ lines_left m.lines
  pub ahead : made_events m.terms s.past s.lines ≡ made_events m.terms [] (made_trace m.terms.seed m.terms.frames)
  pub done : DemoHasDone m s.past

pub record DemoOpens (t : DemoTerms) (attached : Role → Bool) : Type 0 where
  pub params : IsParams t.params
  pub frames : t.frames ≤ 10000
  pub report : attached Report ≡ true

pub record DemoReady (m : Demo) (attached : Role → Bool) : Type 0 where
  pub opens : DemoOpens m.terms attached
  pub ends : LineReady m
  pub in_place : AreInPlace 10000 m.both.sender.sent (lines_left m.lines)
  -- a line makes 400 messages at most, and plays one picture
  pub said : said_in m.network + 400 * length (lines_left m.lines) < 2 ^ 64
  pub plays : m.both.receiver.played + length (lines_left m.lines) ≤ 2 ^ 20
