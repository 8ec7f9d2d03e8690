-- What the ends of both parties have done of a call of two.
use Rattle.std.specs.Prelude.{◌≡◌, ℕ, ◌≤◌, [], drop, length}
use Rattle.h263_types.specs.declared.params.Params.{Params}
use Rattle.h263_types.specs.Clocks as clocks
use Rattle.h263_types.specs.Params.{IsParams}
use Rattle.call_encoding.specs.Frames.{Frame}
use Rattle.call_model.specs.IdealCall.{Event}
use Rattle.receiver_end.specs.State as receiver_end
use Rattle.sender_end.specs.Stands as sender_end
use Rattle.duplex_call.specs.declared.line.Party.{Party}
use Rattle.duplex_call.specs.Duplex.{MayHappenOf, WayRun, WayRuns, other, way}
use Rattle.duplex_call.specs.Waiting.{Waits}
use Rattle.one_way.specs.Both.{steady}
use Rattle.one_way.specs.Counts.{total_of}
use Rattle.one_way.specs.Way.{CanSend, HoldsWay, IsNewWay, kept_in, tally_of}
use Rattle.duplex_ends.specs.declared.party.PartyEnds.{PartyEnds}
use Rattle.duplex_ends.specs.Headers.{HasHeaders, HoldsHeaders, kept_by}
use Rattle.duplex_ends.specs.Ways.{sides, carried_from}

-- The ends of one party's pictures, which have these parameters, have done what its way says. The
-- headers carry what was said of the other way, whose pictures have those parameters, and what was
-- said of it since the last capture waits.
pub record HoldsParty (p q : Params) (own : PartyEnds) (w far : WayRun Frame) : Type 0 where
  pub params : own.params ≡ p
  pub done : HoldsWay p own.way own.sender own.far_end [] w.frames w.past
  pub can : CanSend own.way own.sender
  pub period : kept_in own.way ≡ clocks.period_of p.clock
  pub sent : own.sender.sent ≡ length w.frames
  pub few : own.sender.sent ≤ 1048576
  pub behind : own.far_end.played ≤ own.sender.sent
  pub counted : total_of (tally_of own.way) ≡ own.far_end.played
  pub kept : kept_by own.carried ≡ clocks.period_of p.clock
  pub carries : HasHeaders own.carried (carried_from q far) w.carried
  pub headers : length w.carried ≡ length w.frames
  pub loaded : w.loaded ≤ length (carried_from q far)
  pub waits : Waits own.waiting (drop w.loaded (carried_from q far))

-- The ends of both parties have done what both ways say: the first ones are those of this party's
-- pictures.
pub record HoldsPair (p : Party → Params) (x : Party) (own far : PartyEnds)
    (ways : WayRuns Frame) : Type 0 where
  pub in_range : (y : Party) → IsParams (p y)
  pub clock : (p x).clock ≡ (p (other x)).clock
  pub own_holds : HoldsParty (p x) (p (other x)) own (way x ways) (way (other x) ways)
  pub far_holds : HoldsParty (p (other x)) (p x) far (way (other x) ways) (way x ways)

-- the ends of both parties are at some point of a call
pub record AreInCall (own far : PartyEnds) : Type 0 where
  pub params : Party → Params
  pub party : Party
  pub ways : WayRuns Frame
  pub holds : HoldsPair params party own far ways

-- those of one party are
pub record IsInCall (own : PartyEnds) : Type 0 where
  pub far : PartyEnds
  pub both : AreInCall own far

-- and an event of the first party's pictures may happen there
pub record MayHappenToParty (own far : PartyEnds) (e : Event) : Type 0 where
  pub params : Party → Params
  pub party : Party
  pub ways : WayRuns Frame
  pub left : ℕ
  pub holds : HoldsPair params party own far ways
  pub may : MayHappenOf (sides params) left party e ways

-- so it may, for some ends of the other party
pub record MayHappenToOne (own : PartyEnds) (e : Event) : Type 0 where
  pub far : PartyEnds
  pub now : MayHappenToParty own far e

-- ---- before the first event

pub record IsNewParty (p : Params) (own : PartyEnds) : Type 0 where
  pub params : own.params ≡ p
  pub sender_params : own.sender.params ≡ p
  pub receiver_params : own.far_end.params ≡ p
  pub quant : own.sender.pace.quant ≡ p.quant
  pub sent : own.sender.sent ≡ 0
  pub played : own.far_end.played ≡ 0
  pub sends : sender_end.PacedStands (steady p) own.sender []
  pub receives : receiver_end.Stands own.far_end []
  pub way_is : IsNewWay p (clocks.period_of p.clock) own.way
  pub kept : kept_by own.carried ≡ clocks.period_of p.clock
  pub holds : HoldsHeaders own.carried []
  pub waits : Waits own.waiting []
