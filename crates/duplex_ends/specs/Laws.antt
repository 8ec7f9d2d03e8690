-- What the ends of both parties give whoever has them.
use Rattle.std.specs.Prelude.{◌≡◌, ◌+◌, List, [], ◌∷◌, ◌++◌, length, Ok}
use Rattle.h263_types.specs.declared.params.Params.{Params}
use Rattle.h263_types.specs.Params.{IsParams}
use Rattle.call_encoding.specs.Frames.{Frame}
use Rattle.back_messages.specs.Text.{message_in}
use Rattle.call_model.specs.IdealCall.{NumberedMessage}
use Rattle.call_model.specs.TwoStores.{travelling}
use Rattle.call_decoding.specs.Rules.{rules_of}
use Rattle.call_encoding.specs.Messages.{marked_message, write_message}
use Rattle.duplex_call.specs.declared.line.Party.{Party}
use Rattle.duplex_call.specs.Duplex.{WayRun, WayRuns, no_runs, other, with_play}
use Rattle.duplex_ends.specs.declared.party.PartyEnds.{PartyEnds}
use Rattle.duplex_ends.specs.Bringing.{AreOfClock}
use Rattle.duplex_ends.specs.Pair.{HoldsPair, IsNewParty}
use Rattle.duplex_ends.specs.Shown.{shown_next}
use Rattle.duplex_ends.specs.Ways.{call_by, call_in, sides, carried_from}

pub record PairLaws (p : Party → Params) : Type 0 where
  -- new ends have done nothing
  pub first : (x : Party) (own far : PartyEnds) → ((y : Party) → IsParams (p y))
      → (p x).clock ≡ (p (other x)).clock
      → IsNewParty (p x) own → IsNewParty (p (other x)) far → HoldsPair p x own far no_runs
  -- what the ends of both parties have done may be said from either of them
  pub exchanged : (x : Party) (own far : PartyEnds) (ways : WayRuns Frame)
      → HoldsPair p x own far ways → HoldsPair p (other x) far own ways
  -- the counts of the ends are those of the ideal call
  pub sent : (x : Party) (own far : PartyEnds) (ways : WayRuns Frame)
      → HoldsPair p x own far ways → own.sender.sent ≡ length (call_in p x ways).coded
  pub played : (x : Party) (own far : PartyEnds) (ways : WayRuns Frame)
      → HoldsPair p x own far ways → own.far_end.played ≡ (call_in p x ways).played

-- what the receiver of a way's pictures says
pub record SaidLaws (p : Params) : Type 0 where
  -- it fits a picture header
  pub fit : (w : WayRun Frame) → AreOfClock p.clock (carried_from p w)
  -- the last message is read from its bytes
  pub read : (w : WayRun Frame) (notes : List NumberedMessage) (note : NumberedMessage)
      → (call_by p w).said ≡ notes ++ note ∷ []
      → message_in p.clock (write_message (travelling (rules_of p) note))
      ≡ Ok (marked_message (travelling (rules_of p) note))

-- what a play leaves of the ideal call of its party's pictures
pub record AfterPlay (p : Party → Params) (x : Party) (ways : WayRuns Frame) : Type 0 where
  pub coded : (call_in p x (with_play (sides p) x ways)).coded ≡ (call_in p x ways).coded
  pub played : (call_in p x (with_play (sides p) x ways)).played ≡ (call_in p x ways).played + 1
  pub plays : (call_in p x (with_play (sides p) x ways)).plays
      ≡ shown_next p x ways ∷ (call_in p x ways).plays
