-- What an event of one party's pictures leaves as it was, with either party.
use Rattle.std.specs.Prelude.{◌≡◌}
use Rattle.duplex_ends.specs.declared.party.PartyEnds.{PartyEnds}

-- A delivery sends and plays nothing, and its party's sender and the other party's receiver have no
-- part in it.
pub record KeepsInDelivery (own far own_new far_new : PartyEnds) : Type 0 where
  pub own_params : own_new.params ≡ own.params
  pub far_params : far_new.params ≡ far.params
  pub own_sender : own_new.sender ≡ own.sender
  pub far_sent : far_new.sender.sent ≡ far.sender.sent
  pub own_played : own_new.far_end.played ≡ own.far_end.played
  pub far_receiver : far_new.far_end ≡ far.far_end

-- A play has no part for either sender, nor for the other party's receiver.
pub record KeepsInPlay (own far own_new far_new : PartyEnds) : Type 0 where
  pub own_params : own_new.params ≡ own.params
  pub far_params : far_new.params ≡ far.params
  pub own_sender : own_new.sender ≡ own.sender
  pub far_sender : far_new.sender ≡ far.sender
  pub far_receiver : far_new.far_end ≡ far.far_end
