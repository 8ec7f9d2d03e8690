-- That the four ends do what the two ideal calls say.
use Rattle.std.specs.Prelude.{◌≡◌, ℕ, ◌-◌, ◌≤◌, List, length, drop}
use Rattle.call_model.specs.Coding.{Message}
use Rattle.call_model.specs.JoinedRun.{Joined, joined, new_receiver}
use Rattle.call_model.specs.Lawful.{IsCoding, IsRules, IsPace}
use Rattle.call_model.specs.TwoStores.{EndsFollow}
use Rattle.duplex_call.specs.declared.line.Party.{Party}
use Rattle.duplex_call.specs.Duplex.{WayCoding, WayRun, call_of, numbers_carried, messages_at}

-- what the laws of a call ask of a side
pub record IsWayCoding {Captured Frame Style Mb Picture Fault MessageFault : Type 0}
    (side : WayCoding Captured Frame Style Mb Picture Fault MessageFault) : Type 0 where
  pub coding : IsCoding side.coding side.rules
  pub rules : IsRules side.rules
  pub pace : IsPace side.pace

module _ {Captured Frame Style Mb Picture Fault MessageFault : Type 0}
    (side : Party → WayCoding Captured Frame Style Mb Picture Fault MessageFault) where
  -- the two ends of a party's pictures, with its frames and its events
  abbrev pub ends_of : Party → WayRun Frame → Joined Style Mb Picture
  ends_of x w =
      joined (side x).coding (side x).rules
      (new_receiver (side x).coding (side x).rules) (side x).pace w.frames w.past

  -- the ends of a party's pictures do what the ideal call of its frames and events says
  abbrev pub PartyEndsFollow : Party → WayRun Frame → Type 0
  PartyEndsFollow x w = EndsFollow (side x).coding (side x).rules (call_of side x w) (ends_of x w)

-- the messages of the last four numbers since the load are the last four, at most, of those that were
-- said since then
abbrev pub LastFourAre : Type 0
LastFourAre = (said : List Message) (loaded : ℕ) → loaded ≤ length said →
    messages_at said (numbers_carried loaded (length said)) ≡ drop (length said - loaded - 4) (drop loaded said)
