-- Which events a call refuses, by its counts: those that are not in place or not near.
use Rattle.std.specs.Prelude.{◌≡◌, ◌↔◌, ℕ, ◌+◌, Bool, true, ◌&&◌, not, nat_le, is_some, List, [], ◌∷◌, length, map, slice_get, Option, Some, None, if◌then◌else◌}
use Rattle.std.specs.Option.{option_map_or}
use Rattle.call_model.specs.Coding.{Rules, Pictures, Coding}
use Rattle.call_model.specs.IdealCall.{Event, Send, Deliver, Play, Back, about, Call, Source, MayHappen, start, after, AllMayHappenFrom}
use Rattle.call_model.specs.JoinedRun.{SaidMessage, Joined, MayHappenBoth}

pub data Refusal : Type 0 where
  -- the picture was not sent, the message was not said
  NotSent : Refusal
  NotSaid : Refusal
  -- the event is not near, by these two numbers: those of pictures that were sent and played at a
  -- capture, the packet's picture and those that were played, the message's picture and those that
  -- were sent
  Far : (given other : ℕ) → Refusal
  -- all that was sent was played
  PlayBeforeSend : Refusal
  -- no picture is left to be sent
  NoFrame : Refusal

-- The first refusal of an event, where there are this many pictures to be sent, this many were sent
-- and this many played, and the messages were about these.
unfoldable pub first_refusal : Rules → (pictures sent played : ℕ) → List ℕ → Event → Option Refusal
first_refusal rules pictures sent played abouts Send =
    if nat_le (played + rules.half) sent then Some (Far sent played)
    else if nat_le pictures sent then Some NoFrame else None
first_refusal rules pictures sent played abouts (Deliver n j) =
    if nat_le sent n then Some NotSent
    else if nat_le (n + rules.half) played then Some (Far n played) else None
first_refusal rules pictures sent played abouts Play =
    if nat_le sent played then Some PlayBeforeSend else None
first_refusal rules pictures sent played abouts (Back k) =
    option_map_or (λ t. if nat_le (t + rules.half) sent then Some (Far t sent) else None)
    (slice_get abouts k) (Some NotSaid)

-- the first refusal of an event after a call
abbrev pub refusal_in : {Style Mb Picture : Type 0} → Rules → ℕ → Call Style Mb Picture → Event → Option Refusal
refusal_in rules pictures c e = first_refusal rules pictures (length c.coded) c.played (map about c.said) e

-- an event is refused by no refusal exactly where it is in place and near
abbrev pub NoneWhereItMayHappen : Rules → Type 0 → Type 0 → Type 0 → Type 0
NoneWhereItMayHappen rules Style Mb Picture = (pictures : ℕ) (c : Call Style Mb Picture) (e : Event) →
    (refusal_in rules pictures c e ≡ None) ↔ MayHappen rules pictures c e

-- so it is by what both ends have done
abbrev pub NoneWhereItMayHappenBoth : {Frame Style Mb Picture Fault MessageFault : Type 0}
    → Coding Frame Style Mb Picture Fault MessageFault → Rules → Type 0
NoneWhereItMayHappenBoth {Frame} {Style} {Mb} {Picture} {Fault} {MessageFault} coding rules =
    (frames : List Frame) (both : Joined Style Mb Picture) (e : Event) →
    (first_refusal rules (length frames) (length both.sender.coded) both.receiver.played
    (map (λ (told : SaidMessage). told.about) both.said) e ≡ None)
    ↔ MayHappenBoth coding rules frames both e

-- a call, and whether none of its events was refused
pub record Checked (Style Mb Picture : Type 0) : Type 0 where
  pub call : Call Style Mb Picture
  pub passed : Bool

module _ {Style Mb Picture : Type 0} (pictures : Pictures Style Mb Picture)
    (rules : Rules) (source : Source Style Mb Picture) (count : ℕ) where
  abbrev pub checked_event : Checked Style Mb Picture → Event → Checked Style Mb Picture
  checked_event j e = record {
    call = after pictures rules source j.call e;
    passed = not (is_some (refusal_in rules count j.call e)) && j.passed;
  }

  -- the call after these events, the newest first, with that
  abbrev pub checked_call : List Event → Checked Style Mb Picture
  checked_call [] = record { call = start pictures rules source; passed = true }
  checked_call (e ∷ past) = checked_event (checked_call past) e

  -- none of the events was refused exactly where each is near
  abbrev pub PassedWhereNear : Type 0
  PassedWhereNear = (past : List Event)
      → ((checked_call past).passed ≡ true) ↔ AllMayHappenFrom pictures rules source count past
