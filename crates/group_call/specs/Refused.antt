-- Which events of a group's call are refused, by its counts.
use Rattle.std.specs.Prelude.{ℕ, ◌+◌, nat_le, length, map, Option, Some, if◌then◌else◌}
use Rattle.h263_types.specs.declared.params.Params.{Params}
use Rattle.call_model.specs.IdealCall.{Event, Back}
use Rattle.call_model.specs.JoinedRun.{SaidMessage}
use Rattle.call_model.specs.Refusals.{Refusal, Far, first_refusal}
use Rattle.call_decoding.specs.Rules.{rules_of}
use Rattle.group_sender.specs.Holding.{Groups}
use Rattle.receiver_end.specs.State.{run_of}
use Rattle.call_rings.specs.Messages.{kept_messages}
use Rattle.group_call.specs.Viewing.{ViewerRun}

-- a message that has left the ring is far, whatever picture it is about: it is told by its own number
abbrev pub unless_left : ℕ → ℕ → ℕ → Option Refusal → Option Refusal
unless_left said sent k refusal = if nat_le said (k + kept_messages) then refusal else Some (Far k sent)

-- The first refusal of an event at one receiver, by its own counts and those of the group; of a
-- capture as far as this receiver is behind.
abbrev pub view_refusal : Params → Groups → ViewerRun → Event → Option Refusal
view_refusal p run view (Back k) =
    unless_left (length view.told) (length run.coded) k
    (first_refusal (rules_of p) (length run.coded + 1) (length run.coded)
    (run_of p view.entries).played (map (λ (told : SaidMessage). told.about) view.told) (Back k))
view_refusal p run view e =
    first_refusal (rules_of p) (length run.coded + 1) (length run.coded)
    (run_of p view.entries).played (map (λ (told : SaidMessage). told.about) view.told) e
