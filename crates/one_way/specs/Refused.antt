-- How the refusal of an event is told.
use Rattle.std.specs.Prelude.{◌≡◌, ℕ, ◌+◌, List, length, Option, Some, None, Result, Ok, Err}
use Rattle.call_model.specs.IdealCall.{Event, Send, Deliver, Play, Back}
use Rattle.call_model.specs.Receiving.{ReceiverEntry}
use Rattle.call_model.specs.Refusals as call
use Rattle.call_model.specs.Refusals.{first_refusal}
use Rattle.h263_types.specs.declared.params.Params.{Params}
use Rattle.call_decoding.specs.Rules.{rules_of}
use Rattle.call_encoding.specs.Frames.{Frame}
use Rattle.one_way.specs.Both.{both_after, steady}
use Rattle.one_way.specs.Seen.{in_both}
use Rattle.one_way.specs.declared.refusals.EventRefusal.{EventRefusal}
use Rattle.one_way.specs.declared.refusals.EventRefusal.TheVariants.{NotSent, NotSaid, Far, PlayBeforeSend, NoFrame}

-- what a far event asks for: of a message its own number is told, not its picture's
abbrev pub given_by : Event → ℕ → ℕ
given_by (Back k) given = k
given_by Send given = given
given_by (Deliver n j) given = given
given_by Play given = given

abbrev pub told_as : Event → call.Refusal → EventRefusal
told_as e call.NotSent = NotSent
told_as e call.NotSaid = NotSaid
told_as e (call.Far given other) = Far (given_by e given) other
told_as e call.PlayBeforeSend = PlayBeforeSend
told_as e call.NoFrame = NoFrame

-- an event may happen where it has no refusal, and else is told to be refused so
abbrev pub IsAllowed : Result Unit EventRefusal → Event → Option call.Refusal → Type 0
IsAllowed (Ok _) e refusal = refusal ≡ None
IsAllowed (Err told) e refusal = (r : call.Refusal) × (refusal ≡ Some r) × (told ≡ told_as e r)

-- the first refusal of an event, by what both ends have done, as far as it is told before a frame is
-- read
abbrev pub refusal_after : Params → List ReceiverEntry → List Frame → List Event → Event → Option call.Refusal
refusal_after p before frames past e =
    let seen = in_both (both_after p (steady p) frames before past) in
    first_refusal (rules_of p) (length seen.coded + 1) (length seen.coded) seen.played seen.abouts e
