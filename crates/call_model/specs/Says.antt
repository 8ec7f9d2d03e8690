-- What a receiver has said in the call of any source.
use Rattle.std.specs.Prelude.{◌≡◌, ℕ, List, [], ◌∷◌, ◌++◌, map, slice_get}
use Rattle.std.specs.Option.{option_map_or}
use Rattle.call_model.specs.Coding.{Rules, Message, Decoding}
use Rattle.call_model.specs.IdealCall.{Event, Deliver, Play, Source, call_from, AllMayHappenFrom}
use Rattle.call_model.specs.Receiving.{Heard, Completed, heard, played_message}
use Rattle.call_model.specs.TwoStores.{travelling}
use Rattle.call_model.specs.Sound.{AllSound, Packets, received}

-- the message that this answer says, if it says one
abbrev pub answer_says : {Fault : Type 0} → Heard Fault → List Message
answer_says (Completed message) = message ∷ []
answer_says _ = []

module _ {Style Mb Picture Fault : Type 0} (decoding : Decoding Style Mb Picture Fault) (rules : Rules) where
  module _ (source : Source Style Mb Picture) (packets : Packets Style Mb Picture) where
    -- the messages that the receiver's run has said, oldest first
    abbrev pub receiver_said : List Event → List Message
    receiver_said [] = []
    receiver_said (Deliver n j ∷ past) =
        receiver_said past ++ option_map_or
        (λ bytes. answer_says
        (heard decoding rules (received decoding rules source packets past) (decoding.read bytes)))
        (slice_get (packets (call_from decoding.pictures rules source past).coded n) j) []
    receiver_said (Play ∷ past) =
        receiver_said past ++ option_map_or (λ m. m ∷ [])
        (played_message decoding rules (received decoding rules source packets past)) []
    receiver_said (_ ∷ past) = receiver_said past

  -- in a near call of sound pictures they are those of the call, as they travel
  abbrev pub SaysAsTheCall : Type 0
  SaysAsTheCall =
      (source : Source Style Mb Picture) (packets : Packets Style Mb Picture) (count : ℕ) (past : List Event) →
      AllMayHappenFrom decoding.pictures rules source count past → AllSound decoding rules source packets past
      → receiver_said source packets past ≡ map (travelling rules) (call_from decoding.pictures rules source past).said
