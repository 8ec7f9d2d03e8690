-- The ends for which a slot stands, and what is told of them.
use Rattle.std.specs.Prelude.{◌≡◌, ℕ, List, [], length, Option, Some, None, Bool}
use Rattle.h263_bits.specs.declared.fault.Fault.{Fault}
use Rattle.h263_types.specs.declared.blocks.Mb.{Mb}
use Rattle.h263_types.specs.declared.clock.Clock.{Clock}
use Rattle.h263_types.specs.declared.params.Params.{Params}
use Rattle.h263_types.specs.Sizes.{size_of_picture}
use Rattle.h263_planes.specs.Picture.{Picture}
use Rattle.h263_planes.specs.Samples.{bytes_of}
use Rattle.call_model.specs.Coding as coding
use Rattle.call_model.specs.Sending as call
use Rattle.back_messages.specs.declared.message.MessageFault.{MessageFault}
use Rattle.sender_end.specs.declared.answers.Feedback.{Feedback}
use Rattle.h263rps_c.specs.declared.answers.Reply.{Reply}
use Rattle.h263rps_c.specs.Steering.{Steering, Steers}
use Rattle.call_model.specs.CodedPictures.{Coded as CodedPicture}
use Rattle.call_model.specs.Receiving as runs
use Rattle.call_model.specs.Receiving.{ReceiverEntry}
use Rattle.call_decoding.specs.Styles.{Style}
use Rattle.receiver_end.specs.declared.answers.Arrival.{Arrival}
use Rattle.receiver_end.specs.declared.answers.Played.{Played}
use Rattle.receiver_end.specs.Answers.{IsHeard, IsPlayed}
use Rattle.receiver_end.specs.State as receivers
use Rattle.sender_end.specs.declared.answers.Coded.{Coded}
use Rattle.sender_end.specs.Stands as senders
use Rattle.h263rps_c.specs.declared.answers.Answer.{Answer}
use Rattle.h263rps_c.specs.declared.answers.Made.{Made}
use Rattle.h263rps_c.specs.declared.ends.End.{End}
use Rattle.h263rps_c.specs.declared.ends.End.TheVariants.{Line, Receiving, Repeats, Sending}
use Rattle.h263rps_c.specs.Numbers.{arrived_answer, made_of, played_answer, reply_numbers}

-- ---- a receiver

-- inside is a receiver with these parameters, after these entries, the newest first
abbrev pub HoldsReceiver : Params → List ReceiverEntry → Option End → Type 0
HoldsReceiver p past None = ⊥
HoldsReceiver p past (Some (Sending s)) = ⊥
HoldsReceiver p past (Some (Receiving r)) = (r.params ≡ p) × receivers.Stands r past
HoldsReceiver p past (Some (Repeats r)) = ⊥
HoldsReceiver p past (Some (Line f)) = ⊥

-- these bytes are the picture that a receiver inside shows, and exactly as many as its format has
abbrev pub ShowsPicture : Option End → List ℕ → Type 0
ShowsPicture inside bytes = (p : Params) (past : List ReceiverEntry)
    → HoldsReceiver p past inside
    → (bytes ≡ bytes_of (receivers.run_of p past).screen)
    × (length bytes ≡ size_of_picture p.format)

-- the answer to a packet is this one, in numbers, with that of its picture, if it has one
pub record TellsHeard (clock : Clock) (answer : Answer) (heard : runs.Heard Fault)
    (number : Option ℕ) : Type 0 where
  pub told : Arrival
  pub is_heard : IsHeard clock told.heard heard
  pub is_of : told.number ≡ number
  pub is_told : answer ≡ arrived_answer told

-- the answer to a play is this mark and this message, in numbers
pub record TellsPlayed (clock : Clock) (answer : Answer) (mark : coding.Mark)
    (message : Option coding.Message) : Type 0 where
  pub told : Played
  pub is_played : IsPlayed clock told mark message
  pub is_told : answer ≡ played_answer told

-- ---- a sender

-- Inside is a sender with these parameters, which fits its target or follows it, and with this first
-- one, after all that was done to it, the newest first.
abbrev pub HoldsSteered : Params → Bool → ℕ → List Steering → Option End → Type 0
HoldsSteered p fits first past None = ⊥
HoldsSteered p fits first past (Some (Sending s)) = Steers p fits first past s
HoldsSteered p fits first past (Some (Receiving r)) = ⊥
HoldsSteered p fits first past (Some (Repeats r)) = ⊥
HoldsSteered p fits first past (Some (Line f)) = ⊥

-- the picture with this number is told in numbers
pub record TellsCoded (number : ℕ) (x : CodedPicture Style Mb Picture) (made : Made) : Type 0 where
  pub told : Coded
  pub describes : senders.Describes number x told
  pub is_told : made ≡ made_of told

-- the packets of the picture that was coded last
abbrev pub end_packets : Option End → List (List ℕ)
end_packets None = []
end_packets (Some (Sending s)) = s.sender.packets
end_packets (Some (Receiving r)) = []
end_packets (Some (Repeats r)) = []
end_packets (Some (Line f)) = []

-- the answer to a message is this one, in numbers
pub record TellsReply (answer : Reply) (reply : call.Reply MessageFault) : Type 0 where
  pub told : Feedback
  pub is_reply : senders.reply_of told ≡ reply
  pub is_told : answer ≡ reply_numbers told
