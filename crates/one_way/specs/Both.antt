-- Both ends of a call, and what they have done in it.
use Rattle.std.specs.Prelude.{◌≡◌, ℕ, List, [], ◌++◌}
use Rattle.h263_types.specs.declared.blocks.Mb.{Mb}
use Rattle.h263_types.specs.declared.params.Params.{Params}
use Rattle.h263_planes.specs.Picture.{Picture}
use Rattle.back_messages.specs.declared.message.Message.{Message}
use Rattle.call_model.specs.Coding.{pictures_of}
use Rattle.call_model.specs.CodedPictures.{Coded as CodedPicture}
use Rattle.call_model.specs.IdealCall.{Event}
use Rattle.call_model.specs.Receiving.{ReceiverEntry}
use Rattle.call_model.specs.Sending.{SenderEntry, next_coded}
use Rattle.call_model.specs.JoinedRun.{Joined, joined, sender_entries, receiver_entries}
use Rattle.call_decoding.specs.Rules.{rules_of}
use Rattle.call_decoding.specs.Styles.{Style}
use Rattle.call_encoding.specs.Frames.{Frame}
use Rattle.coded_call.specs.Coding.{coding}
use Rattle.h263_types.specs.declared.pace.FixedPace.{FixedPace}
use Rattle.sender_end.specs.State.{SenderState}
use Rattle.sender_end.specs.Stands as sender_end
use Rattle.receiver_end.specs.declared.kept.Kept.{Kept}
use Rattle.receiver_end.specs.State as receiver_end

-- the sender of a call, as its contracts see it: with one quantiser for all pictures
abbrev pub State : Type 0
State = SenderState FixedPace

-- its parameters and its pace stay, and whether it draws each picture
pub record IsSameSender (old new : State) : Type 0 where
  pub params : new.params ≡ old.params
  pub pace : new.pace ≡ old.pace
  pub draws_all : new.draws_all ≡ old.draws_all

-- a captured picture whose header carries these messages, and one that carries none
abbrev pub carrying : Picture → List Message → Frame
carrying picture messages = record { picture = picture; messages = messages }

abbrev pub bare : Picture → Frame
bare picture = carrying picture []

-- every picture has the quantiser of the parameters
abbrev pub steady : Params → List ℕ → ℕ
steady p sizes = p.quant

-- what both ends have done after these events, the newest first, where these frames are there to
-- be sent and the receiver had taken these entries before
abbrev pub both_after : Params → (List ℕ → ℕ) → List Frame → List ReceiverEntry → List Event → Joined Style Mb Picture
both_after p pace frames before past =
    joined (coding p) (rules_of p) (receiver_end.run_of p before) pace frames past

-- the next picture of the sender, of this frame
abbrev pub next_of : Params → (List ℕ → ℕ) → Frame → Joined Style Mb Picture → CodedPicture Style Mb Picture
next_of p pace frame both =
    next_coded (pictures_of (coding p)) (coding p).encoding (rules_of p) pace frame both.sender.coded both.sender.known

-- The sender stands for what these events have done to it, and so does the receiver, after what it
-- had taken before.
pub record AreJoined (p : Params) (pace : List ℕ → ℕ) (sender : State) (receiver : Kept)
    (frames : List Frame) (before : List ReceiverEntry) (past : List Event) : Type 0 where
  pub sender_params : sender.params ≡ p
  pub receiver_params : receiver.params ≡ p
  pub sends : sender_end.PacedStands pace sender
      (sender_entries (coding p) (rules_of p) (receiver_end.run_of p before) pace frames past)
  pub receives : receiver_end.Stands receiver (receiver_entries
      (coding p) (rules_of p) (receiver_end.run_of p before) pace frames past ++ before)

-- the sender stands for some entries
pub record IsStanding (pace : List ℕ → ℕ) (sender : State) : Type 0 where
  pub entries : List (SenderEntry Frame)
  pub stands : sender_end.PacedStands pace sender entries
