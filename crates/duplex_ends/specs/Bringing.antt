-- How the messages of a header come back, and how it is told that one of them is far.
use Rattle.std.specs.Prelude.{◌≡◌, ℕ, ◌+◌, ◌<◌, ⊤, List, [], ◌∷◌, length, nat_le, slice_get, Option, Some, None, Result, Ok, Err, if◌then◌else◌}
use Rattle.h263_types.specs.declared.blocks.Mb.{Mb}
use Rattle.h263_types.specs.declared.clock.Clock.{Clock}
use Rattle.h263_types.specs.declared.params.Params.{Params}
use Rattle.h263_planes.specs.Picture.{Picture}
use Rattle.back_messages.specs.Said.{text_of_said}
use Rattle.back_messages.specs.Text as back
use Rattle.back_messages.specs.declared.message.Message.{Message}
use Rattle.back_messages.specs.declared.message.MessageFault.{MessageFault}
use Rattle.back_messages.specs.declared.writing.Said.{Said}
use Rattle.call_model.specs.JoinedRun.{Joined, SaidMessage}
use Rattle.call_model.specs.IdealCall.{Event}
use Rattle.call_decoding.specs.Rules.{rules_of}
use Rattle.call_decoding.specs.Styles.{Style}
use Rattle.call_encoding.specs.Frames.{Frame}
use Rattle.call_encoding.specs.Messages.{written_message}
use Rattle.receiver_end.specs.declared.kept.Kept.{Kept}
use Rattle.duplex_call.specs.declared.queue.Carried.{Carried}
use Rattle.duplex_call.specs.Duplex.{brought}
use Rattle.one_way.specs.declared.way.Way.{Way}
use Rattle.one_way.specs.Both.{State, both_after, steady}
use Rattle.one_way.specs.Way.{HoldsWay}
use Rattle.one_way.specs.declared.refusals.EventRefusal.{EventRefusal}
use Rattle.one_way.specs.declared.refusals.EventRefusal.TheVariants.{Far}

-- what was said of picture n is read, and waits: it has no fault
abbrev pub read_as : ℕ → Result Message MessageFault → List Carried
read_as n (Ok message) = record { about = n; message = message } ∷ []
read_as n (Err fault) = []

abbrev pub said_as : Clock → ℕ → Option Said → List Carried
said_as clock n None = []
said_as clock n (Some said) = read_as n (back.message_in clock (text_of_said said))

-- the messages in some places
abbrev pub carried_in : List (Option Carried) → List Carried
carried_in [] = []
carried_in (None ∷ places) = carried_in places
carried_in (Some m ∷ places) = m ∷ carried_in places

abbrev pub carried_message : Carried → Message
carried_message m = m.message

-- all of them are messages of this clock
abbrev pub AreOfClock : Clock → List Carried → Type 0
AreOfClock clock [] = ⊤
AreOfClock clock (m ∷ messages) = back.IsMessage clock m.message × AreOfClock clock messages

-- message k of what was said is this one, and its picture is less than half a period behind the
-- capture
pub record MayReturn (p : Params) (both : Joined Style Mb Picture) (k : ℕ)
    (m : Carried) : Type 0 where
  pub told : SaidMessage
  pub is : slice_get both.said k ≡ Some told
  pub bytes : told.bytes ≡ written_message m.message
  pub near : length both.sender.coded < told.about + (rules_of p).half

abbrev pub MayReturnAll : Params → Joined Style Mb Picture → List ℕ → List Carried → Type 0
MayReturnAll p both [] [] = ⊤
MayReturnAll p both (k ∷ ks) (m ∷ messages) =
    MayReturn p both k m × MayReturnAll p both ks messages
MayReturnAll p both [] (m ∷ messages) = ⊥
MayReturnAll p both (k ∷ ks) [] = ⊥

-- Some messages have come back, and these are left.
pub record IsReturning (p : Params) (way : Way) (sender : State) (receiver : Kept)
    (frames : List Frame) (whole : List Event) (messages : List Carried) : Type 0 where
  pub past : List Event
  pub left : List ℕ
  pub holds : HoldsWay p way sender receiver [] frames past
  pub may : MayReturnAll p (both_after p (steady p) frames [] past) left messages
  pub same : brought left past ≡ whole

-- the first of these messages that is about a picture half a period or more behind this count, told
-- by that picture
abbrev pub first_far : ℕ → ℕ → List Carried → Result Unit EventRefusal
first_far half sent [] = Ok tt
first_far half sent (m ∷ messages) =
    if nat_le (m.about + half) sent then Err (Far m.about sent) else first_far half sent messages
