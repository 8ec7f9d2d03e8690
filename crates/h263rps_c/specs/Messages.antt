-- The messages that C hands over for a picture's header.
use Rattle.std.specs.Prelude.{ℕ, ◌==◌, ◌||◌, List, [], ◌∷◌, take, Option, Some, None, Result, Ok, Err, if◌then◌else◌}
use Rattle.h263_types.specs.declared.clock.Clock.{Clock}
use Rattle.back_messages.specs.declared.message.Message.{Message}
use Rattle.back_messages.specs.declared.message.MessageFault.{MessageFault}
use Rattle.back_messages.specs.Text.{IsMessage, message_in}
use Rattle.h263rps_c.specs.declared.answers.CMessage.{CMessage}
use Rattle.h263rps_c.specs.declared.messages.Place.{Place}
use Rattle.h263rps_c.specs.declared.messages.Place.TheVariants.{Empty, Says, Wrong}

-- the bytes of a message
abbrev pub text_in : CMessage → List ℕ
text_in said = take said.length said.bytes

abbrev pub place_read : Result Message MessageFault → Place
place_read (Err fault) = Wrong
place_read (Ok m) = Says m

-- what is in a place: nothing where its length is 0, or a message of three bytes or five; no other
-- length is one
abbrev pub said_place : Clock → CMessage → Place
said_place clock said =
    if said.length == 0 then Empty
    else if (said.length == 3) || (said.length == 5) then place_read (message_in clock (text_in said))
    else Wrong

-- a message in it is one of a clock
abbrev pub IsMessagePlace : Clock → Place → Type 0
IsMessagePlace clock (Says m) = IsMessage clock m
IsMessagePlace clock _ = Unit {0}

abbrev pub messages_with_place : Place → Option (List Message) → Option (List Message)
messages_with_place Empty others = others
messages_with_place Wrong others = None
messages_with_place (Says m) None = None
messages_with_place (Says m) (Some messages) = Some (m ∷ messages)

-- the messages by a clock, if each place that isn't empty has one
abbrev pub messages_of : Clock → List CMessage → Option (List Message)
messages_of clock [] = Some []
messages_of clock (said ∷ others) = messages_with_place (said_place clock said) (messages_of clock others)
