-- What a header may say: the values that the fields allow.
use Rattle.std.specs.Prelude.{◌≡◌, ℕ, ◌<◌, ◌≤◌, ◌^◌, List, [], ◌∷◌, length, Option, Some, None}
use Rattle.h263_types.specs.declared.Kind.{Kind}
use Rattle.h263_types.specs.declared.Kind.TheVariants as kinds
use Rattle.h263_types.specs.declared.clock.Clock.{Clock}
use Rattle.h263_types.specs.Clocks.{period_of}
use Rattle.back_messages.specs.declared.message.Message.{Message}
use Rattle.back_messages.specs.Text.{IsMessage}
use Rattle.picture_header.specs.declared.header.Header.{Header}
use Rattle.picture_header.specs.Text.{in_places}

-- a P picture, and no other, names its reference, by a number of the clock
abbrev pub IsReference : Clock → Kind → Option ℕ → Type 0
IsReference clock kinds.I None = Unit {0}
IsReference clock kinds.I (Some trp) = ⊥
IsReference clock kinds.P None = ⊥
IsReference clock kinds.P (Some trp) = trp < period_of clock

-- a reference, if there is one, that has ten bits
abbrev pub HasTenBits : Option ℕ → Type 0
HasTenBits None = Unit {0}
HasTenBits (Some trp) = trp < 2 ^ 10

-- the messages in some places
abbrev pub messages_in : List (Option Message) → List Message
messages_in [] = []
messages_in (None ∷ places) = messages_in places
messages_in (Some m ∷ places) = m ∷ messages_in places

-- messages whose temporal references are the clock's
abbrev pub AreMessages : Clock → List Message → Type 0
AreMessages clock [] = Unit {0}
AreMessages clock (m ∷ messages) = IsMessage clock m × AreMessages clock messages

-- four places, with the messages first
pub record IsBack (clock : Clock) (places : List (Option Message)) : Type 0 where
  pub first : places ≡ in_places (messages_in places)
  pub few : length (messages_in places) ≤ 4
  pub each : AreMessages clock (messages_in places)

pub record IsHeader (h : Header) : Type 0 where
  pub tr : h.tr < period_of h.clock
  pub rounding : h.rounding ≤ 1
  pub channel : h.channel ≤ 3
  pub trp : IsReference h.clock h.kind h.trp
  pub quant_some : 1 ≤ h.quant
  pub quant_low : h.quant ≤ 31
  pub back : IsBack h.clock h.back
