-- What a syntax that has messages in it needs to know of them.
use Rattle.std.specs.Prelude.{◌≡◌, length}
use Rattle.h263_types.specs.declared.clock.Clock.{Clock}
use Rattle.h263_types.specs.declared.clock.Clock.TheVariants.{Custom}
use Rattle.h263_bits.specs.Syntax.{Spells, IsProductive}
use Rattle.back_messages.specs.declared.message.Message.{Message}
use Rattle.back_messages.specs.Text.{IsMessage, message, message_text, message_bits}

pub record MessageLaws : Type 0 where
  pub productive : (clock : Clock) → IsProductive (message clock)
  -- what is written is spelled
  pub spelt : (clock : Clock) (m : Message) → IsMessage clock m → Spells (message clock) m (message_text m)
  pub length : (m : Message) → length (message_text m) ≡ message_bits m
  -- the custom clock has the numbers of both
  pub wide : (clock : Clock) (m : Message) → IsMessage clock m → IsMessage Custom m
