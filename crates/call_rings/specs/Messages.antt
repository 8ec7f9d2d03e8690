-- What a ring of messages keeps: the last 1,024.
use Rattle.std.specs.Prelude.{◌≡◌, ℕ, ◌+◌, nat_le, List, length, slice_get, Option, None, if◌then◌else◌}
use Rattle.circular_buffer.specs.Buffer.{buffer, keep_last}
use Rattle.back_messages.specs.declared.writing.Said.{Said}
use Rattle.call_rings.specs.declared.messages.MessageRing.{MessageRing}

-- how many messages a ring keeps
abbrev pub kept_messages : ℕ
kept_messages = 1024

-- how many were said
abbrev pub said_of : MessageRing → ℕ
said_of ring = ring.said

-- These are the messages so far, in the order in which they were said, each with the number of its picture, and the
-- ring has the last ones.
pub record HoldsMessages (ring : MessageRing) (messages : List (ℕ × Said)) : Type 0 where
  pub said : ring.said ≡ length messages
  pub last : ring.entries ≡ buffer (keep_last kept_messages messages) kept_messages

-- message k where it is among the last ones, and none where it has left or isn't said yet
abbrev pub message_at : List (ℕ × Said) → ℕ → Option (ℕ × Said)
message_at messages k = if nat_le (length messages) (k + kept_messages) then slice_get messages k else None
