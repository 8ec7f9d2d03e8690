-- What a message says, in numbers and flags.
use Rattle.std.specs.Prelude.{ℕ, ◌+◌, ◌-◌, Bool, ◌==◌, ◌&&◌, nat_lt, nat_le, List, [], Option, Some, None}
use Rattle.std.specs.Int.{bit_at}
use Rattle.back_messages.specs.declared.message.Message.{Message as Written}
use Rattle.back_messages.specs.declared.message.Message.TheVariants as written
use Rattle.call_model.specs.Coding.{Message, Ack, Nack}
use Rattle.call_model.specs.Numbers.{flags_of}

-- the flag of the k-th picture after the message's own: bit k - 1 of the marks
abbrev pub is_flagged : ℕ → ℕ → Bool
is_flagged marks k = bit_at marks (k - 1) == 1

-- a message of version 2 has fourteen flags
abbrev pub flags_in : Option ℕ → List Bool
flags_in None = []
flags_in (Some marks) = flags_of 14 (is_flagged marks) 0

abbrev pub message_of : Written → Message
message_of (written.Ack tr marks) = Ack tr (flags_in marks)
message_of (written.Nack tr rtr marks) = Nack tr rtr (flags_in marks)

-- m is one of this many numbers after t, was sent, and its flag is set
abbrev pub is_named : ℕ → ℕ → (ℕ → Bool) → ℕ → ℕ → Bool
is_named t sent flag count m = nat_lt t m && (nat_le m (t + count) && (nat_lt m sent && flag (m - t)))
