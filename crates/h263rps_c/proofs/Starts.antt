-- The messages in the places of a header, and the starts of whole packets.
use Rattle.std.proofs.Common.{◌≡◌, ◌↔◌, ℕ, zero, suc, List, [], ◌∷◌, Option, Some, None, Ok, sym, subst, get_or}
use Rattle.std.specs.Prelude.{IfSome}
use Rattle.h263_types.specs.declared.clock.Clock.{Clock}
use Rattle.h263_types.specs.declared.clock.Clock.TheVariants.{Custom}
use Rattle.h263_types.specs.declared.format.Format.{Format}
use Rattle.back_messages.specs.declared.message.Message.{Message}
use Rattle.back_messages.specs.Text.{IsMessage}
use Rattle.back_messages.specs.Laws.{MessageLaws}
use Rattle.picture_header.specs.declared.header.Header.{Header}
use Rattle.picture_header.specs.Ranges.{AreMessages, messages_in}
use Rattle.packet_collector.specs.Packet.{PacketSlice, packet_at}
use Rattle.packet_start.specs.Start.{start_at, start_in}

-- the message at a place is one of the wider clock as well
pub at_place : MessageLaws → (clock : Clock) (places : List (Option Message)) → AreMessages clock (messages_in places)
    → (i : ℕ) → IfSome (get_or places i None) (IsMessage Custom)
at_place laws clock [] are zero = tt
at_place laws clock [] are (suc i) = tt
at_place laws clock (None ∷ places) are zero = tt
at_place laws clock (Some m ∷ places) are zero = laws.wide clock m are.0
at_place laws clock (None ∷ places) are (suc i) = at_place laws clock places are i
at_place laws clock (Some m ∷ places) are (suc i) = at_place laws clock places are.1 i

-- a packet that is read whole has the start of its slice
pub whole : ((format : Format) (bytes : List ℕ) (s : PacketSlice) → packet_at format bytes ≡ Ok s
    → start_at format bytes ≡ Ok s.header)
    → ((format : Format) (bytes : List ℕ) (h : Header) → start_at format bytes ≡ Ok h → h.format ≡ format)
    → ((bytes : List ℕ) (h : Header) → (start_in bytes ≡ Some h) ↔ (start_at h.format bytes ≡ Ok h))
    → (format : Format) (bytes : List ℕ) (s : PacketSlice) → packet_at format bytes ≡ Ok s
    → start_in bytes ≡ Some s.header
whole read formats found format bytes s e =
    let start = read format bytes s e in
    (found bytes s.header).1 (subst (λ (f : Format). start_at f bytes ≡ Ok s.header)
    (sym (formats format bytes s.header start)) start)
