-- The start of a packet as C has it.
use Rattle.std.specs.Prelude.{◌≡◌, ℕ, ◌*◌, List, [], ◌∷◌, drop, length, nat_lt, Option, Some, None, if◌then◌else◌}
use Rattle.h263_bits.specs.Bits.{bits_of}
use Rattle.back_messages.specs.declared.message.Message.{Message}
use Rattle.back_messages.specs.Text.{message_bits, message_text}
use Rattle.picture_header.specs.declared.header.Header.{Header}
use Rattle.picture_header.specs.Ranges.{messages_in}
use Rattle.packet_start.specs.Start.{start_in}
use Rattle.rtp_source.specs.Source.{renamed, source_in}
use Rattle.h263rps_c.specs.declared.answers.CMessage.{CMessage}
use Rattle.h263rps_c.specs.declared.start.Start.{Start}
use Rattle.h263rps_c.specs.declared.refusals.EndRefusal.{EndRefusal}
use Rattle.h263rps_c.specs.declared.refusals.EndRefusal.TheVariants.{NoStart}
use Rattle.h263rps_c.specs.Asked.{clock_numbered, format_numbered}
use Rattle.h263rps_c.specs.Messages.{text_in}
use Rattle.h263rps_c.specs.Numbers.{no_message}

-- bytes without a start are refused
abbrev pub start_refusal : Option Header → Option EndRefusal
start_refusal None = Some NoStart
start_refusal (Some h) = None

abbrev pub if_headed : Option ℕ → Option Header → Option Header
if_headed None start = None
if_headed (Some source) start = start

-- The header of a datagram that a session takes: it has at most 9,000 bytes, and any SSRC.
abbrev pub datagram_start : List ℕ → Option Header
datagram_start bytes =
    if nat_lt 9000 (length bytes) then None
    else if_headed (source_in bytes) (start_in (renamed bytes))

-- 0 and the reference, or 1 where a picture is coded by itself
abbrev pub Refers : ℕ → ℕ → Option ℕ → Type 0
Refers intra reference None = (intra ≡ 1) × (reference ≡ 0)
Refers intra reference (Some trp) = (intra ≡ 0) × (reference ≡ trp)

-- the text of a message, and zeros in the bytes after it
pub record IsTextOfMessage (said : CMessage) (m : Message) : Type 0 where
  pub text : bits_of (text_in said) ≡ message_text m
  pub length : 8 * said.length ≡ message_bits m
  pub filled : said.length ≡ 3 → drop 3 said.bytes ≡ 0 ∷ 0 ∷ []

-- the message at a place of a header, or nothing
abbrev pub IsSaidOf : CMessage → Option Message → Type 0
IsSaidOf said None = said ≡ no_message
IsSaidOf said (Some m) = IsTextOfMessage said m

abbrev pub AreSaid : List CMessage → List (Option Message) → Type 0
AreSaid [] [] = Unit {0}
AreSaid (said ∷ others) (place ∷ places) = IsSaidOf said place × AreSaid others places
AreSaid [] (place ∷ places) = ⊥
AreSaid (said ∷ others) [] = ⊥

-- what C is told of a picture's header
pub record IsStart (start : Start) (h : Header) : Type 0 where
  pub format : format_numbered start.format ≡ Some h.format
  pub clock : clock_numbered start.clock ≡ Some h.clock
  pub temporal_reference : start.temporal_reference ≡ h.tr
  pub refers : Refers start.intra start.reference h.trp
  pub count : start.count ≡ length (messages_in h.back)
  pub messages : AreSaid start.messages h.back
