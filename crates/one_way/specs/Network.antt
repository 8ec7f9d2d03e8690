-- What the rings of a network keep of what both ends have done.
use Rattle.std.specs.Prelude.{◌≡◌, ℕ, ◌≤◌, List, [], ◌∷◌, length, map, slice_index_or, Option, Some, None}
use Rattle.h263_types.specs.declared.blocks.Mb.{Mb}
use Rattle.h263_types.specs.declared.params.Params.{Params}
use Rattle.h263_planes.specs.Picture.{Picture}
use Rattle.back_messages.specs.declared.writing.Said.{Said}
use Rattle.back_messages.specs.Said.{text_of_said}
use Rattle.call_model.specs.CodedPictures.{Coded}
use Rattle.call_model.specs.JoinedRun.{SaidMessage}
use Rattle.call_model.specs.Sending as call
use Rattle.call_decoding.specs.Rules.{rules_of}
use Rattle.call_decoding.specs.Styles.{Style}
use Rattle.call_encoding.specs.Encoding.{encoding}
use Rattle.call_rings.specs.declared.sent_packets.SentPackets.{SentPackets}
use Rattle.call_rings.specs.declared.messages.MessageRing.{MessageRing}
use Rattle.call_rings.specs.Keeping as ring
use Rattle.call_rings.specs.Keeping.{HoldsPackets, ring_room, most_of}
use Rattle.call_rings.specs.Messages.{HoldsMessages}
use Rattle.call_rings.specs.Parts.{total_size}
use Rattle.one_way.specs.declared.references.References.{References}
use Rattle.one_way.specs.References.{AreNoted}

-- ---- packets

-- the ring keeps some pictures
pub record IsKeeping (packets : SentPackets) : Type 0 where
  pub pictures : ring.PacketsOfPictures
  pub keeps : HoldsPackets packets pictures

-- there is room for these packets of one picture
pub record AreRoomy (packets : SentPackets) (list : List (List ℕ)) : Type 0 where
  pub bytes : total_size list ≤ ring_room packets
  pub count : length list ≤ most_of packets

-- the ring keeps the packets of these pictures, which were sent
pub record HasPackets (p : Params) (packets : SentPackets) (coded : List (Coded Style Mb Picture)) : Type 0 where
  pub pictures : ring.PacketsOfPictures
  pub keeps : HoldsPackets packets pictures
  pub count : length pictures ≡ length coded
  pub each : (n : ℕ) → slice_index_or pictures n [] ≡ call.packets_at (encoding p) (rules_of p) coded n

-- ---- messages

-- a message that was said, by its picture and its bytes
abbrev pub told_in : ℕ × Said → SaidMessage
told_in x = record { about = x.0; bytes = text_of_said x.1 }

abbrev pub about_of : ℕ × Said → ℕ
about_of x = x.0

-- the ring has these messages, which were said
pub record HasMessages (messages : MessageRing) (said : List SaidMessage) : Type 0 where
  pub pairs : List (ℕ × Said)
  pub holds : HoldsMessages messages pairs
  pub same : map told_in pairs ≡ said

-- what is told of picture n by this message, if one was said
abbrev pub told_by : ℕ → Option Said → List SaidMessage
told_by n None = []
told_by n (Some said) = told_in (n, said) ∷ []

-- ---- references

-- the references of these pictures are noted
abbrev pub HasReferences : References → List (Coded Style Mb Picture) → Type 0
HasReferences references coded = AreNoted references (map (λ (x : Coded Style Mb Picture). x.reference) coded)
