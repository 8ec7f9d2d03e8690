use Rattle.std.proofs.Common.{◌≡◌, ℕ, ◌+◌, ◌<◌, ◌≤◌, List, length, Result, Ok, Err, refl, subst}
use Rattle.h263_bits.specs.declared.fault.Fault.{Fault}
use Rattle.h263_types.specs.declared.blocks.Mb.{Mb}
use Rattle.h263_types.specs.declared.format.Format.{Format}
use Rattle.h263_types.specs.Sizes.{mbs_of}
use Rattle.packet_collector.specs.Packet.{PacketSlice, packet_at}
use Rattle.call_model.specs.Coding as call
use Rattle.call_decoding.specs.Styles.{Style}
use Rattle.receiver_end.specs.Decoding.{with_piece}
use Rattle.receiver_end.proofs.Styles.{same_style_is}
use Rattle.receiver_end.proofs.laws.is_decoding.Goals as goal

abbrev Within : Format → Result (call.Piece Style Mb) Fault → Type 0
Within f (Ok p) = (0 < length p.slice.mbs) × (p.slice.first + length p.slice.mbs ≤ mbs_of f)
Within f (Err fault) = Unit {0}

-- what a packet's piece has is what its slice has
within : (f : Format) (bytes : List ℕ) (p : call.Piece Style Mb) (o : Result PacketSlice Fault)
    → ((s : PacketSlice) → o ≡ Ok s → (0 < length s.mbs) × (s.first + length s.mbs ≤ mbs_of f)) → with_piece o ≡ Ok p
    → (0 < length p.slice.mbs) × (p.slice.first + length p.slice.mbs ≤ mbs_of f)
within f bytes p (Ok s) inside e = subst (λ (x : Result (call.Piece Style Mb) Fault). Within f x) e (inside s refl)
within f bytes p (Err fault) inside e = absurd cc

pub returns : goal.returns
returns c = λ p. record {
  pictures = c.are_pictures.ensures.pictures p;
  read_inside = λ bytes piece e. within p.format bytes piece (packet_at p.format bytes)
      (λ s is. c.read_inside.ensures.inside p.format s bytes is) e;
  same_style_is = same_style_is;
}
