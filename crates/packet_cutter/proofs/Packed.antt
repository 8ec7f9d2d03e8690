-- What is written in the bytes of one packet.
use Rattle.std.proofs.Common.{◌≡◌, ℕ, suc, ◌+◌, ◌*◌, ◌%◌, ◌<◌, ◌≤◌, Bool, List, [], ◌∷◌, ◌++◌, length, take, drop, get_or, sym, ap, subst, ◌∙◌, append_assoc, arith}
use Rattle.std.specs.Prelude.{◌==◌}
use Rattle.std.proofs.Math.Nat.{mod-eq_of_lt}
use Rattle.std.proofs.Math.Seq.{drop-cons, take-append-add}
use Rattle.std.proofs.lemmas.List.{length-append, length-drop, length-take-le, take_all, take_more}
use Rattle.h263_types.specs.declared.blocks.Mb.{Mb}
use Rattle.h263_bits.specs.Bits.{bits_of, fields}
use Rattle.h263_bits.proofs.SyntaxLaws.{length-bits_of, bits_of-append}
use Rattle.picture_header.specs.declared.header.Header.{Header}
use Rattle.rtp_header.specs.Written.{rtp_fields}
use Rattle.h263_payload.specs.Written.{written_payload}
use Rattle.slice_layer.specs.Written.{slice_text, padded, bytes_filled_by}
use Rattle.packet_cutter.specs.Cut.{begins_at, extra_of, front_bytes, packet_bytes, IsLongest}
use Rattle.h263_bits.specs.Bytes.{bytes_filled}
use Rattle.packet_cutter.specs.Packets.{timestamp_of, packet_text, packet_of, BeginsWith}
use Rattle.packet_cutter.proofs.Bytes.{AreBytes, AreBytes-take, bytes_of_bits}
use Rattle.packet_cutter.proofs.Cuts.{longest_by_next}

-- bytes whose bits were all written
pub written_whole : (bytes : List ℕ) (len : ℕ) (text : List Bool) → take len (bits_of bytes) ≡ text
    → 8 * length bytes ≤ len → bits_of bytes ≡ text
written_whole bytes len text h all = sym (take_all len (bits_of bytes) (omega (arith, length-bits_of bytes))) ∙ h

pub bits_joined : (a b : List ℕ) (x y : List Bool) → bits_of a ≡ x → bits_of b ≡ y → bits_of (a ++ b) ≡ x ++ y
bits_joined a b x y p q = bits_of-append a b ∙ ap (λ (t : List Bool). t ++ bits_of b) p
    ∙ ap (λ (t : List Bool). x ++ t) q

-- the element at which a list goes on
next_is : (mbs : List Mb) (n : ℕ) (m : Mb) (others : List Mb) → drop n mbs ≡ m ∷ others → n < length mbs
    → get_or mbs n m ≡ m
next_is mbs n m others e lt = let d : drop n mbs ≡ get_or mbs n m ∷ drop (suc n) mbs = drop-cons mbs n m lt in cc

longest_there : (h : Header) (limit first : ℕ) (mbs : List Mb) (n room : ℕ) → front_bytes h first + room ≡ limit → 0 < n
    → n ≤ length mbs
    → bytes_filled_by (slice_text h (begins_at first) first (take n mbs)) ≤ room
    → (n < length mbs → room < bytes_filled_by (slice_text h (begins_at first) first (take (n + 1) mbs)))
    → IsLongest h limit first (take n mbs) (drop n mbs)
longest_there h limit first mbs n room parts some few fits full =
    longest_by_next h limit first (take n mbs) (drop n mbs) (omega (arith, length-take-le n mbs few))
    (omega (arith, parts, fits)) (λ m others e. next m others e)
  where
    next : (m : Mb) (others : List Mb) → drop n mbs ≡ m ∷ others → limit < packet_bytes h first (take n mbs ++ m ∷ [])
    next m others e =
        let lt : n < length mbs = omega (arith, ap length e, length-drop n mbs) in
        let more : take (n + 1) mbs ≡ take n mbs ++ m ∷ [] = take_more mbs n m lt
        ∙ ap (λ (k : Mb). take n mbs ++ k ∷ []) (next_is mbs n m others e lt) in
        subst (λ (l : List Mb). limit < packet_bytes h first l) more (omega (arith, parts, full lt))

-- bytes are a packet where their bits are its
packet_by_bits : (number sequence : ℕ) (marker : Bool) (h : Header) (first : ℕ) (run : List Mb) (bytes : List ℕ)
    → AreBytes bytes → length bytes ≡ packet_bytes h first run
    → bits_of bytes ≡ packet_text number sequence marker h first run
    → bytes ≡ packet_of number sequence marker h first run
unfolding packet_of
packet_by_bits number sequence marker h first run bytes fit long e = sym (bytes_of_bits bytes fit)
    ∙ ap (λ (n : ℕ). bytes_filled n (bits_of bytes)) long ∙ ap (bytes_filled (packet_bytes h first run)) e

pub packet_begun : (number sequence : ℕ) (h : Header) (limit first : ℕ) (mbs : List Mb) (count size : ℕ)
    (front coded : List ℕ) → sequence < 65536
    → length front ≡ front_bytes h first → front_bytes h first + length coded ≡ limit → 0 < count → count ≤ length mbs
    → size ≡ bytes_filled_by (slice_text h (begins_at first) first (take count mbs)) → bits_of (take size coded)
    ≡ padded (slice_text h (begins_at first) first (take count mbs)) → size ≤ length coded
    → (count < length mbs → length coded < bytes_filled_by (slice_text h (begins_at first) first
    (take (count + 1) mbs)))
    → bits_of front ≡ fields (rtp_fields (count == length mbs) sequence (timestamp_of number))
    ++ written_payload (extra_of h (begins_at first))
    → AreBytes (front ++ coded) → BeginsWith number sequence h limit first mbs count (front_bytes h first + size) (front
    ++ coded)
packet_begun number sequence h limit first mbs count size front coded range long parts some few size_is text fits full
    written bytes =
    let rtp = λ (s : ℕ). fields (rtp_fields (count == length mbs) s (timestamp_of number)) in
    let payload = written_payload (extra_of h (begins_at first)) in
    let slice = padded (slice_text h (begins_at first) first (take count mbs)) in
    let same : sequence ≡ sequence % 65536 = sym (mod-eq_of_lt range) in
    let there : take (front_bytes h first + size) (front ++ coded) ≡ front
    ++ take size coded = ap (λ (k : ℕ). take (k + size) (front ++ coded)) (sym long)
    ∙ take-append-add front coded size in
    record {
      few = few;
      longest = longest_there h limit first mbs count (length coded) parts some few (omega (arith, size_is, fits)) full;
      size_is = ap (λ (n : ℕ). front_bytes h first + n) size_is;
      packet = packet_by_bits number sequence (count == length mbs) h first (take count mbs)
          (take (front_bytes h first + size) (front ++ coded)) (AreBytes-take (front_bytes h first + size) (front
          ++ coded) bytes)
          (omega (
            arith,
            length-take-le (front_bytes h first + size) (front
                ++ coded) (omega (arith, length-append front coded, long, fits)),
            size_is,
          ))
          (ap bits_of there ∙ bits_joined front (take size coded) (rtp sequence ++ payload) slice written text
          ∙ append_assoc (rtp sequence) payload slice
          ∙ ap (λ (s : ℕ). rtp s ++ (payload ++ slice)) same);
    }
