-- The packets of a cut are read as its slices.
use Rattle.std.proofs.Common.{◌≡◌, ℕ, suc, ◌+◌, ◌-◌, ◌<◌, ◌≤◌, Bool, true, List, [], ◌∷◌, ◌++◌, length, get_or, Some, Ok, refl, sym, ap, subst, ◌∙◌, arith}
use Rattle.std.specs.Prelude.{◌==◌, nat_le, nat_lt, slice_get, All}
use Rattle.std.proofs.lemmas.Bool.Decides.{nat_tests}
use Rattle.std.proofs.lemmas.List.{length-append}
use Rattle.std.proofs.lemmas.List.Elements.{All-from_get_or}
use Rattle.call_model.specs.Coding.{Slice, has_mb}
use Rattle.call_model.specs.Lawful.{Divides}
use Rattle.h263_types.specs.declared.format.Format.{Format}
use Rattle.h263_types.specs.declared.blocks.Mb.{Mb}
use Rattle.h263_types.specs.declared.blocks.Mb.TheVariants.{Skip, Intra, Inter}
use Rattle.h263_types.specs.Blocks.{HasQuant, HasWholeBlocks}
use Rattle.h263_types.specs.References.{ReachesInside}
use Rattle.h263_types.specs.Sizes.{mbs_of}
use Rattle.h263_bits.specs.Bits.{bits_of}
use Rattle.h263_bits.specs.Reading.{Bits}
use Rattle.picture_header.specs.declared.header.Header.{Header}
use Rattle.picture_header.specs.Ranges.{IsHeader}
use Rattle.macroblock_layer.specs.Written.{DquantReaches, IsReached, IsStepped}
use Rattle.rtp_header.specs.declared.rtp.Rtp.{Rtp}
use Rattle.rtp_header.specs.Text.{IsRtp}
use Rattle.rtp_header.specs.Faults.{rtp_in}
use Rattle.h263_payload.specs.declared.payload.Payload.{Payload}
use Rattle.h263_payload.specs.Text.{IsPayload}
use Rattle.h263_payload.specs.Faults.{payload_at}
use Rattle.slice_layer.specs.Around.{around, quant_after, reach_of}
use Rattle.slice_layer.specs.Laws.{AreReached}
use Rattle.slice_layer.specs.Written.{AreWritable}
use Rattle.packet_cutter.specs.Again.{IsReadAs, rtp_of, payload_of}
use Rattle.packet_cutter.specs.Cut.{packet_bytes}
use Rattle.packet_cutter.specs.Slices.{cut_of}
use Rattle.packet_cutter.specs.Packets.{packet_text, packet_of, packets_of}
use Rattle.packet_collector.specs.Packet as collector
use Rattle.packet_collector.specs.Packet.{IsPacket, packet_at}
use Rattle.coded_call.specs.Sent.{IsSentAt, AreSent}

-- ---- one packet

-- what the laws of the layers below say of one packet: it is its text, and what is written is read again
pub record PacketLaws : Type 0 where
  pub bits : (number sequence : ℕ) (marker : Bool) (h : Header) (first : ℕ) (run : List Mb)
      → bits_of (packet_of number sequence marker h first run) ≡ packet_text number sequence marker h first run
  pub bytes : (number sequence : ℕ) (marker : Bool) (h : Header) (first : ℕ) (run : List Mb)
      → length (packet_of number sequence marker h first run) ≡ packet_bytes h first run
  pub written : (number sequence : ℕ) (marker : Bool) (h : Header) (first : ℕ) (run : List Mb) (bytes : List ℕ)
      → IsHeader h
      → 0 < length run → first + length run ≤ mbs_of h.format → AreWritable (around h first) h.quant [] run
      → bits_of bytes ≡ packet_text number sequence marker h first run → length bytes ≤ 65535
      → IsReadAs number sequence marker h first run bytes
  pub spelled : (format : Format) (s : collector.PacketSlice) (bytes : List ℕ) → IsPacket format s bytes
      → packet_at format bytes ≡ Ok s
  pub rtp : (r : Rtp) (bytes : List ℕ) → rtp_in bytes ≡ Ok r → IsRtp r bytes
  pub payload : (format : Format) (p : Payload) (b : Bits) → payload_at format b ≡ Ok p → IsPayload format p b

pub packet_again : PacketLaws → (number sequence : ℕ) (marker : Bool) (h : Header) (first : ℕ) (run : List Mb)
    → IsHeader h
    → 0 < length run → first + length run ≤ mbs_of h.format → AreWritable (around h first) h.quant [] run
    → packet_bytes h first run ≤ 65535
    → packet_at h.format (packet_of number sequence marker h first run)
    ≡ Ok (record { header = h; first = first; mbs = run })
packet_again laws number sequence marker h first run is some within each short =
    let bytes = packet_of number sequence marker h first run in
    let few : length bytes ≤ 65535 = omega (arith, laws.bytes number sequence marker h first run) in
    let r = laws.written number sequence marker h first run bytes is some within each
    (laws.bits number sequence marker h first run) few in
    laws.spelled h.format (record { header = h; first = first; mbs = run }) bytes (record {
      rtp = rtp_of number sequence marker (length bytes);
      payload = payload_of h first;
      front = r.front;
      after = r.after;
      is_rtp = laws.rtp _ bytes r.rtp;
      is_payload = laws.payload h.format _ _ r.payload;
      parts = r.parts;
      headed = r.headed;
      text = r.text;
    })

-- ---- macroblocks that are sent may be written

quant_stays : (q : ℕ) (m : Mb) → HasQuant q m → quant_after q m ≡ q
quant_stays q Skip is = refl
quant_stays q (Intra n blocks) is = is
quant_stays q (Inter n v blocks) is = is

near_itself : (q n : ℕ) → n ≡ q → DquantReaches q n
near_itself q n is = record { up = omega (arith, is); down = omega (arith, is) }

stepped : (q : ℕ) (m : Mb) → HasQuant q m → IsStepped q m
stepped q Skip is = tt
stepped q (Intra n blocks) is = near_itself q n is
stepped q (Inter n v blocks) is = near_itself q n is

reached : AreReached → (h : Header) (k : ℕ) (m : Mb) → k < mbs_of h.format → ReachesInside h.format k m
    → IsReached (reach_of h.format k) m
reached reach h k Skip below is = tt
reached reach h k (Intra quant blocks) below is = tt
reached reach h k (Inter quant v blocks) below is = (reach h.format k v.x v.y below).0 is

-- the macroblocks of a slice, after earlier ones of it
abbrev AreSentFrom : Header → ℕ → List Mb → Type 0
AreSentFrom h first run = (j : ℕ) → j < length run → IsSentAt h (first + j) (get_or run j Skip)

writable : AreReached → (h : Header) (first : ℕ) (before run : List Mb)
    → first + length before + length run ≤ mbs_of h.format → AreSentFrom h (first + length before) run
    → AreWritable (around h first) h.quant before run
unfolding AreWritable
writable reach h first before [] within s = tt
writable reach h first before (m ∷ run) within s =
    let at : first + length before + 0 ≡ first + length before = omega arith in
    let one = subst (λ (k : ℕ). IsSentAt h k m) at (s 0 (omega arith)) in
    let longer : length (before ++ m ∷ []) ≡ length before + 1 = length-append before (m ∷ []) in
    let more : AreSentFrom h (first + length (before ++ m ∷ [])) run = λ j below.
    let next : first + length before + suc j ≡ first + length (before ++ m ∷ []) + j = omega (arith, longer) in
    subst (λ (k : ℕ). IsSentAt h k (get_or run j Skip)) next (s (suc j) (omega (arith, below)))
    in (
      record {
        in_range = one.in_range;
        of_kind = one.of_kind;
        step = stepped h.quant m one.plain;
        whole = one.whole;
        reached = reached reach h (first + length before) m (omega (arith, within)) one.reach;
      },
      subst (λ (q : ℕ). AreWritable (around h first) q (before ++ m ∷ []) run) (sym (quant_stays h.quant m one.plain))
          (writable reach h first (before ++ m ∷ []) run (omega (arith, within, longer)) more),
    )

-- ---- a slice of a cut

-- what the laws say of the slices of a cut and their packets
pub record CutLaws : Type 0 where
  pub again : (number sequence : ℕ) (marker : Bool) (h : Header) (first : ℕ) (run : List Mb) → IsHeader h
      → 0 < length run → first + length run ≤ mbs_of h.format → AreWritable (around h first) h.quant [] run
      → packet_bytes h first run ≤ 65535
      → packet_at h.format (packet_of number sequence marker h first run)
      ≡ Ok (record { header = h; first = first; mbs = run })
  pub divides : (h : Header) (limit : ℕ) (mbs : List Mb) → Divides Skip (length mbs) (cut_of h limit mbs) mbs
  pub fits : (h : Header) (limit : ℕ) (mbs : List Mb) (j : ℕ) (slice : Slice Mb) → IsHeader h → 1200 ≤ limit
      → All HasWholeBlocks mbs
      → slice_get (cut_of h limit mbs) j ≡ Some slice → packet_bytes h slice.first slice.mbs ≤ limit
  pub each : (number sequence : ℕ) (h : Header) (slices : List (Slice Mb)) (j : ℕ) (slice : Slice Mb)
      → slice_get slices j ≡ Some slice
      → slice_get (packets_of number sequence h slices) j
      ≡ Some (packet_of number (sequence + j) (j + 1 == length slices) h slice.first slice.mbs)
  pub reach : AreReached

all_whole : (h : Header) (mbs : List Mb) → AreSent h mbs → All HasWholeBlocks mbs
all_whole h mbs s = All-from_get_or HasWholeBlocks mbs Skip
    (λ k below. (s.each k (omega (arith, below, s.count))).whole)

has_it : (slice : Slice Mb) (i : ℕ) → i < length slice.mbs → has_mb slice (slice.first + i) ≡ true
unfolding has_mb
has_it slice i below = rw (from slice.first i, under slice.first i (length slice.mbs) below) refl
  where
    from : (first i : ℕ) → nat_le first (first + i) ≡ true
    from first i = grind (arith, nat_tests)

    under : (first i n : ℕ) → i < n → nat_lt (first + i) (first + n) ≡ true
    under first i n lt = grind (arith, nat_tests)

sent_in : (h : Header) (mbs : List Mb) (slices : List (Slice Mb)) (j : ℕ) (slice : Slice Mb)
    → Divides Skip (length mbs) slices mbs → AreSent h mbs → slice_get slices j ≡ Some slice
    → AreSentFrom h (slice.first + 0) slice.mbs
sent_in h mbs slices j slice d s e = λ i below.
    let k = slice.first + i in
    let inside = d.covers.inside j slice e in
    let place : k - slice.first ≡ i = omega arith in
    let same : get_or slice.mbs i Skip ≡ get_or mbs k Skip = ap (λ (n : ℕ). get_or slice.mbs n Skip) (sym place)
    ∙ d.same j k slice e (has_it slice i below) in
    let at : k ≡ slice.first + 0 + i = omega arith in
    subst (λ (n : ℕ). IsSentAt h n (get_or slice.mbs i Skip)) at
    (subst (IsSentAt h k) (sym same) (s.each k (omega (arith, below, inside.1, s.count))))

pub slice_again : CutLaws → (number sequence : ℕ) (h : Header) (limit : ℕ) (mbs : List Mb) (j : ℕ) (slice : Slice Mb)
    → IsHeader h
    → 1200 ≤ limit → limit ≤ 65535 → AreSent h mbs → slice_get (cut_of h limit mbs) j ≡ Some slice
    → (bytes : List ℕ) × (slice_get (packets_of number sequence h (cut_of h limit mbs)) j ≡ Some bytes)
    × (packet_at h.format bytes ≡ Ok (record { header = h; first = slice.first; mbs = slice.mbs }))
slice_again laws number sequence h limit mbs j slice is room short s e =
    let slices = cut_of h limit mbs in
    let d = laws.divides h limit mbs in
    let inside = d.covers.inside j slice e in
    let few = laws.fits h limit mbs j slice is room (all_whole h mbs s) e in
    let within : slice.first + 0 + length slice.mbs ≤ mbs_of h.format = omega (arith, inside.1, s.count) in
    let each = writable laws.reach h slice.first [] slice.mbs within (sent_in h mbs slices j slice d s e) in (
      packet_of number (sequence + j) (j + 1 == length slices) h slice.first slice.mbs,
      laws.each number sequence h slices j slice e,
      laws.again number (sequence + j) (j + 1 == length slices) h slice.first slice.mbs is inside.0
          (omega (arith, within)) each (omega (arith, few, short)),
    )
