-- What is written of an RTP header, and that it is read again.
use Rattle.std.proofs.Common.{◌≡◌, ℕ, ◌+◌, ◌/◌, ◌%◌, ◌<◌, ◌≤◌, Bool, true, false, cond, List, [], ◌∷◌, ◌++◌, length, Ok, refl, sym, ap, ◌∙◌, append_assoc, arith}
use Rattle.std.specs.Prelude.{◌==◌}
use Rattle.std.proofs.lemmas.List.{append-nil, length-append}
use Rattle.byteorder.specs.Endian.{big_bytes}
use Rattle.h263_bits.specs.Bits.{bits_of, spelled, fields}
use Rattle.h263_bits.specs.Syntax.{any, Spells}
use Rattle.h263_bits.proofs.SyntaxLaws.{length-bits_of, spells_field, spells_part, spells_done, spells_whole, length-fields}
use Rattle.rtp_header.specs.Text.{Head, head, after_fixed, rtp_front}
use Rattle.rtp_header.specs.Faults.{rtp_in}
use Rattle.rtp_header.specs.Written.{rtp_fields}
use Rattle.rtp_header.proofs.Heads.{head_spelt, IsHead, first_byte, second_byte, two_bytes, four_bytes}
use Rattle.rtp_header.proofs.Exact.{text_read}

abbrev marker_bit : Bool → ℕ
marker_bit marker = cond marker 1 0

-- the twelve bytes
abbrev pub bytes_written : Bool → ℕ → ℕ → List ℕ
bytes_written marker sequence timestamp = 128 ∷ cond marker 224 96 ∷ (big_bytes 2 sequence
    ++ (big_bytes 4 timestamp ++ big_bytes 4 1211250227))

marker_byte : (marker : Bool) → spelled 8 (cond marker 224 96) ≡ spelled 1 (marker_bit marker) ++ spelled 7 96
marker_byte true = second_byte 224
marker_byte false = second_byte 96

pub written_text : (marker : Bool) (sequence timestamp : ℕ) → sequence < 65536 → timestamp < 4294967296
    → bits_of (bytes_written marker sequence timestamp) ≡ fields (rtp_fields marker sequence timestamp)
unfolding bits_of
written_text marker s t hs ht =
    let number : spelled 16 s ≡ spelled 8 (s / 256 % 256) ++ spelled 8 (s % 256) = ap (spelled 16) (omega arith)
    ∙ two_bytes (s / 256 % 256) (s % 256) (omega arith) in
    let time : spelled 32 t ≡ spelled 8 (t / 16777216 % 256)
    ++ (spelled 8 (t / 65536 % 256) ++ (spelled 8 (t / 256 % 256) ++ spelled 8 (t % 256))) =
    ap (spelled 32) (omega arith) ∙ four_bytes (t / 16777216 % 256) (t / 65536 % 256) (t / 256 % 256) (t % 256)
    (omega arith) (omega arith) (omega arith) in
    let source : spelled 32 1211250227 ≡ spelled 8 72 ++ (spelled 8 50 ++ (spelled 8 54 ++ spelled 8 51)) =
    four_bytes 72 50 54 51 (omega arith) (omega arith) (omega arith) in
    rw (first_byte 128, marker_byte marker, number, time, source) (simp append_assoc)

abbrev head_written : Bool → ℕ → ℕ → Head
head_written marker sequence timestamp = record {
  version = 2;
  padding = 0;
  extension = 0;
  sources = 0;
  marker = marker_bit marker;
  type = 96;
  sequence = sequence;
  timestamp = timestamp;
  source = 1211250227;
}

marker_low : (marker : Bool) → marker_bit marker < 2
marker_low true = omega arith
marker_low false = omega arith

marker_back : (marker : Bool) → (marker_bit marker == 1) ≡ marker
marker_back true = refl
marker_back false = refl

header_written : (marker : Bool) (sequence timestamp : ℕ) → sequence < 65536 → timestamp < 4294967296
    → Spells rtp_front (head_written marker sequence timestamp) (fields (rtp_fields marker sequence timestamp))
unfolding rtp_front after_fixed spelled
header_written marker s t hs ht =
    let h = head_written marker s t in
    let text = fields (rtp_fields marker s t) in
    let ok : IsHead h = record {
      version = omega arith;
      padding = omega arith;
      extension = omega arith;
      sources = omega arith;
      marker = marker_low marker;
      type = omega arith;
      sequence = hs;
      timestamp = ht;
      source = omega arith;
    } in
    let none : Spells (after_fixed h) tt (spelled 0 0 ++ []) = spells_field 0 any _ tt 0 [] (omega arith) refl
    (spells_done tt) in
    spells_whole rtp_front h (text ++ ((spelled 0 0 ++ []) ++ [])) text (append-nil text)
    (spells_part head any _ h h text ((spelled 0 0 ++ []) ++ []) (head_spelt h ok) refl
    (spells_part (after_fixed h) any _ h tt (spelled 0 0 ++ []) [] none refl (spells_done h)))

-- a written header is read again, whatever payload follows
pub written_again : (front payload : List ℕ) (marker : Bool) (sequence timestamp : ℕ) → sequence < 65536
    → timestamp < 4294967296 → bits_of front ≡ fields (rtp_fields marker sequence timestamp) → length payload ≤ 65523
    → rtp_in (front ++ payload) ≡ Ok (record {
      marker = marker;
      sequence = sequence;
      timestamp = timestamp;
      from = 12;
      to = 12 + length payload;
    })
written_again front payload marker s t hs ht text few =
    let len : length front ≡ 12 = omega (
      arith,
      length-bits_of front,
      ap length text,
      length-fields (rtp_fields marker s t),
    ) in
    text_read _ (front ++ payload) (record {
      fields = head_written marker s t;
      front = front;
      payload = payload;
      padding = [];
      parts = ap (λ (x : List ℕ). front ++ x) (sym (append-nil payload));
      short = omega (arith, length-append front payload, len);
      text = spells_whole rtp_front (head_written marker s t) (fields (rtp_fields marker s t)) (bits_of front)
          (sym text)
          (header_written marker s t hs ht);
      version = refl;
      type = refl;
      source = refl;
      padded = refl;
      value = rw (len, marker_back marker) refl;
    })
