-- The first fault of an RTP header in the order of its fields, or where its payload stands.
use Rattle.std.proofs.Common.{◌≡◌, ℕ, ◌/◌, ◌<◌, List, length, get_or, Some, None, Result, Ok, Err, eq-eqb, refl, sym, ap, ◌∙◌, arith}
use Rattle.std.specs.Prelude.{IfOk}
use Rattle.std.proofs.lemmas.Bool.{ne_eqb, lt-ltb, le-ltb}
use Rattle.h263_bits.specs.declared.fault.Fault.{Fault}
use Rattle.h263_bits.specs.Reading.{Bits, first_fault}
use Rattle.h263_bits.specs.Syntax.{reading}
use Rattle.rtp_header.specs.declared.rtp.Rtp.{Rtp}
use Rattle.rtp_header.specs.Text.{Head, head, after_fixed, from_byte, IsRtp}
use Rattle.rtp_header.specs.Faults.{rtp_in, rtp_fault, with_head, short_of, with_payload, end_of, payload_end_of}
use Rattle.rtp_header.specs.Written.{IsPayloadWithin}
use Rattle.rtp_header.proofs.Exact.{read_text, text_read, text_within}
use Rattle.rtp_header.proofs.Heads.{head_is, head_of, head_short}
use Rattle.rtp_header.proofs.read.Goals as goal

-- too few bytes for a fixed header
no_head : (bytes : List ℕ) → length bytes < 12 → with_head bytes (reading head (from_byte 0 bytes)) ≡ short_of bytes
no_head bytes short = at_read (reading head (from_byte 0 bytes)) refl
  where
    at_read : (r : Result (Head × Bits) Fault) → reading head (from_byte 0 bytes) ≡ r
        → with_head bytes r ≡ short_of bytes
    at_read (Ok x) e = absurd (head_short bytes x short e)
    at_read (Err f) e = refl

-- what is said of each return
every : (bytes : List ℕ) (r : Result Rtp Fault) → r ≡ rtp_in bytes → record {
  found : IfOk r (λ x. IsRtp x bytes);
  only : (x : Rtp) → IsRtp x bytes → r ≡ Ok x;
  fault : first_fault r ≡ rtp_fault bytes;
  exact : r ≡ rtp_in bytes;
  range : IfOk r (λ x. IsPayloadWithin x bytes);
}
every bytes (Ok x) e =
    let text = read_text x bytes (sym e) in
    record {
      found = text;
      only = λ y spelt. e ∙ text_read y bytes spelt;
      fault = ap first_fault e;
      exact = e;
      range = text_within x bytes text;
    }
every bytes (Err f) e = record {
  found = tt;
  only = λ y spelt. e ∙ text_read y bytes spelt;
  fault = ap first_fault e;
  exact = e;
  range = tt;
}

pub returns-then-bytes-gt65535 : goal.returns-then-bytes-gt65535
unfolding rtp_in
returns-then-bytes-gt65535 c = every c.args.bytes.now _
    (rw (c.at.ensures, lt-ltb 65535 (length c.args.bytes.now) (omega arith)) refl)

pub returns-then-bytes-lt12 : goal.returns-then-bytes-lt12
unfolding rtp_in
returns-then-bytes-lt12 c = every c.args.bytes.now _ (rw (
  c.at-short.ensures,
  le-ltb 65535 (length c.args.bytes.now) (omega arith),
) (sym (no_head c.args.bytes.now (omega arith))))

pub returns-then-bytes-ne2 : goal.returns-then-bytes-ne2
unfolding rtp_in
returns-then-bytes-ne2 c =
    let e = head_is c.args.bytes.now (omega arith) (λ i. omega (arith, c.type_inv.bytes i)) in
    every c.args.bytes.now _ (rw (
      c.at-then-bytes-ne2.ensures,
      le-ltb 65535 (length c.args.bytes.now) (omega arith),
      e,
      ne_eqb (get_or c.args.bytes.now 0 0 / 64) 2 (λ same. omega (arith, same)),
    ) refl)

pub returns-in_default : goal.returns-in_default
unfolding rtp_in
returns-in_default c =
    let bytes = c.args.bytes.now in
    let e = head_is bytes (omega arith) (λ i. omega (arith, c.type_inv.bytes i)) in
    let cut : end_of (reading (after_fixed (head_of bytes)) (from_byte 12 bytes))
    ≡ None = sym (c.header_end.ensures.end (head_of bytes) (from_byte 12 bytes) e) ∙ c.in_default.is in
    every bytes _ (rw (
      c.at-short.ensures,
      le-ltb 65535 (length bytes) (omega arith),
      e,
      eq-eqb (get_or bytes 0 0 / 64) 2 (omega arith),
      cut,
    ) refl)

pub payload_end-requires-clause-within : goal.payload_end-requires-clause-within
payload_end-requires-clause-within c = rw c.in-Some.is at c.header_end.ensures.within

pub returns-in_default-payload_end : goal.returns-in_default-payload_end
unfolding rtp_in
returns-in_default-payload_end c =
    let bytes = c.args.bytes.now in
    let e = head_is bytes (omega arith) (λ i. omega (arith, c.type_inv.bytes i)) in
    let from : end_of (reading (after_fixed (head_of bytes)) (from_byte 12 bytes))
    ≡ Some c.in-Some.from = sym (c.header_end.ensures.end (head_of bytes) (from_byte 12 bytes) e) ∙ c.in-Some.is in
    let none : payload_end_of (head_of bytes) bytes c.in-Some.from
    ≡ None = sym (c.payload_end.ensures (head_of bytes) (from_byte 12 bytes) e) ∙ c.in_default-payload_end.is in
    every bytes _ (rw (
      c.at-in_default-payload_end.ensures,
      le-ltb 65535 (length bytes) (omega arith),
      e,
      eq-eqb (get_or bytes 0 0 / 64) 2 (omega arith),
      from,
    ) (sym (ap (with_payload bytes (head_of bytes) c.in-Some.from) none)))

pub returns : goal.returns
unfolding rtp_in
returns c =
    let bytes = c.args.bytes.now in
    let e = head_is bytes (omega arith) (λ i. omega (arith, c.type_inv.bytes i)) in
    let from : end_of (reading (after_fixed (head_of bytes)) (from_byte 12 bytes))
    ≡ Some c.in-Some.from = sym (c.header_end.ensures.end (head_of bytes) (from_byte 12 bytes) e) ∙ c.in-Some.is in
    let to : payload_end_of (head_of bytes) bytes c.in-Some.from ≡ Some c.in-Some-payload_end.to =
    sym (c.payload_end.ensures (head_of bytes) (from_byte 12 bytes) e) ∙ c.in-Some-payload_end.is in
    every bytes _ (rw (
      le-ltb 65535 (length bytes) (omega arith),
      e,
      eq-eqb (get_or bytes 0 0 / 64) 2 (omega arith),
      from,
    ) (c.accepted.ensures (head_of bytes) (from_byte 12 bytes) e
    ∙ sym (ap (with_payload bytes (head_of bytes) c.in-Some.from) to)))
