-- The payload header's fields in their order: the first fault of the packet, or where its data begins.
use Rattle.std.proofs.Common.{◌≡◌, ◌≤◌, ◌*◌, ◌+◌, ◌-◌, Bool, List, ℕ, length, Result, Ok, Err, refl, ap, sym, ◌∙◌, arith, rules}
use Rattle.std.specs.Prelude.{IfOk}
use Rattle.std.proofs.lemmas.List.{length-append}
use Rattle.std.proofs.lemmas.Result.{err_from_is_err_and}
use Rattle.h263_bits.specs.declared.fault.Fault.{Fault}
use Rattle.h263_bits.specs.Bits.{bits_of}
use Rattle.h263_bits.specs.Reading.{Bits, bits_between, skip, first_fault}
use Rattle.h263_bits.specs.Syntax.{reading}
use Rattle.h263_bits.proofs.SyntaxLaws.{IsMoved, moved, drop-window, sound, length-bits_of, length-window}
use Rattle.h263_types.specs.declared.format.Format.{Format}
use Rattle.rtp_header.specs.declared.rtp.Rtp.{Rtp}
use Rattle.rtp_header.specs.Written.{IsPayloadWithin}
use Rattle.picture_header.specs.Laws.{HeaderLaws}
use Rattle.h263_payload.specs.declared.payload.Opening.{Opening}
use Rattle.h263_payload.specs.declared.payload.Payload.{Payload}
use Rattle.h263_payload.specs.Text.{leading, IsPayload}
use Rattle.h263_payload.specs.Faults.{payload_at, payload_bits_of, payload_fault, extra_at, begun_at}
use Rattle.h263_payload.specs.Ranges.{IsExtraHeader, IsAfterHeader}
use Rattle.h263_payload.proofs.Exact as payload
use Rattle.h263_payload.proofs.reading.read_payload.Goals as goal

-- where the reader stands after the first fields
after : (bytes : List ℕ) (from end : ℕ) (o : Opening) (c : Bits) → from ≤ end → end ≤ 8 * length bytes
    → reading leading (bits_between bytes from end) ≡ Ok (o, c) → IsMoved bytes end c
after bytes from end o c order within e = let s = sound leading (bits_between bytes from end) c o e in
    moved bytes from end s.0 c order within s.1

skipped : (bytes : List ℕ) (at end n : ℕ) → at + n ≤ end → skip n (bits_between bytes at end)
    ≡ bits_between bytes (at + n) end
skipped bytes at end n fits = ap (λ (t : List Bool). record { at = at + n; bits = t })
    (drop-window (bits_of bytes) at end n fits)

found : (format : Format) (bytes : List ℕ) (rtp : Rtp) (r : Result Payload Fault)
    → r ≡ payload_at format (payload_bits_of bytes rtp) → IfOk r (λ p. IsPayload format p (payload_bits_of bytes rtp))
found format bytes rtp (Ok p) e = payload.read_text format p (payload_bits_of bytes rtp) (sym e)
found format bytes rtp (Err f) e = tt

range : (format : Format) (bytes : List ℕ) (rtp : Rtp) (r : Result Payload Fault) → IsPayloadWithin rtp bytes
    → r ≡ payload_at format (payload_bits_of bytes rtp) → IfOk r (λ p. IsExtraHeader p.extra)
    → IfOk r (λ p. IsAfterHeader p rtp)
range format bytes rtp (Ok p) w e extra =
    let s = payload.read_text format p (payload_bits_of bytes rtp) (sym e) in
    let len : length (payload_bits_of bytes rtp).bits ≡ 8 * rtp.to - 8 * rtp.from = length-window (bits_of bytes)
    (8 * rtp.from) (8 * rtp.to) (omega (arith, w.order)) (omega (arith, w.end, length-bits_of bytes)) in
    let long = (payload.leading_is s.opening s.front s.opened).long in
    let parts : 8 * rtp.to - 8 * rtp.from ≡ length s.front + (length s.middle + (2 + length s.begun.0)) =
    sym len ∙ ap length s.parts ∙ length-append s.front _
    ∙ ap (λ (n : ℕ). length s.front + n) (length-append s.middle s.coded
    ∙ ap (λ (n : ℕ). length s.middle + n) (ap length s.begun.1 ∙ omega arith)) in
    record { extra = extra; from = omega (arith, s.from, long); two = omega (arith, s.from, parts, w.order) }
range format bytes rtp (Err f) w e extra = tt

-- what is said of each return
every : HeaderLaws → (format : Format) (bytes : List ℕ) (rtp : Rtp) (r : Result Payload Fault)
    → IsPayloadWithin rtp bytes
    → r ≡ payload_at format (payload_bits_of bytes rtp) → IfOk r (λ p. IsExtraHeader p.extra) → record {
      found : IfOk r (λ p. IsPayload format p (payload_bits_of bytes rtp));
      only : (p : Payload) → IsPayload format p (payload_bits_of bytes rtp) → r ≡ Ok p;
      fault : first_fault r ≡ payload_fault format (payload_bits_of bytes rtp);
      exact : r ≡ payload_at format (payload_bits_of bytes rtp);
      range : IfOk r (λ p. IsAfterHeader p rtp);
    }
every laws format bytes rtp r w e extra = record {
  found = found format bytes rtp r e;
  only = λ p text. e ∙ payload.text_read laws format p (payload_bits_of bytes rtp) text;
  fault = ap first_fault e;
  exact = e;
  range = range format bytes rtp r w e extra;
}

pub overflow_mul-end : goal.overflow_mul-end
overflow_mul-end c = let w = c.payload_within.ensures c.args.rtp.now c.args.bytes.now c.requires in
    omega (arith, w.end, w.short)

pub overflow_mul-rtp : goal.overflow_mul-rtp
overflow_mul-rtp c = let w = c.payload_within.ensures c.args.rtp.now c.args.bytes.now c.requires in
    omega (arith, w.order, w.end, w.short)

pub new-reader-requires-clause-short : goal.new-reader-requires-clause-short
new-reader-requires-clause-short c = (c.payload_within.ensures c.args.rtp.now c.args.bytes.now c.requires).short

pub new-reader-requires-clause-order : goal.new-reader-requires-clause-order
new-reader-requires-clause-order c = let w = c.payload_within.ensures c.args.rtp.now c.args.bytes.now c.requires in
    omega (arith, w.order)

pub new-reader-requires-clause-within : goal.new-reader-requires-clause-within
new-reader-requires-clause-within c = let w = c.payload_within.ensures c.args.rtp.now c.args.bytes.now c.requires in
    omega (arith, w.end)

pub returns-in_err-opening : goal.returns-in_err-opening
unfolding payload_at
returns-in_err-opening c =
    let w = c.payload_within.ensures c.args.rtp.now c.args.bytes.now c.requires in
    let p = err_from_is_err_and c.from_residual.result c.from_residual.ensures.1 in
    let read = ap (reading leading) (sym c.new-reader.ensures.bits) ∙ c.in_err-opening.ensures.reads in
    every c.in_a_syntax.ensures c.args.format c.args.bytes.now c.args.rtp.now c.from_residual.result w
    (rw (p.1, p.2, read) refl) (search rules)

pub read_extra-requires-clause-order : goal.read_extra-requires-clause-order
read_extra-requires-clause-order c =
    let w = c.payload_within.ensures c.args.rtp.now c.args.bytes.now c.requires in
    let read = ap (reading leading) (sym c.new-reader.ensures.bits) ∙ c.in_ok-opening.ensures.reads in
    let m = after c.args.bytes.now (8 * c.args.rtp.now.from) (8 * c.args.rtp.now.to) c.in_ok-opening.opening
    c.read_leading.new.reader (omega (arith, w.order)) (omega (arith, w.end)) read in
    omega (arith, m.order, c.at-at.ensures)

pub returns-in_err-extra : goal.returns-in_err-extra
unfolding payload_at
returns-in_err-extra c =
    let w = c.payload_within.ensures c.args.rtp.now c.args.bytes.now c.requires in
    let p = err_from_is_err_and c.from_residual-in_err-extra.result c.from_residual-in_err-extra.ensures.1 in
    let read = ap (reading leading) (sym c.new-reader.ensures.bits) ∙ c.in_ok-opening.ensures.reads in
    let m = after c.args.bytes.now (8 * c.args.rtp.now.from) (8 * c.args.rtp.now.to) c.in_ok-opening.opening
    c.read_leading.new.reader (omega (arith, w.order)) (omega (arith, w.end)) read in
    let left : c.read_leading.new.reader ≡ bits_between c.args.bytes.now c.at-at.result (8 * c.args.rtp.now.to) = m.bits
    ∙ ap (λ (k : ℕ). bits_between c.args.bytes.now k (8 * c.args.rtp.now.to)) (sym c.at-at.ensures) in
    let extra = ap (extra_at c.args.format c.in_ok-opening.opening.plen c.in_ok-opening.opening.pebit) left
    ∙ sym c.in_err-extra.ensures.exact in
    every c.in_a_syntax.ensures c.args.format c.args.bytes.now c.args.rtp.now c.from_residual-in_err-extra.result w
    (rw (p.1, p.2, read, extra) refl) (search rules)

pub returns : goal.returns
unfolding payload_at
returns c =
    let w = c.payload_within.ensures c.args.rtp.now c.args.bytes.now c.requires in
    let plen = c.in_ok-opening.opening.plen in
    let read = ap (reading leading) (sym c.new-reader.ensures.bits) ∙ c.in_ok-opening.ensures.reads in
    let m = after c.args.bytes.now (8 * c.args.rtp.now.from) (8 * c.args.rtp.now.to) c.in_ok-opening.opening
    c.read_leading.new.reader (omega (arith, w.order)) (omega (arith, w.end)) read in
    let left : c.read_leading.new.reader ≡ bits_between c.args.bytes.now c.at-at.result (8 * c.args.rtp.now.to) = m.bits
    ∙ ap (λ (k : ℕ). bits_between c.args.bytes.now k (8 * c.args.rtp.now.to)) (sym c.at-at.ensures) in
    let extra = ap (extra_at c.args.format plen c.in_ok-opening.opening.pebit) left ∙ sym c.in_ok-extra.ensures.exact in
    let coded : skip (8 * plen) c.read_leading.new.reader ≡ bits_between c.args.bytes.now (c.at-at.result + 8 * plen)
    (8 * c.args.rtp.now.to) = ap (skip (8 * plen)) left
    ∙ skipped c.args.bytes.now c.at-at.result (8 * c.args.rtp.now.to) (8 * plen) c.in_ok-extra.ensures.room in
    every c.in_a_syntax.ensures c.args.format c.args.bytes.now c.args.rtp.now c.read_start.result w
    (rw (read, extra) (c.read_start.ensures.exact ∙ ap (begun_at c.in_ok-extra.extra) (sym coded))) (search rules)
