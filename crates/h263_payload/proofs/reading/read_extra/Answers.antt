-- An extra header fills its bytes, and its fault is the first one of the packet.
use Rattle.std.proofs.Common.{◌≡◌, ℕ, Bool, ◌*◌, ◌+◌, ◌-◌, ◌≤◌, ◌<◌, List, length, take, drop, refl, ap, sym, ◌∙◌, arith, eq-eqb}
use Rattle.std.proofs.lemmas.Bool.{ne_eqb, le-ltb, lt-ltb}
use Rattle.std.proofs.lemmas.List.{length-drop}
use Rattle.std.proofs.lemmas.Result.{err_from_is_err_and}
use Rattle.h263_bits.specs.Bits.{bits_of}
use Rattle.h263_bits.specs.Reading.{Bits, bits_between}
use Rattle.h263_bits.specs.Syntax.{reading}
use Rattle.h263_bits.proofs.SyntaxLaws.{length-bits_of, length-window, take-take}
use Rattle.h263_types.specs.declared.format.Format.{Format}
use Rattle.picture_header.specs.Text.{header}
use Rattle.h263_payload.specs.Faults.{extra_at, filled, first_bits}
use Rattle.h263_payload.proofs.reading.read_extra.Goals as goal

-- the first bits between two places
first_bits_is : (bytes : List ℕ) (at end n : ℕ) → at ≤ end → end ≤ 8 * length bytes → n ≤ end - at
    → first_bits n (bits_between bytes at end) ≡ bits_between bytes at (at + n)
first_bits_is bytes at end n order within fits =
    let len = length-window (bits_of bytes) at end order (omega (arith, length-bits_of bytes)) in
    let back : at + n - at ≡ n = omega arith in
    ap (λ (t : List Bool). record { at = at; bits = t }) (take-take n (end - at) (drop at (bits_of bytes)) fits
    (omega (arith, length-bits_of bytes, length-drop at (bits_of bytes)))
    ∙ ap (λ (k : ℕ). take k (drop at (bits_of bytes))) (sym back))

-- an extra header that is there and isn't cut
there : (format : Format) (plen pebit at end : ℕ) (bytes : List ℕ) → at ≤ end → end ≤ 8 * length bytes → 0 < plen
    → 8 * plen ≤ end - at
    → extra_at format plen pebit (bits_between bytes at end)
    ≡ filled (reading (header format) (bits_between bytes at (at + (8 * plen - pebit))))
unfolding extra_at
there format plen pebit at end bytes order within some fits =
    let len = length-window (bits_of bytes) at end order (omega (arith, length-bits_of bytes)) in
    rw (
      ne_eqb plen 0 (λ same. omega (arith, same, some)),
      le-ltb (length (bits_between bytes at end).bits) (8 * plen)
          (omega (arith, len, fits)),
    )
    (ap (λ (b : Bits). filled (reading (header format) b)) (first_bits_is bytes at end (8 * plen - pebit) order within
    (omega (arith, fits))))

pub returns-then-plen-eq0-clause-exact : goal.returns-then-plen-eq0-clause-exact
unfolding extra_at
returns-then-plen-eq0-clause-exact c = rw (eq-eqb c.args.opening.plen 0 (omega arith)) refl

pub returns-then-end-at-clause-exact : goal.returns-then-end-at-clause-exact
unfolding extra_at
returns-then-end-at-clause-exact c =
    let len = length-window (bits_of c.args.bytes.now) c.args.at c.args.end c.requires.order
    (omega (arith, length-bits_of c.args.bytes.now, c.requires.within)) in
    rw (
      c.at.ensures,
      ne_eqb c.args.opening.plen 0 (λ same. omega (arith, same)),
      lt-ltb (length (bits_between c.args.bytes.now c.args.at c.args.end).bits) (8 * c.args.opening.plen)
          (omega (arith, len)),
    ) refl

pub returns-in_err-header-clause-exact : goal.returns-in_err-header-clause-exact
returns-in_err-header-clause-exact c =
    let p = err_from_is_err_and c.from_residual.result c.from_residual.ensures.1 in
    let more = there c.args.format c.args.opening.plen c.args.opening.pebit c.args.at c.args.end c.args.bytes.now
    c.requires.order c.requires.within (omega arith) (omega arith) in
    let read = ap (reading (header c.args.format)) (sym c.new-reader.ensures.bits) ∙ c.in_err-header.ensures.exact in
    rw (p.1, p.2) (sym (more ∙ ap filled read))

pub returns-then-rest-gt0-clause-exact : goal.returns-then-rest-gt0-clause-exact
returns-then-rest-gt0-clause-exact c =
    let more = there c.args.format c.args.opening.plen c.args.opening.pebit c.args.at c.args.end c.args.bytes.now
    c.requires.order c.requires.within (omega arith) (omega arith) in
    let read = ap (reading (header c.args.format)) (sym c.new-reader.ensures.bits) ∙ c.in_ok-header.ensures.exact in
    rw (
      more,
      read,
      ne_eqb (length c.read_header.new.reader.bits) 0 (λ same. omega (arith, same)),
      c.at-then-rest-gt0-2.ensures,
      c.at-then-rest-gt0.ensures,
    ) refl

pub returns-clause-exact : goal.returns-clause-exact
returns-clause-exact c =
    let more = there c.args.format c.args.opening.plen c.args.opening.pebit c.args.at c.args.end c.args.bytes.now
    c.requires.order c.requires.within (omega arith) (omega arith) in
    let read = ap (reading (header c.args.format)) (sym c.new-reader.ensures.bits) ∙ c.in_ok-header.ensures.exact in
    rw (more, read, eq-eqb (length c.read_header.new.reader.bits) 0 (omega arith)) refl
