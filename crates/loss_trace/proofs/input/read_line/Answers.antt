-- The bytes before the place are those of the line, up to its newline or the room's end.
use Rattle.std.proofs.Common.{◌≡◌, ℕ, List, length, drop, Option, Some, subst, ap, ◌∙◌, arith}
use Rattle.std.proofs.lemmas.List.{drop-drop}
use Rattle.loss_trace.proofs.Firsts.{Came, byte_there, no_byte, nothing, unclosed, closed, goes_on, too_long}
use Rattle.loss_trace.proofs.input.read_line.Goals as goal

full : (text buf : List ℕ) (i n : ℕ) (left : Option (List ℕ)) → i ≡ n → Came text buf i × (left ≡ Some (drop i text))
    → Came text buf n × (left ≡ Some (drop n text))
full text buf i n left is h = subst (λ (k : ℕ). Came text buf k × (left ≡ Some (drop k text))) is h

pub returns-in-None-clause-told : goal.returns-in-None-clause-told
returns-in-None-clause-told g c = λ left told.
    let h = c.loop-i.invariant.told left told in
    let b = c.in_ok-read_byte.ensures.told (drop c.loop-i.i left) h.1 in
    nothing left c.loop-i.i c.if-i-eq0.true (no_byte c.in_ok-read_byte.field-0 (drop c.loop-i.i left) c.in-None.is b.0)
    _ b.1

pub returns-in-None-2-clause-told : goal.returns-in-None-2-clause-told
returns-in-None-2-clause-told g c = λ left told.
    let h = c.loop-i.invariant.told left told in
    let b = c.in_ok-read_byte.ensures.told (drop c.loop-i.i left) h.1 in
    unclosed left c.loop-i.line c.loop-i.i h.0 _ b.1 (omega (arith, c.if-i-eq0.false))
    (no_byte c.in_ok-read_byte.field-0 (drop c.loop-i.i left) c.in-None.is b.0)

pub returns-in-Some-eq10-clause-told : goal.returns-in-Some-eq10-clause-told
returns-in-Some-eq10-clause-told g c = λ left told.
    let h = c.loop-i.invariant.told left told in
    let b = c.in_ok-read_byte.ensures.told (drop c.loop-i.i left) h.1 in
    let byte = c.in-Some-eq10.field-0 in
    closed left c.loop-i.line c.loop-i.i h.0 _ b.1 byte (byte_there c.in_ok-read_byte.field-0 byte
    (drop c.loop-i.i left) c.in-Some-eq10.is b.0) c.in-Some-eq10.field-0-test

pub loop-i-preserved : goal.loop-i-preserved
loop-i-preserved g c = record {
  told = λ left told.
      let h = c.loop-i.invariant.told left told in
      let b = c.in_ok-read_byte.ensures.told (drop c.loop-i.i left) h.1 in
      let byte = c.in-Some.byte in (
        goes_on left c.loop-i.line c.loop-i.i h.0 _ b.1 byte (byte_there c.in_ok-read_byte.field-0 byte
            (drop c.loop-i.i left) c.in-Some.is b.0) c.in-Some.byte-test.1 (omega (arith, c.loop-i.auto.line)),
        b.1 ∙ ap (λ (l : List ℕ). Some l) (drop-drop 1 c.loop-i.i left),
      );
  others = λ r other. c.in_ok-read_byte.ensures.others r other ∙ c.loop-i.invariant.others r other;
  rest = c.calls.ensures.reads _ _ _ c.loop-i.invariant.rest c.in_ok-read_byte.ensures.rest;
}

pub returns-in-None-3-clause-told : goal.returns-in-None-3-clause-told
returns-in-None-3-clause-told g c = λ left told.
    let n = length c.loop-i.line in
    let h = full left c.loop-i.line c.loop-i.i n _ (omega arith) (c.loop-i.invariant.told left told) in
    let b = c.in_ok-read_byte-2.ensures.told (drop n left) h.1 in
    unclosed left c.loop-i.line n h.0 _ b.1 (omega (arith, c.loop-i.auto.line, c.requires.size))
    (no_byte c.in_ok-read_byte-2.field-0 (drop n left) c.in-None-3.is b.0)

pub returns-in-Some-eq10-2-clause-told : goal.returns-in-Some-eq10-2-clause-told
returns-in-Some-eq10-2-clause-told g c = λ left told.
    let n = length c.loop-i.line in
    let h = full left c.loop-i.line c.loop-i.i n _ (omega arith) (c.loop-i.invariant.told left told) in
    let b = c.in_ok-read_byte-2.ensures.told (drop n left) h.1 in
    let byte = c.in-Some-eq10-2.field-0 in
    closed left c.loop-i.line n h.0 _ b.1 byte (byte_there c.in_ok-read_byte-2.field-0 byte
    (drop n left) c.in-Some-eq10-2.is b.0) c.in-Some-eq10-2.field-0-test

pub returns-in-Some-2-clause-told : goal.returns-in-Some-2-clause-told
returns-in-Some-2-clause-told g c = λ left told.
    let n = length c.loop-i.line in
    let h = full left c.loop-i.line c.loop-i.i n _ (omega arith) (c.loop-i.invariant.told left told) in
    let b = c.in_ok-read_byte-2.ensures.told (drop n left) h.1 in
    let byte = c.in-Some-2.field-0 in
    too_long left c.loop-i.line n h.0 _ b.1 byte (byte_there c.in_ok-read_byte-2.field-0 byte
    (drop n left) c.in-Some-2.is b.0) c.in-Some-2.field-0-test.1 (omega (
      arith,
      c.loop-i.auto.line,
      c.requires.size,
    ))
