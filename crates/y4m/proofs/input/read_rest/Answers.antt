-- The bytes before the place are those of the line, up to its newline or the room's end.
use Rattle.std.proofs.Common.{◌≡◌, ℕ, ◌+◌, ◌-◌, ◌++◌, [], ◌∷◌, List, length, take, drop, set, Some, sym, ap, ◌∙◌, arith}
use Rattle.std.proofs.Math.ListN.{length-set}
use Rattle.std.proofs.lemmas.List.{drop-drop}
use Rattle.y4m.specs.Line.{line_within}
use Rattle.y4m.proofs.Inputs.{byte_there, no_byte, drop_none, ends_before, ends_here, goes_on}
use Rattle.y4m.proofs.Cuts.{free_more}
use Rattle.y4m.proofs.input.read_rest.Goals as goal

pub returns-in_default-clause-told : goal.returns-in_default-clause-told
returns-in_default-clause-told g c = λ left told.
    let i = c.loop-i.i in
    let h = c.loop-i.invariant.told left told in
    let b = c.in_ok-byte.ensures.told (drop i left) h.1 in
    let none : drop i left ≡ [] = no_byte c.in_ok-byte.field-0 (drop i left) c.in_default.is b.0 in (
      ends_before c.loop-i.line left i _ h.0 none ∙ ap (λ (n : ℕ). line_within n left) c.loop-i.auto.line,
      b.1
          ∙ ap (λ (l : List ℕ). Some l) (drop_none (drop i left) 1 0 none),
    )

pub returns-then-byte-eq10-clause-told : goal.returns-then-byte-eq10-clause-told
returns-then-byte-eq10-clause-told g c = λ left told.
    let i = c.loop-i.i in
    let h = c.loop-i.invariant.told left told in
    let b = c.in_ok-byte.ensures.told (drop i left) h.1 in
    let there : drop i left ≡ c.in-Some.byte ∷ drop 1 (drop i left) = byte_there c.in_ok-byte.field-0 c.in-Some.byte
    (drop i left) c.in-Some.is b.0 in (
      ends_here c.loop-i.line left i _ h.0 c.in-Some.byte (omega (arith, c.loop-i.auto.line)) there c.if-byte-eq10.true
          ∙ ap (λ (n : ℕ). line_within n left) c.loop-i.auto.line,
      b.1 ∙ ap (λ (l : List ℕ). Some l) (drop-drop 1 i left),
    )

pub loop-i-preserved : goal.loop-i-preserved
loop-i-preserved g c = record {
  told = λ left told.
      let i = c.loop-i.i in
      let h = c.loop-i.invariant.told left told in
      let b = c.in_ok-byte.ensures.told (drop i left) h.1 in
      let there : drop i left ≡ c.in-Some.byte ∷ drop 1 (drop i left) = byte_there c.in_ok-byte.field-0 c.in-Some.byte
      (drop i left) c.in-Some.is b.0 in
      let size : length (set c.loop-i.line i c.in-Some.byte) ≡ length c.loop-i.line =
      length-set c.loop-i.line i c.in-Some.byte in (
        (λ j. take (i + 1) (set c.loop-i.line i c.in-Some.byte) ++ line_within (size j - (i + 1)) (drop (i + 1) left))
            ∙ goes_on c.loop-i.line left i _ h.0 c.in-Some.byte (omega (arith, c.loop-i.auto.line)) there
            c.if-byte-eq10.false
            ∙ ap (λ (n : ℕ). line_within n left) (sym size),
        b.1 ∙ ap (λ (l : List ℕ). Some l) (drop-drop 1 i left),
      );
  free = λ left told.
      let i = c.loop-i.i in
      let h = c.loop-i.invariant.told left told in
      let b = c.in_ok-byte.ensures.told (drop i left) h.1 in
      free_more left i c.in-Some.byte (c.loop-i.invariant.free left told)
      (byte_there c.in_ok-byte.field-0 c.in-Some.byte (drop i left) c.in-Some.is b.0) c.if-byte-eq10.false;
  others = λ r other. c.in_ok-byte.ensures.others r other ∙ c.loop-i.invariant.others r other;
  faults = c.in_ok-byte.ensures.ok_faults ∙ c.loop-i.invariant.faults;
  rest = c.calls.ensures.reads _ _ _ c.loop-i.invariant.rest c.in_ok-byte.ensures.rest;
}
