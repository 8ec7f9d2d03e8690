use Rattle.std.proofs.Common.{◌≡◌, ℕ, [], drop, Some, List, ap, ◌∙◌, arith}
use Rattle.y4m.proofs.Inputs.{none_read, one_read, drop_none}
use Rattle.y4m.proofs.input.read_byte.Goals as goal

pub returns-then-branch-eq0-clause-told : goal.returns-then-branch-eq0-clause-told
returns-then-branch-eq0-clause-told g c = λ left told.
    let h = c.in_ok-read.ensures.told left told in
    let none : left ≡ [] = none_read left c.read.new.buf c.in_ok-read.field-0 c.read.auto.buf c.if-branch-eq0.true h.0
    in
    (none, h.1 ∙ ap (λ (l : List ℕ). Some l) (drop_none left c.in_ok-read.field-0 1 none))

pub returns-clause-told : goal.returns-clause-told
returns-clause-told g c = λ left told.
    let h = c.in_ok-read.ensures.told left told in
    let one : c.in_ok-read.field-0 ≡ 1 = omega (arith, c.in_ok-read.ensures.count) in
    (one_read left c.read.new.buf c.in_ok-read.field-0 c.read.auto.buf one h.0, h.1 ∙ (λ i. Some (drop (one i) left)))
