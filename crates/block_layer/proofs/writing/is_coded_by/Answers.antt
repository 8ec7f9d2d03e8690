use Rattle.std.proofs.Common.{◌/◌, Bool, eqb, ap, ◌∙◌, not, drop}
use Rattle.block_layer.proofs.Marks.{marks_after, none_marked}
use Rattle.block_layer.proofs.writing.is_coded_by.Goals as goal

pub returns-then-intra : goal.returns-then-intra
returns-then-intra c = λ levels marked.
    rw c.if-intra.true (
    ap (λ n. not (eqb (n / 2) 0)) marked
    ∙ ap (λ n. not (eqb n 0)) (marks_after 1 levels)
    ∙ ap (λ (b : Bool). not b) (none_marked (drop 1 levels))
    )

pub returns-else-intra : goal.returns-else-intra
returns-else-intra c = λ levels marked. rw c.if-intra.false (ap (λ n. not (eqb n 0)) marked
    ∙ ap (λ (b : Bool). not b) (none_marked levels))
