use Rattle.std.proofs.Common.{ℕ, pos, ◌*◌, ◌+◌, ◌/◌, ◌%◌, ◌<◌, ◌≡◌, ◌∙◌, ap, arith, get_or, lit≤, subst, sym}
use Rattle.std.proofs.lemmas.List.Elements.{All-from_get_or}
use Rattle.idct8.specs.Ranges.{Within}
use Rattle.idct8.specs.Transform.{entry}
use Rattle.idct8.specs.Vectors.{lane, row_at}
use Rattle.idct8.proofs.Near.{near_of_lanes}
use Rattle.idct8.proofs.Vectors.{eight_more}
use Rattle.idct8.proofs.sixteenths.nearly.Goals as goal

pub transposed-requires : goal.transposed-requires
transposed-requires c j hj = eight_more 16320 32767 (lit≤ tt) (c.down.ensures.size j hj)

pub across-requires : goal.across-requires
across-requires c = c.transposed.ensures.size 16320 c.down.ensures.size

pub returns-clause-sixteenths : goal.returns-clause-sixteenths
returns-clause-sixteenths c u v hu hv =
    c.put_rows.ensures.numbers u v hu hv
    ∙ c.across.ensures.numbers u v hu hv
    ∙ near_of_lanes c.args.samples.now c.down.result c.transposed.result u v hv c.transposed.ensures.rows
    c.down.ensures.numbers

pub returns-clause-range : goal.returns-clause-range
returns-clause-range c =
    All-from_get_or (Within 32640) c.put_rows.new.out (pos 0) (λ at below.
    let small : at < 64 = omega (arith, below, c.put_rows.ensures.long) in
    let place : 8 * (at / 8) + at % 8 ≡ at = omega arith in
    let row : at / 8 < 8 = omega (arith, small) in
    let column : at % 8 < 8 = omega arith in
    let is : entry c.put_rows.new.out (at / 8) (at % 8) ≡ lane (row_at c.across.result (at / 8)) (at % 8) =
    c.put_rows.ensures.numbers (at / 8) (at % 8) row column in
    subst (Within 32640) (sym is ∙ ap (λ (k : ℕ). get_or c.put_rows.new.out k (pos 0)) place)
    ((c.across.ensures.size (at / 8) row).within (at % 8) column))
