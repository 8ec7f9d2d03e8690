-- The words of both differences, put as one number, are the vector's text.
use Rattle.std.proofs.Common.{◌≡◌, ap, ◌∙◌, arith, length-append}
use Rattle.std.specs.Prelude.{◌-ℤ◌}
use Rattle.std.specs.Int.{w8}
use mir.Val.{to_z, of_z}
use Rattle.std.proofs.lemmas.Int.{to_z-of_z}
use Rattle.code_tables.specs.Tables.{mvd_text}
use Rattle.macroblock_layer.specs.Text.{wrapped}
use Rattle.macroblock_layer.specs.Written.{vector_text}
use Rattle.macroblock_layer.proofs.Joined.{long_is, put_both, both_are}
use Rattle.macroblock_layer.proofs.Ranges.{component_fits}
use Rattle.macroblock_layer.proofs.writing.write_vector.Goals as goal

pub put-requires-clause-room : goal.put-requires-clause-room
unfolding vector_text
put-requires-clause-room c =
    let a = c.difference_across in
    let b = c.difference_along in
    let x : to_z w8 (of_z w8 a.result) ≡ wrapped (c.args.vector.x -ℤ c.args.predictor.x) =
    to_z-of_z w8 a.result (component_fits a.result a.ensures.low a.ensures.high) ∙ a.ensures.wrapped in
    let y : to_z w8 (of_z w8 b.result) ≡ wrapped (c.args.vector.y -ℤ c.args.predictor.y) =
    to_z-of_z w8 b.result (component_fits b.result b.ensures.low b.ensures.high) ∙ b.ensures.wrapped in
    let first = long_is _ _ _ (c.mvd_number-across.ensures.text ∙ ap mvd_text x) in
    let second = long_is _ _ _ (c.mvd_number-along.ensures.text ∙ ap mvd_text y) in
    omega (
      arith,
      c.requires.room,
      first,
      second,
      length-append (mvd_text (wrapped (c.args.vector.x -ℤ c.args.predictor.x)))
          (mvd_text (wrapped (c.args.vector.y -ℤ c.args.predictor.y))),
    )

pub returns-clause-bits : goal.returns-clause-bits
unfolding vector_text
returns-clause-bits c =
    let a = c.difference_across in
    let b = c.difference_along in
    let x : to_z w8 (of_z w8 a.result) ≡ wrapped (c.args.vector.x -ℤ c.args.predictor.x) =
    to_z-of_z w8 a.result (component_fits a.result a.ensures.low a.ensures.high) ∙ a.ensures.wrapped in
    let y : to_z w8 (of_z w8 b.result) ≡ wrapped (c.args.vector.y -ℤ c.args.predictor.y) =
    to_z-of_z w8 b.result (component_fits b.result b.ensures.low b.ensures.high) ∙ b.ensures.wrapped in
    let p = c.mvd_number-across in
    let q = c.mvd_number-along in
    put_both c.args.writer.now c.put.new.self p.result.1 q.result.1 c.joined.result
    (mvd_text (wrapped (c.args.vector.x -ℤ c.args.predictor.x)))
    (mvd_text (wrapped (c.args.vector.y -ℤ c.args.predictor.y))) c.put.ensures.bits (c.joined.ensures.text
    ∙ both_are p.result.1 q.result.1 p.result.0 q.result.0 _ _ (p.ensures.text ∙ ap mvd_text x) (q.ensures.text
    ∙ ap mvd_text y))

pub returns-clause-len : goal.returns-clause-len
unfolding vector_text
returns-clause-len c =
    let a = c.difference_across in
    let b = c.difference_along in
    let x : to_z w8 (of_z w8 a.result) ≡ wrapped (c.args.vector.x -ℤ c.args.predictor.x) =
    to_z-of_z w8 a.result (component_fits a.result a.ensures.low a.ensures.high) ∙ a.ensures.wrapped in
    let y : to_z w8 (of_z w8 b.result) ≡ wrapped (c.args.vector.y -ℤ c.args.predictor.y) =
    to_z-of_z w8 b.result (component_fits b.result b.ensures.low b.ensures.high) ∙ b.ensures.wrapped in
    let first = long_is _ _ _ (c.mvd_number-across.ensures.text ∙ ap mvd_text x) in
    let second = long_is _ _ _ (c.mvd_number-along.ensures.text ∙ ap mvd_text y) in
    omega (
      arith,
      c.put.ensures.len,
      first,
      second,
      length-append (mvd_text (wrapped (c.args.vector.x -ℤ c.args.predictor.x)))
          (mvd_text (wrapped (c.args.vector.y -ℤ c.args.predictor.y))),
    )
