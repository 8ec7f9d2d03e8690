use Rattle.std.proofs.Common.{◌≡◌, [], ℕ, List, length, ap, sym, ◌∙◌, eq-eqb, arith}
use Rattle.std.specs.Prelude.{ℤ}
use Rattle.h263_bits.specs.Bits.{spelled}
use Rattle.h263_bits.proofs.SyntaxLaws.{appends_none}
use Rattle.h263_types.specs.Marks.{marks_of}
use Rattle.block_layer.specs.Text.{inter_text}
use Rattle.block_layer.specs.Step.{level_in_list}
use Rattle.block_layer.proofs.Marks.{none_marked}
use Rattle.block_layer.proofs.Steps.{none_inter}
use Rattle.block_layer.proofs.Spelt.{size_is, inter_written}
use Rattle.block_layer.proofs.writing.write_inter_marked.Goals as goal

-- where no level is marked nothing is written
nothing : (levels : List ℤ) (marks : ℕ) → marks ≡ marks_of levels → marks ≡ 0 → inter_text levels ≡ []
nothing levels marks are zero = none_inter levels (sym (none_marked levels) ∙ eq-eqb (marks_of levels) 0 (sym are
    ∙ zero))

pub write_levels-requires-clause-levels : goal.write_levels-requires-clause-levels
write_levels-requires-clause-levels c = record {
  sizes = λ k after inside. size_is (level_in_list c.args.block.now.levels k)
      (c.requires.block.levels k inside);
}

pub returns-then-marks-ne0-clause-spells : goal.returns-then-marks-ne0-clause-spells
returns-then-marks-ne0-clause-spells c = inter_written c.in_a_syntax.ensures c.args.block.now c.requires.whole
    c.requires.block

pub returns-then-marks-ne0-clause-bits : goal.returns-then-marks-ne0-clause-bits
unfolding inter_text spelled
returns-then-marks-ne0-clause-bits c = c.write_levels.ensures.bits

pub returns-else-marks-ne0-clause-bits : goal.returns-else-marks-ne0-clause-bits
returns-else-marks-ne0-clause-bits c =
    let zero : c.args.marks ≡ 0 = omega (arith, c.if-marks-ne0.false) in
    appends_none c.args.writer.now (inter_text c.args.block.now.levels)
    (nothing c.args.block.now.levels c.args.marks c.requires.marks zero)

pub returns-else-marks-ne0-clause-spells : goal.returns-else-marks-ne0-clause-spells
returns-else-marks-ne0-clause-spells c = inter_written c.in_a_syntax.ensures c.args.block.now c.requires.whole
    c.requires.block

pub returns-else-marks-ne0-clause-len : goal.returns-else-marks-ne0-clause-len
returns-else-marks-ne0-clause-len c =
    let zero : c.args.marks ≡ 0 = omega (arith, c.if-marks-ne0.false) in
    let none : length (inter_text c.args.block.now.levels)
    ≡ 0 = ap length (nothing c.args.block.now.levels c.args.marks c.requires.marks zero) in
    omega (arith, none)
