use Rattle.std.proofs.Common.{◌≡◌, ℕ, ◌+◌, ◌*◌, ◌^◌, ◌<◌, ◌∙◌, List, ℤ, pos, length, slice_index_or, ap, arith, lit≤}
use Rattle.h263_types.specs.Blocks.{IsValue}
use Rattle.idct8.specs.Transform.{entry}
use Rattle.idct8.specs.Vectors.{EightWithin}
use Rattle.idct8.proofs.Factors.{within_same}
use Rattle.idct8.proofs.Results.{value_within}
use Rattle.idct8.proofs.Vectors.{passed_lane16, passed_within16}
use Rattle.idct8.proofs.lines.column.Goals as goal

-- eight values that are taken from a block
taken : (column block : List ℤ) → length column ≡ 8 → ((j : ℕ) → j < 8 → IsValue (slice_index_or block (8 * j) (pos 0)))
    → ((j : ℕ) → j < 8 → slice_index_or column j (pos 0) ≡ slice_index_or block (8 * j) (pos 0))
    → EightWithin (2 ^ 11) column
taken column block long values e = record {
  long = long;
  within = λ j hj. within_same (2 ^ 11) (2 ^ 11) (lit≤ tt) (e j hj) (value_within (values j hj));
}

first_of_row : (block : List ℤ) (j : ℕ) → slice_index_or block (8 * j) (pos 0) ≡ entry block j 0
first_of_row block j =
    let plain : 8 * j ≡ 8 * j + 0 = omega arith in
    ap (λ (k : ℕ). slice_index_or block k (pos 0)) plain

pub returns-clause-numbers : goal.returns-clause-numbers
returns-clause-numbers c j hj =
    let block = c.args.block.now in
    let column = c.loop-j.column in
    passed_lane16 (2 ^ 11) j (lit≤ tt) (taken column block c.loop-j.invariant.0
    (λ k hk. c.requires (8 * k) (pos 0) (omega (arith, hk)))
    (λ k hk. c.loop-j.invariant.1 k (omega (arith, hk, c.loop-j-test.false))))
    ∙ c.loop-j.invariant.1 j (omega (arith, hj, c.loop-j-test.false))
    ∙ first_of_row block j

pub returns-clause-size : goal.returns-clause-size
returns-clause-size c =
    let block = c.args.block.now in
    let column = c.loop-j.column in
    passed_within16 (2 ^ 11) 8191 (lit≤ tt) (lit≤ tt) (taken column block c.loop-j.invariant.0
    (λ k hk. c.requires (8 * k) (pos 0) (omega (arith, hk)))
    (λ k hk. c.loop-j.invariant.1 k (omega (arith, hk, c.loop-j-test.false))))
