use Rattle.std.proofs.Common.{◌<◌, ◌+◌, ◌*◌, arith, lit≤, ltb-true, true, false, ℕ, List, ℤ}
use Rattle.idct8.proofs.Parity.{each_part_below, energy_of}
use Rattle.idct8.proofs.Vectors.{passed_lane, passed_within}
use Rattle.idct8.proofs.small.are_below.Goals as goal

pub larger_half-requires : goal.larger_half-requires
larger_half-requires c = passed_within 1073479696 1073479696 (lit≤ tt) (lit≤ tt) c.squares_across.ensures.sums_size

pub larger_half-requires-2 : goal.larger_half-requires-2
larger_half-requires-2 c = passed_within 1073479696 1073479696 (lit≤ tt)
    (lit≤ tt) c.squares_across.ensures.differences_size

first_half : (k : ℕ) → k < 4 → k < 8
first_half k h = omega (arith, h)

last_half : (k : ℕ) → k < 4 → 4 + k < 8
last_half k h = omega (arith, h)

pub returns : goal.returns
returns c small v u hv hu =
    let s : List ℤ = c.args.samples.now in
    let rows = c.folded.result in
    let across = c.squares_across.ensures in
    let most : ℕ = c.max-largest.result in
    let largest = c.max-largest.ensures in
    let few : most + 4 * c.args.least + 4 < 4 * c.args.least * c.args.least = ltb-true _ _ small in
    each_part_below s v u c.args.least most hv hu
    (energy_of s rows false false (λ k. k) first_half c.folded.ensures.sums c.squares_across.result.0 across.sums
    _ (λ i. passed_lane 1073479696 i (lit≤ tt) across.sums_size) most (omega (
      arith,
      c.larger_half.ensures.first,
      largest,
    )))
    (energy_of s rows false true (λ k. 4 + k) last_half c.folded.ensures.differences c.squares_across.result.0
    across.sums
    _ (λ i. passed_lane 1073479696 i (lit≤ tt) across.sums_size) most (omega (
      arith,
      c.larger_half.ensures.last,
      largest,
    )))
    (energy_of s rows true false (λ k. k) first_half c.folded.ensures.sums c.squares_across.result.1 across.differences
    _ (λ i. passed_lane 1073479696 i (lit≤ tt) across.differences_size) most
    (omega (arith, c.larger_half-2.ensures.first, largest)))
    (energy_of s rows true true (λ k. 4 + k) last_half c.folded.ensures.differences c.squares_across.result.1
    across.differences
    _ (λ i. passed_lane 1073479696 i (lit≤ tt) across.differences_size) most
    (omega (arith, c.larger_half-2.ensures.last, largest)))
    (omega (arith, few)) c.requires.least
