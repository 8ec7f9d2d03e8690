-- The rows above the place have their differences, each within -255 to 255.
use Rattle.std.proofs.Common.{◌≡◌, ◌≤◌, ℕ, ◌+◌, ◌*◌, ◌/◌, ◌%◌, ◌<◌, ap, ◌∙◌, arith, pos, ◌-ℤ◌, ℤ, get_or}
use Rattle.std.proofs.lemmas.Int.{ints}
use Rattle.std.proofs.lemmas.List.Elements.{All-from_get_or}
use Rattle.std.proofs.Math.Nat.{mul-le-mul_left}
use Rattle.idct8.specs.Ranges.{IsSample}
use Rattle.mode_choice.proofs.LentRows.{lent_in_block, one_more_row}
use Rattle.mode_choice.proofs.predicted.put_differences.Goals as goal

pub slice_bounds-put_difference-end : goal.slice_bounds-put_difference-end
slice_bounds-put_difference-end c =
    let last : c.loop-j.j ≤ 7 = omega (arith, c.loop-j-test.true) in
    omega (
      arith,
      mul-le-mul_left c.args.width last,
      mul-le-mul_left c.args.stride last,
      c.loop-j.invariant.1,
      c.loop-j.invariant.2,
      c.requires.rows,
      c.requires.predicted,
    )

pub slice_bounds-put_difference-end-in-loop-j : goal.slice_bounds-put_difference-end-in-loop-j
slice_bounds-put_difference-end-in-loop-j c =
    let last : c.loop-j.j ≤ 7 = omega (arith, c.loop-j-test.true) in
    omega (
      arith,
      mul-le-mul_left c.args.width last,
      mul-le-mul_left c.args.stride last,
      c.loop-j.invariant.1,
      c.loop-j.invariant.2,
      c.requires.rows,
      c.requires.predicted,
    )

pub slice_bounds-put_difference-end-in-loop-j-2 : goal.slice_bounds-put_difference-end-in-loop-j-2
slice_bounds-put_difference-end-in-loop-j-2 c =
    let last : c.loop-j.j ≤ 7 = omega (arith, c.loop-j-test.true) in
    omega (
      arith,
      mul-le-mul_left c.args.width last,
      mul-le-mul_left c.args.stride last,
      c.loop-j.invariant.1,
      c.loop-j.invariant.2,
      c.requires.rows,
      c.requires.predicted,
    )

pub loop-j-preserved : goal.loop-j-preserved
loop-j-preserved c =
    let inv = c.loop-j.invariant in
    let rows = c.args.rows.now in
    let predicted = c.args.predicted.now in (
      c.put_difference.ensures.long,
      omega (arith, inv.1),
      omega (arith, inv.2),
      λ k hk hj.
          one_more_row k c.loop-j.j _ _ _ _ (c.put_difference.ensures.residuals k hk)
          (λ e. cc (
            lent_in_block rows 0 c.args.width c.loop-j.j c.loop-j.above k inv.1 e,
            lent_in_block predicted c.args.from c.args.stride c.loop-j.j c.loop-j.at k inv.2 e,
          ))
          (inv.3 k hk) hj,
    )

place_at : (w k : ℕ) → 0 + w * (k / 8) + k % 8 ≡ w * (k / 8) + k % 8
place_at w k = omega arith

pub returns-clause-differences : goal.returns-clause-differences
returns-clause-differences c = λ k h.
    c.loop-j.invariant.3 k h (omega arith)
    ∙ ap (λ (n : ℕ). pos (get_or c.args.rows.now n 0) -ℤ pos
    (get_or c.args.predicted.now (c.args.from + c.args.stride * (k / 8) + k % 8) 0)) (place_at c.args.width k)

-- the difference of two bytes
is_difference : (z : ℤ) (s p : ℕ) → z ≡ (pos s -ℤ pos p) → s < 256 → p < 256 → IsSample z
is_difference z s p e hs hp = record { low = omega (arith, ints); high = omega (arith, ints) }

pub returns-clause-range : goal.returns-clause-range
returns-clause-range c =
    All-from_get_or IsSample c.loop-j.residuals (pos 0) (λ k h.
    let below : k < 64 = omega (arith, c.loop-j.invariant.0) in
    let a : ℕ = 0 + c.args.width * (k / 8) + k % 8 in
    let b : ℕ = c.args.from + c.args.stride * (k / 8) + k % 8 in
    let sample : get_or c.args.rows.now a 0 < 256 = omega (arith, c.type_inv.rows a) in
    let byte : get_or c.args.predicted.now b 0 < 256 = omega (arith, c.type_inv.predicted b) in
    is_difference _ _ _ (c.loop-j.invariant.3 k below (omega arith)) sample byte)
