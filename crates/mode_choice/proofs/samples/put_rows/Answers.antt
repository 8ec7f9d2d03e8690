use Rattle.std.proofs.Common.{◌≡◌, ◌≤◌, ℕ, ◌+◌, ◌*◌, ◌/◌, ◌%◌, ◌<◌, ap, ◌∙◌, arith, sym, subst, pos, ℤ, get_or}
use Rattle.std.proofs.lemmas.Int.{ints}
use Rattle.std.proofs.lemmas.List.Elements.{All-from_get_or}
use Rattle.std.proofs.Math.Nat.{mul-le-mul_left}
use Rattle.idct8.specs.Ranges.{IsSample}
use Rattle.mode_choice.proofs.LentRows.{lent_in_block, one_more_row}
use Rattle.mode_choice.proofs.samples.put_rows.Goals as goal

pub slice_bounds-put_row-end : goal.slice_bounds-put_row-end
slice_bounds-put_row-end c =
    let last : c.loop-j.j ≤ 7 = omega (arith, c.loop-j-test.true) in
    omega (arith, mul-le-mul_left c.args.width last, c.loop-j.invariant.1, c.requires.rows)

pub overflow_add-at : goal.overflow_add-at
overflow_add-at c =
    let last : c.loop-j.j ≤ 7 = omega (arith, c.loop-j-test.true) in
    record { fits = omega (arith, mul-le-mul_left c.args.width last, c.loop-j.invariant.1, c.requires.width) }

pub loop-j-preserved : goal.loop-j-preserved
loop-j-preserved c =
    let inv = c.loop-j.invariant in (
      c.put_row.ensures.long,
      omega (arith, inv.1),
      λ k hk hj.
          one_more_row k c.loop-j.j _ _ _ _ (c.put_row.ensures.samples k hk)
          (λ e. ap pos (lent_in_block c.args.rows.now 0 c.args.width c.loop-j.j c.loop-j.at k inv.1 e))
          (inv.2 k hk) hj,
    )

place_at : (w k : ℕ) → 0 + w * (k / 8) + k % 8 ≡ w * (k / 8) + k % 8
place_at w k = omega arith

pub returns-clause-samples : goal.returns-clause-samples
returns-clause-samples c = λ k h.
    c.loop-j.invariant.2 k h (omega arith) ∙ ap (λ (n : ℕ). pos (get_or c.args.rows.now n 0)) (place_at c.args.width k)

-- a byte is a sample
byte_is_sample : (z : ℤ) (n : ℕ) → z ≡ pos n → n < 256 → IsSample z
byte_is_sample z n e h = subst IsSample (sym e) (record { low = omega (arith, ints); high = omega (arith, ints) })

pub returns-clause-range : goal.returns-clause-range
returns-clause-range c =
    All-from_get_or IsSample c.loop-j.samples (pos 0) (λ k h.
    let below : k < 64 = omega (arith, c.loop-j.invariant.0) in
    let byte : get_or c.args.rows.now (0 + c.args.width * (k / 8) + k % 8) 0 < 256 = omega (
      arith,
      c.type_inv.rows (0 + c.args.width * (k / 8) + k % 8),
    ) in
    byte_is_sample _ _ (c.loop-j.invariant.2 k below (omega arith)) byte)
