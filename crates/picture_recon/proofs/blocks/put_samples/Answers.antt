use Rattle.std.proofs.Common.{◌≡◌, ℕ, ◌+◌, ◌*◌, ◌-◌, ◌%◌, get_or, ap, refl, arith}
use Rattle.h263_planes.specs.Samples.{in_block, same_plane}
use Rattle.picture_recon.proofs.InSquare.{is_in, other_test}
use Rattle.picture_recon.proofs.blocks.put_samples.Goals as goal

-- a corner stands at multiples of 8, so a place in the block is what a column and a row leave by 8
pub returns-clause-samples : goal.returns-clause-samples
returns-clause-samples c = λ plane x y h.
    let corner = c.args.corner in
    other_test (in_block corner.plane corner.x corner.y 8 8 plane x y) _ _ _ _ _
    (c.set_square.ensures.samples plane x y h) refl
    (λ t.
    let here = is_in (same_plane corner.plane plane) corner.x corner.y 8 x y t in
    let place : 8 * (y - corner.y) + (x - corner.x) ≡ 8 * (y % 8) + x % 8 = omega (
      arith,
      c.requires.corner.column,
      c.requires.corner.row,
      here.from,
      here.to,
      here.below,
      here.above,
    ) in
    ap (λ (k : ℕ). get_or c.args.samples.now k 0) place)
