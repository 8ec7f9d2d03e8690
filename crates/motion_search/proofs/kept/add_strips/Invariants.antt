use Rattle.std.proofs.Common.{◌≡◌, ℕ, ◌≤◌, ◌<◌, ◌+◌, ◌*◌, ◌/◌, slice_index}
use Rattle.h263_planes.specs.Lent.{picture}
use Rattle.h263_planes.specs.Samples.{sample_at}
use Rattle.h263_planes.specs.declared.Plane.TheVariants.{Y}
use Rattle.motion_search.specs.Areas.{area_sum, LeavesRest}
use Rattle.motion_search.proofs.kept.add_strips.Given as goal

-- the areas in the columns before are written
abbrev pub invariant-loop-s : goal.invariant-loop-s
invariant-loop-s g l = record {
  few : l.s ≤ g.row.WIDTH / 24;
  rest : LeavesRest l.rows l.fn.out l.out;
  sums : (x k : ℕ) → x < 24 * l.s → l.rows.begin ≤ k → k < l.rows.end → slice_index l.out (384 * k + x)
      ≡ area_sum (sample_at (picture l.reference) Y) x (l.rows.first + k);
}
