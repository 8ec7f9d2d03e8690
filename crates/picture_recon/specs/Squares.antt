-- The samples of a macroblock in one plane.
use Rattle.std.specs.Prelude.{◌+◌, ◌≤◌}
use Rattle.h263_types.specs.declared.format.Format.{Format}
use Rattle.h263_planes.specs.declared.Plane.{Plane}
use Rattle.h263_planes.specs.Layout.{width_in, height_in}
use Rattle.picture_recon.specs.declared.squares.Square.{Square}

-- all samples of a macroblock lie in the plane
pub record IsInside (f : Format) (plane : Plane) (s : Square) : Type 0 where
  pub across : s.x + s.size ≤ width_in f plane
  pub down : s.y + s.size ≤ height_in f plane
