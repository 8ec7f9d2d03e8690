use Rattle.std.proofs.Common.{◌≡◌, ◌*◌, true}
use Rattle.half_sample.specs.Sources.{AreLanesFrom, IsLineOf}
use Rattle.half_sample.proofs.block.luma_rows.Given as goal

-- the rows above j are done
abbrev pub invariant-loop-j : goal.invariant-loop-j
invariant-loop-j l =
    (l.at ≡ l.source.width * l.j)
    × (l.half.y ≡ true → IsLineOf l.source l.at l.half.x l.above)
    × AreLanesFrom 16 l.source l.half l.rounding 0 l.j l.out
