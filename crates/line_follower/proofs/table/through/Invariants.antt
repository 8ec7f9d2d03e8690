use Rattle.std.proofs.Common.{◌≡◌, ◌≤◌, ◌*◌, take, sum_by}
use Rattle.line_follower.specs.Table.{came_at}
use Rattle.line_follower.proofs.table.through.Given as goal

abbrev pub invariant-loop-picture : goal.invariant-loop-picture
invariant-loop-picture l =
    (l.sum ≡ sum_by (came_at l.now) (take l.picture-index l.pictures))
    × (l.sum ≤ 4294967295 * l.picture-index)
