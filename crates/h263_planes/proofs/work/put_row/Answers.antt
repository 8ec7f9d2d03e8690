use Rattle.std.proofs.Common.{◌≡◌, ℕ, take, subst}
use Rattle.std.proofs.Math.Seq.{take-length}
use Rattle.h263_planes.proofs.Rows.{stored}
use Rattle.h263_planes.proofs.work.put_row.Goals as goal

pub returns : goal.returns
returns g c =
    stored g.row.N c.args.from c.args.row.now c.args.bytes.now c.requires.row c.requires.room
    (subst (λ (k : ℕ). take k c.args.row.now ≡ c.args.row.now) c.requires.row (take-length c.args.row.now))
