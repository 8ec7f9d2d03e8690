use Rattle.h263_planes.proofs.LentRows.{lent_rows}
use Rattle.h263_planes.proofs.lent.PictureRef.rows.Goals as goal

pub returns-clause-samples : goal.returns-clause-samples
returns-clause-samples c = λ i j hi hj.
    lent_rows c.args.self.now.layout.format c.args.self.now.bytes.now c.args.plane c.args.x c.args.y c.args.n
    c.args.count _ _ i j
    c.place-first.ensures c.place-last.ensures c.requires.inside.in_row c.requires.inside.in_plane hi hj
