use Rattle.std.proofs.Common.{ℕ, List, ap, ◌∙◌, arith}
use Rattle.h263_planes.specs.Layout.{picture_of}
use Rattle.h263_planes.specs.Samples.{sample_at}
use Rattle.h263_planes.specs.Rows.{sets_rows}
use Rattle.h263_planes.proofs.Rows.{square_long, square_samples}
use Rattle.h263_planes.proofs.work.PictureMut.set_square.Goals as goal

pub returns-clause-samples : goal.returns-clause-samples
returns-clause-samples g c = λ other i j h.
    let f = c.args.self.now.layout.format in
    let bytes = c.args.self.now.bytes.now in
    ap (λ (l : List ℕ). sample_at (picture_of f l) other i j) (c.put_rows.ensures.after
    ∙ ap (λ (w : ℕ). sets_rows w g.row.N g.row.N c.args.samples.now c.place-from.result g.row.N bytes)
    c.width-width.ensures)
    ∙ square_samples f c.args.plane other c.args.samples.now g.row.N g.row.N c.args.x c.args.y
    _ i j bytes c.args.self.now.whole c.place-from.ensures
    c.requires.inside.in_row h.in_row g.row.N (omega arith) (square_long g.row.N _ c.requires.samples)
    c.requires.inside.in_plane
