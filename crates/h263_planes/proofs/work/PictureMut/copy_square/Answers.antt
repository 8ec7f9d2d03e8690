use Rattle.std.proofs.Common.{◌≡◌, ℕ, ◌+◌, ◌*◌, ◌-◌, List, length, get_or, ap, subst, ◌∙◌, arith}
use Rattle.h263_types.specs.declared.format.Format.{Format}
use Rattle.h263_planes.specs.Layout.{picture_of, width_in}
use Rattle.h263_planes.specs.Lent.{picture}
use Rattle.h263_planes.specs.Samples.{sample_at}
use Rattle.h263_planes.specs.Rows.{sets_rows}
use Rattle.h263_planes.proofs.LentRows.{copied}
use Rattle.h263_planes.proofs.Rows.{square_samples}
use Rattle.h263_planes.proofs.work.PictureMut.copy_square.Goals as goal

pub returns-clause-samples : goal.returns-clause-samples
returns-clause-samples g c = λ other i j h.
    let f = c.args.self.now.layout.format in
    let bytes = c.args.self.now.bytes.now in
    let plane = c.args.plane in
    let n = g.row.N in
    let x = c.args.x in
    let y = c.args.y in
    let p = picture c.args.source in
    let rows = c.rows-rows.result.now in
    let long : length rows ≡ width_in f plane * (n - 1) + n =
    subst (λ (t : Format). length rows ≡ width_in t plane * (n - 1) + n) c.requires.format c.rows-rows.ensures.length in
    ap (λ (l : List ℕ). sample_at (picture_of f l) other i j) (c.put_rows.ensures.after
    ∙ ap (λ (w : ℕ). sets_rows w n w rows c.place-from.result n bytes) c.width-width.ensures)
    ∙ square_samples f plane other rows n (width_in f plane) x y _ i j bytes c.args.self.now.whole c.place-from.ensures
    c.requires.inside.in_row h.in_row n (omega arith) (omega (arith, long)) c.requires.inside.in_plane
    ∙ copied p plane other rows (width_in f plane) x y n i j _ (λ k l hk hl.
    subst (λ (t : Format). get_or rows (width_in t plane * l + k) 0 ≡ sample_at p plane (x + k) (y + l))
    c.requires.format (c.rows-rows.ensures.samples k l hk hl))
