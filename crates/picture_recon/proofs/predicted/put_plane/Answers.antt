use Rattle.std.proofs.Common.{◌≡◌, ℕ, ◌*◌, ◌/◌, ◌%◌, ◌&&◌, nat_eq, ap, arith, sym, subst, ◌∙◌}
use Rattle.h263_types.specs.declared.format.Format.{Format}
use Rattle.h263_types.specs.Sizes.{columns_of}
use Rattle.h263_planes.specs.Blocks.{mb_of}
use Rattle.h263_planes.specs.Samples.{Inside, in_block, same_plane}
use Rattle.h263_planes.specs.Work.{work}
use Rattle.picture_recon.proofs.InSquare.{predicted_put, whole_square}
use Rattle.picture_recon.proofs.predicted.put_plane.Goals as goal

pub set_square-requires-clause-inside : goal.set_square-requires-clause-inside
set_square-requires-clause-inside g c =
    whole_square c.args.format (work c.args.out.now).format c.args.plane c.square_of-square.result g.row.N
    c.requires.format
    (c.square_of-square.ensures.size
    ∙ sym c.requires.size) (omega (arith, c.requires.least)) c.square_of-square.ensures.inside

pub returns-clause-samples : goal.returns-clause-samples
returns-clause-samples g c = λ p v r same predicted other x y h.
    let plane = c.args.plane in
    let at = c.args.at in
    let format = c.args.format in
    let n = g.row.N in
    let square = c.square_of-square.result in
    let is = c.square_of-square.ensures in
    let size : square.size ≡ n = is.size ∙ sym c.requires.size in
    let here : Inside (work c.args.out.now).format other x y 1 = subst (λ (f : Format). Inside f other x y 1)
    (sym c.requires.format) h in
    predicted_put format p plane other at n v r c.args.samples.now square.x square.y x y _ _
    same predicted
    (is.column ∙ ap (λ (k : ℕ). k * (at % columns_of format)) size)
    (is.row ∙ ap (λ (k : ℕ). k * (at / columns_of format)) size)
    (c.set_square.ensures.samples other x y here)
    (subst (λ (k : ℕ). in_block plane square.x square.y k k other x y
    ≡ (same_plane plane other && nat_eq (mb_of format other x y) at)) size (is.samples other x y h))
