use Rattle.std.proofs.Common.{◌≡◌, ℕ, Bool, ◌&&◌, nat_eq, cond, ap, arith, sym, subst, ◌∙◌}
use Rattle.h263_types.specs.declared.format.Format.{Format}
use Rattle.h263_planes.specs.Blocks.{mb_of}
use Rattle.h263_planes.specs.Lent.{picture}
use Rattle.h263_planes.specs.Samples.{Inside, in_block, sample_at, same_plane}
use Rattle.h263_planes.specs.Work.{work}
use Rattle.picture_recon.proofs.InSquare.{whole_square}
use Rattle.picture_recon.proofs.skipped.copy_in_plane.Goals as goal

pub copy_square-requires-clause-inside : goal.copy_square-requires-clause-inside
copy_square-requires-clause-inside g c =
    whole_square c.args.format (work c.args.out.now).format c.args.plane c.square_of-square.result g.row.N
    c.requires.format
    (c.square_of-square.ensures.size
    ∙ sym c.requires.size) (omega (arith, c.requires.least)) c.square_of-square.ensures.inside

pub returns-clause-samples : goal.returns-clause-samples
returns-clause-samples g c = λ other x y h.
    let plane = c.args.plane in
    let square = c.square_of-square.result in
    let size : square.size ≡ g.row.N = c.square_of-square.ensures.size ∙ sym c.requires.size in
    let here : Inside (work c.args.out.now).format other x y 1 = subst (λ (f : Format). Inside f other x y 1)
    (sym c.requires.format) h in
    let test : in_block plane square.x square.y g.row.N g.row.N other x y
    ≡ (same_plane plane other && nat_eq (mb_of c.args.format other x y) c.args.at) =
    subst (λ (k : ℕ). in_block plane square.x square.y k k other x y
    ≡ (same_plane plane other && nat_eq (mb_of c.args.format other x y) c.args.at)) size
    (c.square_of-square.ensures.samples other x y h) in
    c.copy_square.ensures.samples other x y here
    ∙ ap (λ (b : Bool). cond b (sample_at (picture c.args.reference) other x y)
    (sample_at (work c.args.out.now) other x y)) test
