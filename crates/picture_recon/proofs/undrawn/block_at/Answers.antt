use Rattle.std.proofs.Common.{◌≡◌, ℕ, ◌+◌, ◌*◌, ◌/◌, ◌%◌, get_or, ap, ◌∙◌, arith}
use Rattle.h263_types.specs.declared.format.Format.{Format}
use Rattle.h263_planes.specs.declared.blocks.Corner.{Corner}
use Rattle.h263_planes.specs.Blocks.{corner_of}
use Rattle.h263_planes.specs.Lent.{picture}
use Rattle.h263_planes.specs.Samples.{sample_at}
use Rattle.picture_recon.specs.Undrawn.{byte_in_block, undrawn_block}
use Rattle.picture_recon.proofs.Bytes.{same_bytes}
use Rattle.picture_recon.proofs.undrawn.block_at.Goals as goal

pub returns : goal.returns
unfolding undrawn_block
returns c =
    let p = picture c.args.undrawn in
    let corner = c.block_corner.ensures.corner
    ∙ ap (λ (f : Format). corner_of f c.args.at c.args.block) c.format.ensures.format in
    c.levels_of.ensures
    ∙ same_bytes (λ k. get_or c.samples_at.result k 0) (byte_in_block p c.args.at c.args.block)
    (λ k h.
    let place : k ≡ 8 * (k / 8) + k % 8 = omega arith in
    ap (λ (n : ℕ). get_or c.samples_at.result n 0) place
    ∙ c.samples_at.ensures (k / 8) (k % 8) (omega (arith, h)) (omega arith)
    ∙ ap (λ (o : Corner). sample_at p o.plane (o.x + k % 8) (o.y + k / 8)) corner)
