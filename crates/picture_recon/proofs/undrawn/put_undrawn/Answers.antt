use Rattle.std.proofs.Common.{◌≡◌, ℕ, ◌<◌, List, length, map, ap, sym, subst, ◌∙◌}
use Rattle.std.specs.List.{range_with_len}
use Rattle.std.proofs.lemmas.List.Elements.{All-get_or}
use Rattle.h263_types.specs.declared.blocks.Block.{Block}
use Rattle.h263_types.specs.declared.blocks.Mb.TheVariants.{Intra}
use Rattle.h263_types.specs.Blocks.{AreWhole, HasQuant, HasWholeBlocks, IsIntraBlock, IsIntraMb, IsMb}
use Rattle.h263_planes.specs.Picture.{Picture}
use Rattle.h263_planes.specs.Work.{work}
use Rattle.picture_recon.specs.Undrawn.{undrawn_block, undrawn_mb}
use Rattle.picture_recon.proofs.Bytes.{other_mb, put_blocks}
use Rattle.picture_recon.proofs.undrawn.put_undrawn.Goals as goal

same_mb : (q quant : ℕ) (blocks : List Block) (p : Picture) (at : ℕ) → q ≡ quant
    → blocks ≡ map (undrawn_block p at) (range_with_len 0 6) →
    undrawn_mb quant p at ≡ Intra q blocks
unfolding undrawn_mb
same_mb q quant blocks p at eq eb = ap (λ (n : ℕ). Intra n (map (undrawn_block p at) (range_with_len 0 6))) (sym eq)
    ∙ ap (Intra q) (sym eb)

pub returns-in-Intra-clause-put : goal.returns-in-Intra-clause-put
returns-in-Intra-clause-put c = λ quant has.
    let blocks = c.in-Intra.blocks in
    let whole : AreWhole blocks = subst HasWholeBlocks c.in-Intra.is c.is_whole.ensures.whole in
    let in_range : IsIntraMb c.in-Intra.quant blocks = subst IsMb c.in-Intra.is c.requires.in_range in
    same_mb c.in-Intra.quant quant blocks (work c.put_levels.new.out) c.args.at
    (subst (HasQuant quant) c.in-Intra.is has)
    (put_blocks c.args.format c.args.at blocks (work c.args.out.now) (work c.put_levels.new.out)
    c.put_levels.ensures.bytes c.put_levels.ensures.format c.requires.at whole.count
    (λ b h. All-get_or IsIntraBlock blocks b _ (subst (λ (n : ℕ). b < n) (sym whole.count) h) in_range.each)
    (λ b h. All-get_or (λ (x : Block). length x.levels ≡ 64) blocks b _ (subst (λ (n : ℕ). b < n) (sym whole.count) h)
    whole.each))
    ∙ sym c.in-Intra.is

pub returns-in-Intra-clause-others : goal.returns-in-Intra-clause-others
returns-in-Intra-clause-others c = λ quant other below apart.
    other_mb c.args.format c.args.at _ (work c.args.out.now) (work c.put_levels.new.out) c.put_levels.ensures.bytes
    quant other c.requires.format c.put_levels.ensures.format below apart
