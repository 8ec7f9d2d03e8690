-- The macroblocks before the place are drawn from the levels that stood where their samples stand.
use Rattle.std.proofs.Common.{◌≡◌, ℕ, ◌<◌, List, map, ap, sym, subst, ◌∙◌, arith}
use Rattle.std.specs.List.{range_with_len}
use Rattle.std.proofs.lemmas.List.FromFn.{get_or-map-range_with_len}
use Rattle.h263_types.specs.declared.blocks.Block.{Block}
use Rattle.h263_types.specs.declared.blocks.Mb.{Mb}
use Rattle.h263_types.specs.declared.blocks.Mb.TheVariants.{Intra, Skip}
use Rattle.h263_types.specs.declared.format.Format.{Format}
use Rattle.h263_types.specs.Blocks.{IsIntraMb, mb_in}
use Rattle.h263_types.specs.Sizes.{mbs_of}
use Rattle.h263_planes.specs.Lent.{picture}
use Rattle.h263_planes.specs.Picture.{Picture}
use Rattle.h263_planes.specs.Work.{work}
use Rattle.picture_recon.specs.Samples.{reconstruction}
use Rattle.picture_recon.specs.Shown.{SetsMb, ShowsFirst}
use Rattle.picture_recon.specs.Undrawn.{undrawn_block, undrawn_mb, undrawn_mbs}
use Rattle.picture_recon.proofs.undrawn.draw_undrawn.Goals as goal

below : (f g : Format) (at n : ℕ) → g ≡ f → n ≡ mbs_of g → at < n → at < mbs_of f
below f g at n e ends h = subst (λ (k : Format). at < mbs_of k) e (subst (λ (k : ℕ). at < k) ends h)

pub put_intra-requires-clause-in_range : goal.put_intra-requires-clause-in_range
unfolding undrawn_mb
put_intra-requires-clause-in_range c =
    let here = below (picture c.args.undrawn).format c.format-format.result c.loop-at.at c.mbs-at-end.result
    c.format-format.ensures.format c.mbs-at-end.ensures c.loop-at-test.true in
    subst (λ (blocks : List Block). IsIntraMb c.args.quant blocks) (sym c.blocks_at-blocks.ensures)
    (c.requires.in_range c.loop-at.at here)

mb_there : (quant : ℕ) (p : Picture) (at : ℕ) (blocks : List Block) → at < mbs_of p.format
    → undrawn_mb quant p at ≡ Intra quant blocks → Intra quant blocks ≡ mb_in (undrawn_mbs quant p) at
unfolding undrawn_mbs
mb_there quant p at blocks h e = sym (get_or-map-range_with_len (undrawn_mb quant p) 0 (mbs_of p.format) at at Skip h
    (omega arith) ∙ e)

mb_of_blocks : (quant : ℕ) (p : Picture) (at : ℕ) (blocks : List Block)
    → blocks ≡ map (undrawn_block p at) (range_with_len 0 6) → undrawn_mb quant p at ≡ Intra quant blocks
unfolding undrawn_mb
mb_of_blocks quant p at blocks e = ap (Intra quant) (sym e)

pub loop-at-preserved : goal.loop-at-preserved
loop-at-preserved c =
    let p = picture c.args.undrawn in
    let quant = c.args.quant in
    let mbs = undrawn_mbs quant p in
    let at = c.loop-at.at in
    let old = work c.loop-at.out in
    let new = work c.put_intra.new.out in
    let here = below p.format c.format-format.result at c.mbs-at-end.result c.format-format.ensures.format
    c.mbs-at-end.ensures c.loop-at-test.true in
    let mb = mb_there quant p at c.blocks_at-blocks.result here
    (mb_of_blocks quant p at c.blocks_at-blocks.result c.blocks_at-blocks.ensures) in (
      c.put_intra.ensures.same_loan ∙ c.loop-at.invariant.0,
      c.put_intra.ensures.format ∙ c.format-format.ensures.format,
      λ rounding reference.
          c.shown_one_by_one.ensures.macroblock p.format rounding reference mbs at old new
          (c.loop-at.invariant.2 rounding reference)
          (subst (λ (f : Format). SetsMb f rounding reference at (mb_in mbs at) old new) c.format-format.ensures.format
          (subst (λ (m : Mb). SetsMb c.format-format.result rounding reference at m old new) mb
          (c.put_intra.ensures.samples rounding reference))),
      c.put_intra.ensures.whole,
    )

pub returns-clause-drawn : goal.returns-clause-drawn
returns-clause-drawn c = λ rounding reference.
    let f = (picture c.args.undrawn).format in
    let mbs = undrawn_mbs c.args.quant (picture c.args.undrawn) in
    let q = work c.loop-at.out in
    let same : q.format ≡ f = c.loop-at.invariant.1 in
    let all : c.loop-at.at ≡ mbs_of q.format = omega (
      arith,
      ap mbs_of (c.format-format.ensures.format ∙ sym same),
      c.mbs-at-end.ensures,
      c.loop-at-test.false,
    ) in
    let shows : ShowsFirst q.format rounding reference mbs (mbs_of q.format) q =
    subst (λ (g : Format). ShowsFirst g rounding reference mbs (mbs_of q.format) q) (sym same)
    (subst (λ (n : ℕ). ShowsFirst f rounding reference mbs n q) all (c.loop-at.invariant.2 rounding reference)) in
    subst (λ (g : Format). q ≡ reconstruction g rounding reference mbs) same
    (c.shown_one_by_one.ensures.all q rounding reference mbs c.loop-at.invariant.3.whole shows)
