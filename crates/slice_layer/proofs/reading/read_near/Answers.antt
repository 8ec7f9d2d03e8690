use Rattle.std.proofs.Common.{◌≡◌, Bool, true, List, sym, ◌∙◌}
use Rattle.h263_types.specs.declared.Kind.{Kind}
use Rattle.h263_types.specs.declared.Kind.TheVariants as kinds
use Rattle.h263_types.specs.declared.blocks.Mb.TheVariants.{Skip}
use Rattle.h263_types.specs.Blocks.{IsOfKind}
use Rattle.macroblock_layer.specs.Text.{begins_skipped}
use Rattle.slice_layer.proofs.Ranges.{next_within}
use Rattle.slice_layer.proofs.reading.read_near.Goals as goal

-- nothing is skipped in I
of_kind : (kind : Kind) (bits : List Bool) → begins_skipped kind bits ≡ true → IsOfKind kind Skip
of_kind kinds.I bits e = absurd cc
of_kind kinds.P bits e = tt

pub returns-then-pass_skipped-clause-reads : goal.returns-then-pass_skipped-clause-reads
returns-then-pass_skipped-clause-reads c = c.pass_skipped.ensures.skipped c.if-pass_skipped.true _ _ _

pub returns-then-pass_skipped-clause-range : goal.returns-then-pass_skipped-clause-range
returns-then-pass_skipped-clause-range c = record {
  in_range = tt;
  of_kind = of_kind c.args.header.now.kind c.args.reader.now.bits (sym c.pass_skipped.ensures.value
      ∙ c.if-pass_skipped.true);
  reach = tt;
}

pub returns-clause-range : goal.returns-clause-range
returns-clause-range c =
    let a = c.args in
    let r = c.reach_of-reach in
    next_within c.read_mb.result c.pass_skipped.new.reader c.read_mb.new.reader a.header.now a.next.at a.next.quant
    r.result c.predictor-predictor.result c.read_mb.new.out r.ensures.within c.read_mb.ensures.found
    (c.read_mb.ensures.range c.requires.quant)
