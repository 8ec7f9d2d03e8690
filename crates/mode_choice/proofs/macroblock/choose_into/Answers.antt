use Rattle.std.proofs.Common.{Option, None, Some, sym, subst}
use Rattle.std.specs.Option.{option_map}
use Rattle.h263_types.specs.Blocks.{IsMb}
use Rattle.h263_types.specs.References.{ReachesInside}
use Rattle.h263_planes.specs.declared.lent.PictureRef.{PictureRef}
use Rattle.h263_planes.specs.Lent.{picture}
use Rattle.h263_planes.specs.References.{HasReferenceOnlyInP}
use Rattle.motion_search.specs.Areas.{AreSumsOfAny}
use Rattle.mode_choice.proofs.macroblock.choose_into.Goals as goal

pub returns-in-None-clause-in_range : goal.returns-in-None-clause-in_range
returns-in-None-clause-in_range c =
    subst IsMb (sym c.intra_macroblock.ensures.choice) (c.chosen_is_in_range.ensures.in_range
    (picture c.args.frame) None c.args.header.now c.args.params.now c.args.mb c.requires.quant)

pub returns-in-Some-clause-in_range : goal.returns-in-Some-clause-in_range
returns-in-Some-clause-in_range c =
    subst IsMb (sym c.macroblock_in_p.ensures.choice) (c.chosen_is_in_range.ensures.in_range (picture c.args.frame)
    (Some (picture c.in-Some.reference)) c.args.header.now c.args.params.now c.args.mb c.requires.quant)

pub returns-in-Some-clause-reach : goal.returns-in-Some-clause-reach
returns-in-Some-clause-reach c =
    let f = (picture c.args.frame).format in
    let only = subst (λ (reference : Option PictureRef). HasReferenceOnlyInP c.args.header.now.kind f
    (option_map picture reference)) c.in-Some.is c.requires.reference in
    subst (ReachesInside f c.args.mb) (sym c.macroblock_in_p.ensures.choice)
    (c.chosen_is_in_range.ensures.reach (picture c.args.frame) (Some (picture c.in-Some.reference)) c.args.header.now
    c.args.params.now c.args.mb only c.requires.mb)

pub macroblock_in_p-requires-clause-sums : goal.macroblock_in_p-requires-clause-sums
macroblock_in_p-requires-clause-sums c =
    subst (λ (reference : Option PictureRef). AreSumsOfAny (option_map picture reference) c.args.out.now.sums)
    c.in-Some.is c.requires.sums

pub returns-in-None-clause-sums : goal.returns-in-None-clause-sums
returns-in-None-clause-sums c =
    subst (λ (reference : Option PictureRef). AreSumsOfAny (option_map picture reference) c.args.out.now.sums)
    (sym c.in-None.is) tt

pub returns-in-Some-clause-sums : goal.returns-in-Some-clause-sums
returns-in-Some-clause-sums c =
    subst (λ (reference : Option PictureRef). AreSumsOfAny (option_map picture reference)
    c.macroblock_in_p.new.out.sums) (sym c.in-Some.is) c.macroblock_in_p.ensures.sums
