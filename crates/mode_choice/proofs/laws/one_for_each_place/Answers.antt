use Rattle.std.proofs.Common.{◌≡◌, ℕ, ◌+◌, ◌<◌, [], ◌∷◌, ◌++◌, length, take, get_or, Option, add-one, ap, ◌∙◌, arith}
use Rattle.std.proofs.Math.Seq.{take-suc}
use Rattle.std.proofs.lemmas.List.{take_all}
use Rattle.std.proofs.lemmas.List.FromFn.{get_or-map-range_with_len, length-map-range_with_len}
use Rattle.h263_types.specs.declared.blocks.Mb.{Mb}
use Rattle.h263_types.specs.declared.blocks.Mb.TheVariants.{Skip}
use Rattle.h263_types.specs.declared.params.Params.{Params}
use Rattle.h263_types.specs.Sizes.{mbs_of}
use Rattle.h263_planes.specs.Picture.{Picture}
use Rattle.picture_header.specs.declared.header.Header.{Header}
use Rattle.mode_choice.specs.Choice.{choice_of, choices_of}
use Rattle.mode_choice.proofs.laws.one_for_each_place.Goals as goal

count : (frame : Picture) (reference : Option Picture) (h : Header) (params : Params)
    → length (choices_of frame reference h params) ≡ mbs_of frame.format
unfolding choices_of
count frame reference h params = length-map-range_with_len (choice_of frame reference h params) 0 (mbs_of frame.format)

each : (frame : Picture) (reference : Option Picture) (h : Header) (params : Params) (mb : ℕ) → mb < mbs_of frame.format
    → get_or (choices_of frame reference h params) mb Skip ≡ choice_of frame reference h params mb
unfolding choices_of
each frame reference h params mb here = get_or-map-range_with_len (choice_of frame reference h params) 0
    (mbs_of frame.format) mb mb Skip here (omega arith)

pub returns-clause-count : goal.returns-clause-count
returns-clause-count c = count

pub returns-clause-each : goal.returns-clause-each
returns-clause-each c = each

pub returns-clause-next : goal.returns-clause-next
returns-clause-next c = λ frame reference h params mb here.
    let mbs = choices_of frame reference h params in
    let next : take (mb + 1) mbs ≡ take mb mbs ++ get_or mbs mb Skip ∷ [] =
    rw (add-one) (take-suc mbs mb Skip (omega (arith, here, count frame reference h params))) in
    next ∙ ap (λ (m : Mb). take mb mbs ++ m ∷ []) (each frame reference h params mb here)

pub returns-clause-all : goal.returns-clause-all
returns-clause-all c = λ frame reference h params.
    take_all (mbs_of frame.format) (choices_of frame reference h params) (omega (arith, count frame reference h params))
