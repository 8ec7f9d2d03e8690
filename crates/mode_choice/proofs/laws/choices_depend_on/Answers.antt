use Rattle.std.proofs.Common.{◌≡◌, ℕ, List, map, Option, None, Some, ap, refl, sym, ◌∙◌}
use Rattle.std.specs.Prelude.{if◌then◌else◌}
use Rattle.std.specs.List.{range_with_len}
use Rattle.h263_types.specs.declared.blocks.Mb.{Mb}
use Rattle.h263_types.specs.declared.params.Params.{Params}
use Rattle.h263_types.specs.Sizes.{mbs_of}
use Rattle.h263_planes.specs.Picture.{Picture}
use Rattle.motion_search.specs.Best.{best_vector}
use Rattle.motion_search.specs.Cost as luma
use Rattle.picture_header.specs.declared.header.Header.{Header}
use Rattle.mode_choice.specs.Choice.{choices_of, deviation_of, inter_of, intra_of, chooses_intra}
use Rattle.mode_choice.proofs.laws.choices_depend_on.Goals as goal

-- the choice by the numbers that it takes
abbrev chosen : Picture → Option Picture → ℕ → ℕ → ℕ → ℕ → ℕ → Mb
chosen frame None rounding quant radius keep mb = intra_of frame quant keep mb
chosen frame (Some reference) rounding quant radius keep mb =
    let best = best_vector frame reference mb radius rounding in
    if chooses_intra (deviation_of (luma.samples_of frame mb)) best.cost
    then intra_of frame quant keep mb
    else inter_of frame reference quant keep rounding mb best.vector

abbrev all_chosen : Picture → Option Picture → ℕ → ℕ → ℕ → ℕ → List Mb
all_chosen frame reference rounding quant radius keep = map (chosen frame reference rounding quant radius keep)
    (range_with_len 0 (mbs_of frame.format))

by_numbers : (frame : Picture) (reference : Option Picture) (h : Header) (params : Params)
    → choices_of frame reference h params ≡ all_chosen frame reference h.rounding h.quant params.radius params.keep
unfolding choices_of
by_numbers frame None h params = refl
by_numbers frame (Some reference) h params = refl

pub returns : goal.returns
returns c = λ frame reference h g params others rounding quant radius keep.
    by_numbers frame reference h params
    ∙ ap (λ (n : ℕ). all_chosen frame reference n h.quant params.radius params.keep) rounding
    ∙ ap (λ (n : ℕ). all_chosen frame reference g.rounding n params.radius params.keep) quant
    ∙ ap (λ (n : ℕ). all_chosen frame reference g.rounding g.quant n params.keep) radius
    ∙ ap (λ (n : ℕ). all_chosen frame reference g.rounding g.quant others.radius n) keep
    ∙ sym (by_numbers frame reference g others)
