use Rattle.std.proofs.Common.{◌≡◌, ℕ, ◌+◌, ◌-◌, ◌<◌, length, arith, ap, sym, ◌∙◌}
use Rattle.h263_types.specs.declared.blocks.Mb.{Mb}
use Rattle.h263_types.specs.Blocks.{mb_in}
use Rattle.h263_planes.specs.Blocks.{mb_of}
use Rattle.picture_recon.specs.Samples.{sample_in}
use Rattle.picture_recon.proofs.Showing.{by_place, one_more}
use Rattle.picture_recon.proofs.laws.shown_one_by_one.Goals as goal

pub returns-clause-none : goal.returns-clause-none
returns-clause-none c = λ f rounding reference mbs p plane x y inside under. absurd (omega (arith, under))

pub returns-clause-macroblock : goal.returns-clause-macroblock
returns-clause-macroblock c = λ f rounding reference mbs at old new shows sets plane x y inside under.
    one_more (mb_of f plane x y) at _ _ _ _ (sets plane x y inside) (shows plane x y inside)
    (λ here. ap (λ (k : ℕ). sample_in rounding reference (mb_in mbs k) plane x y) (sym here)) under

pub returns-clause-slice : goal.returns-clause-slice
returns-clause-slice c = λ f rounding reference mbs first run old new shows part sets plane x y inside under.
    let k = mb_of f plane x y in
    sets plane x y inside
    ∙ by_place first (length run) k _ _ (sample_in rounding reference (mb_in mbs k) plane x y)
    (shows plane x y inside)
    (λ there.
    let below : k - first < length run = omega (arith, there, under) in
    let place : first + (k - first) ≡ k = omega (arith, there) in
    ap (λ (m : Mb). sample_in rounding reference m plane x y) (part (k - first) below
    ∙ ap (λ (n : ℕ). mb_in mbs n) place))
    under

pub returns-clause-all : goal.returns-clause-all
returns-clause-all c = λ p rounding reference mbs whole shows.
    c.samples_are_reconstruction.ensures.only p rounding reference mbs whole
    (λ plane x y inside. shows plane x y inside (c.numbered_samples.ensures.in_picture p.format plane x y inside))
