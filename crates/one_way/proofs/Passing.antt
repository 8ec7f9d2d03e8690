-- The numbers of a call, and the count of one play more.
use Rattle.std.proofs.Common.{◌≡◌, ℕ, ◌+◌, ◌≤◌, List, ◌∷◌, refl, ap, ◌∙◌, arith}
use Rattle.h263_types.specs.declared.Mark.{Mark}
use Rattle.h263_types.specs.declared.Mark.TheVariants as marks
use Rattle.h263_types.specs.declared.clock.Clock.{Clock}
use Rattle.h263_types.specs.declared.clock.Clock.TheVariants.{Standard, Custom}
use Rattle.h263_types.specs.declared.params.Params.{Params}
use Rattle.h263_types.specs.Clocks.{half_of}
use Rattle.h263_types.specs.Params.{IsParams}
use Rattle.h263_planes.specs.Picture.{Picture}
use Rattle.call_model.specs.Coding.{Shown, Exact, Patched, Held}
use Rattle.call_model.specs.Coding as model
use Rattle.call_model.specs.Lawful.{IsPace}
use Rattle.receiver_end.specs.Answers.{mark_from}
use Rattle.one_way.specs.declared.tally.Tally.{Tally}
use Rattle.one_way.specs.Counts.{AreCounted, tally_counted, one_exact, one_patched, one_held}
use Rattle.one_way.specs.Both.{steady}

-- half a period is 512 at most
pub half_few : (clock : Clock) → half_of clock ≤ 512
half_few Standard = omega arith
half_few Custom = omega arith

pub steady_is : (p : Params) → IsParams p → IsPace (steady p)
steady_is p in_range sizes few = (omega (arith, in_range.quant_low), omega (arith, in_range.quant_high))

-- ---- one play more is counted

one_more : (mark : Mark) (by : model.Mark) (tally : Tally) → mark ≡ mark_from by
    → ((tally_counted mark tally).exact ≡ tally.exact + one_exact by)
    × ((tally_counted mark tally).patched ≡ tally.patched + one_patched by)
    × ((tally_counted mark tally).held ≡ tally.held + one_held by)
one_more marks.Exact Exact tally is = (refl, omega arith, omega arith)
one_more marks.Patched Patched tally is = (omega arith, refl, omega arith)
one_more marks.Held Held tally is = (omega arith, omega arith, refl)
one_more marks.Exact Patched tally is = absurd cc
one_more marks.Exact Held tally is = absurd cc
one_more marks.Patched Exact tally is = absurd cc
one_more marks.Patched Held tally is = absurd cc
one_more marks.Held Exact tally is = absurd cc
one_more marks.Held Patched tally is = absurd cc

pub count_more : (mark : Mark) (tally : Tally) (shown : Shown Picture) (plays : List (Shown Picture))
    → mark ≡ mark_from shown.mark
    → AreCounted tally plays → AreCounted (tally_counted mark tally) (shown ∷ plays)
count_more mark tally shown plays is counts =
    let more = one_more mark shown.mark tally is in
    record {
      exact = more.0 ∙ ap (λ (n : ℕ). n + one_exact shown.mark) counts.exact;
      patched = more.1 ∙ ap (λ (n : ℕ). n + one_patched shown.mark) counts.patched;
      held = more.2 ∙ ap (λ (n : ℕ). n + one_held shown.mark) counts.held;
    }
