-- Headers with the numbers of a call.
use Rattle.std.proofs.Common.{◌≡◌, ℕ, ◌%◌, ◌<◌, refl, subst, arith, Option, Some, None, is_some}
use Rattle.std.specs.Option.{option_map}
use Rattle.h263_types.specs.declared.clock.Clock.{Clock}
use Rattle.h263_types.specs.declared.clock.Clock.TheVariants.{Standard, Custom}
use Rattle.h263_types.specs.declared.params.Params.{Params}
use Rattle.h263_types.specs.Clocks.{period_of}
use Rattle.call_model.specs.Lawful.{FitsHeader}
use Rattle.call_decoding.specs.Rules.{rules_of}
use Rattle.call_decoding.specs.Styles.{Style}
use Rattle.sender_end.specs.Headers.{numbered}

in_period : (clock : Clock) (n : ℕ) → n % period_of clock < period_of clock
in_period Standard n = omega arith
in_period Custom n = omega arith

reference_below : (clock : Clock) (reference : Option ℕ) (m : ℕ) → option_map (λ k. k % period_of clock) reference
    ≡ Some m → m < period_of clock
reference_below clock None m e = cc
reference_below clock (Some k) m e =
    let same : k % period_of clock ≡ m = cc in
    subst (λ (i : ℕ). i < period_of clock) same (in_period clock k)

still_some : (f : ℕ → ℕ) (o : Option ℕ) → is_some (option_map f o) ≡ is_some o
still_some f None = refl
still_some f (Some k) = refl

-- a picture's header fits the call's rules
pub numbered_fits : (p : Params) (number : ℕ) (reference : Option ℕ) (style : Style)
    → FitsHeader (rules_of p) (is_some reference) (numbered p.clock number reference style)
numbered_fits p number reference style = record {
  number = in_period p.clock number;
  reference = reference_below p.clock reference;
  half = refl;
  kind = still_some (λ k. k % period_of p.clock) reference;
}
