-- The numbers of a call.
use Rattle.std.proofs.Common.{◌≡◌, ◌<◌, ◌≤◌, refl, ap, arith, lit<}
use Rattle.h263_types.specs.declared.format.Format.{Format}
use Rattle.h263_types.specs.declared.format.Format.TheVariants.{SubQcif, Qcif, Cif}
use Rattle.h263_types.specs.declared.clock.Clock.{Clock}
use Rattle.h263_types.specs.declared.clock.Clock.TheVariants.{Standard, Custom}
use Rattle.h263_types.specs.declared.params.Params.{Params}
use Rattle.h263_types.specs.Params.{IsParams}
use Rattle.h263_types.specs.Sizes.{mbs_of}
use Rattle.h263_types.specs.Clocks.{half_of}
use Rattle.picture_header.specs.declared.header.Header.{Header}
use Rattle.call_model.specs.Lawful.{IsRules}
use Rattle.call_decoding.specs.Rules.{rules_of}
use Rattle.call_decoding.specs.Styles.{clock_with, header_from, call_header_of}

some_mbs : (f : Format) → 0 < mbs_of f
some_mbs SubQcif = lit< tt
some_mbs Qcif = lit< tt
some_mbs Cif = lit< tt

half_long : (c : Clock) → 64 ≤ half_of c
half_long Standard = omega arith
half_long Custom = omega arith

pub ruled : (p : Params) → IsParams p → IsRules (rules_of p)
ruled p is = record {
  some_mbs = some_mbs p.format;
  lead_small = is.lead;
  slots_small = omega (arith, is.slots_high, half_long p.clock);
}

clock_is : (c : Clock) → clock_with (half_of c) ≡ c
clock_is Standard = refl
clock_is Custom = refl

pub whole : (h : Header) → header_from (call_header_of h) ≡ h
whole h = ap (λ (c : Clock). record h { clock = c }) (clock_is h.clock)
