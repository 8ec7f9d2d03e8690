-- The ranges of a call's parameters.
use Rattle.std.specs.Prelude.{ℕ, ◌+◌, ◌≤◌, List, [], ◌∷◌, Bool, true, false, ◌&&◌, nat_le, Result, Ok, Err}
use Rattle.h263_types.specs.declared.params.Params.{Params}
use Rattle.h263_types.specs.declared.params.ParamFault.{ParamFault}
use Rattle.h263_types.specs.declared.params.ParamFault.TheVariants.{Quant, Keep, Radius, Limit, Slots, Lead, Messages}
use Rattle.h263_types.specs.declared.format.Format.{Format}
use Rattle.h263_types.specs.declared.clock.Clock.TheVariants.{Standard}

-- each parameter is in its range
pub record IsParams (p : Params) : Type 0 where
  pub quant_low : 1 ≤ p.quant
  pub quant_high : p.quant ≤ 31
  pub keep_low : 1 ≤ p.keep
  pub keep_high : p.keep ≤ 64
  pub radius : p.radius ≤ 15
  pub limit_low : 1200 ≤ p.limit
  pub limit_high : p.limit ≤ 9000
  pub slots_low : 2 ≤ p.slots
  pub slots_high : p.slots ≤ 64
  pub lead : p.lead + 2 ≤ p.slots
  pub messages_low : 1 ≤ p.messages
  pub messages_high : p.messages ≤ 2

-- what a call has where nothing else is asked for
abbrev pub default_params : Format → Params
default_params format = record {
  format = format;
  quant = 8;
  keep = 64;
  radius = 7;
  limit = 1400;
  slots = 16;
  lead = 3;
  messages = 1;
  clock = Standard;
}

-- from least to most
abbrev pub between : ℕ → ℕ → ℕ → Bool
between least most n = nat_le least n && nat_le n most

-- a parameter's test, and the fault where it fails
abbrev pub Range : Type 0
Range = Bool × ParamFault

-- the parameters' ranges in their order
abbrev pub ranges : Params → List Range
ranges p =
    (between 1 31 p.quant, Quant)
    ∷ (between 1 64 p.keep, Keep)
    ∷ (between 0 15 p.radius, Radius)
    ∷ (between 1200 9000 p.limit, Limit)
    ∷ (between 2 64 p.slots, Slots)
    ∷ (nat_le (p.lead + 2) p.slots, Lead)
    ∷ (between 1 2 p.messages, Messages)
    ∷ []

-- the fault of the first test that fails
abbrev pub range_verdict : List Range → Result Unit ParamFault
range_verdict [] = Ok tt
range_verdict ((true, fault) ∷ tests) = range_verdict tests
range_verdict ((false, fault) ∷ tests) = Err fault
