-- The header of a picture, with the temporal references of the picture and of its reference.
use Rattle.std.specs.Prelude.{ℕ, ◌%◌, Option}
use Rattle.std.specs.Option.{option_map}
use Rattle.h263_types.specs.declared.clock.Clock.{Clock}
use Rattle.h263_types.specs.Clocks.{half_of, period_of}
use Rattle.call_model.specs.Coding.{Header}
use Rattle.call_decoding.specs.Styles.{Style}

abbrev pub numbered : Clock → ℕ → Option ℕ → Style → Header Style
numbered clock number reference style =
    record {
      number = number % period_of clock;
      reference = option_map (λ m. m % period_of clock) reference;
      half = half_of clock;
      style = style;
    }
