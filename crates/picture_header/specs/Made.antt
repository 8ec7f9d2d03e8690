-- Headers of pictures without messages.
use Rattle.std.specs.Prelude.{ℕ, [], ◌∷◌, Some, None}
use Rattle.h263_types.specs.declared.format.Format.{Format}
use Rattle.h263_types.specs.declared.Kind.TheVariants as kinds
use Rattle.h263_types.specs.declared.clock.Clock.{Clock}
use Rattle.h263_types.specs.declared.clock.Clock.TheVariants.{Standard}
use Rattle.picture_header.specs.declared.header.Header.{Header}

-- an I picture, whose receiver is asked for both kinds of messages
abbrev pub intra_header : Format → Clock → ℕ → ℕ → Header
intra_header format clock tr quant =
    record {
      tr = tr;
      format = format;
      kind = kinds.I;
      rounding = 0;
      channel = 3;
      trp = None;
      quant = quant;
      back = None ∷ None ∷ None ∷ None ∷ [];
      clock = clock;
    }

-- the same of a P picture
abbrev pub predicted_header : Header → ℕ → ℕ → Header
predicted_header h rounding trp = record h { kind = kinds.P; rounding = rounding; trp = Some trp }

-- what stands in the place of a header before there is one
abbrev pub blank_header : Format → Header
blank_header format = record {
  tr = 0;
  format = format;
  kind = kinds.I;
  rounding = 0;
  channel = 0;
  trp = None;
  quant = 1;
  back = None ∷ None ∷ None ∷ None ∷ [];
  clock = Standard;
}
