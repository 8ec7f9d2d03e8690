-- Picture headers as a call sees them: the temporal references, half the period of the clock, and
-- the style, which is all the rest.
use Rattle.std.specs.Prelude.{ℕ, ◌==◌, List, Option, if◌then◌else◌}
use Rattle.h263_types.specs.declared.format.Format.{Format}
use Rattle.h263_types.specs.declared.Kind.{Kind}
use Rattle.h263_types.specs.declared.clock.Clock.{Clock}
use Rattle.h263_types.specs.declared.clock.Clock.TheVariants as clocks
use Rattle.h263_types.specs.Clocks.{half_of}
use Rattle.back_messages.specs.declared.message.Message.{Message}
use Rattle.picture_header.specs.declared.header.Header.{Header}
use Rattle.call_model.specs.Coding as call

-- all of a picture header but its temporal references and its clock
pub record Style : Type 0 where
  pub format : Format
  pub kind : Kind
  pub rounding : ℕ
  pub channel : ℕ
  pub quant : ℕ
  pub back : List (Option Message)

abbrev pub style_of : Header → Style
style_of h =
    record {
      format = h.format;
      kind = h.kind;
      rounding = h.rounding;
      channel = h.channel;
      quant = h.quant;
      back = h.back;
    }

-- a header as a call sees it
abbrev pub call_header_of : Header → call.Header Style
call_header_of h =
    record { number = h.tr; reference = h.trp; half = half_of h.clock; style = style_of h }

-- the clock with this half period
abbrev pub clock_with : ℕ → Clock
clock_with half = if half == 128 then clocks.Standard else clocks.Custom

-- the header that a call sees so
abbrev pub header_from : call.Header Style → Header
header_from h =
    record {
      tr = h.number;
      format = h.style.format;
      kind = h.style.kind;
      rounding = h.style.rounding;
      channel = h.style.channel;
      trp = h.reference;
      quant = h.style.quant;
      back = h.style.back;
      clock = clock_with h.half;
    }
