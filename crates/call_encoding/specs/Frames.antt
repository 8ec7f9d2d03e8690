-- Frames that are coded, and the styles and headers of their pictures.
use Rattle.std.specs.Prelude.{ℕ, ◌%◌, ◌^◌, Bool, true, false, ◌&&◌, nat_lt, List, take, filter, Option, Some, None}
use Rattle.h263_types.specs.declared.Kind.{Kind}
use Rattle.h263_types.specs.declared.Kind.TheVariants.{I, P}
use Rattle.h263_types.specs.declared.clock.Clock.{Clock}
use Rattle.h263_types.specs.declared.format.Format.{Format}
use Rattle.h263_types.specs.declared.params.Params.{Params}
use Rattle.h263_types.specs.Clocks.{half_of, period_of}
use Rattle.h263_planes.specs.Picture.{Picture}
use Rattle.back_messages.specs.declared.message.Message.{Message}
use Rattle.back_messages.specs.declared.message.Message.TheVariants.{Ack, Nack}
use Rattle.picture_header.specs.declared.header.Header.{Header}
use Rattle.picture_header.specs.Text.{in_places}
use Rattle.call_decoding.specs.Styles.{Style, header_from}

-- what is captured, with the messages that the header of its picture carries
pub record Frame : Type 0 where
  pub picture : Picture
  pub messages : List Message

-- The frames of a call have its format, and their headers carry at most four messages of its clock,
-- which a sender asks for. So that each frame has a coding, any other is taken as one of the format
-- (`in_format`), and messages that a header can't carry are left out (`carried`).
abbrev pub in_format : Format → Picture → Picture
in_format f picture = record picture { format = f }

abbrev pub are_marks : Option ℕ → Bool
are_marks None = true
are_marks (Some marks) = nat_lt marks (2 ^ 14)

abbrev pub is_of_clock : Clock → Message → Bool
is_of_clock clock (Ack tr marks) = nat_lt tr (period_of clock) && are_marks marks
is_of_clock clock (Nack tr rtr marks) =
    nat_lt tr (period_of clock) && (nat_lt rtr (period_of clock) && are_marks marks)

unfoldable pub carried : Clock → List Message → List Message
carried clock messages = take 4 (filter (is_of_clock clock) messages)

abbrev pub kind_of : Bool → Kind
kind_of true = P
kind_of false = I

-- The style of a picture with these messages in their places: its rounding bit (RTYPE, H.263
-- 5.1.4.3) alternates along its chain of references, and it asks for messages of both kinds.
abbrev pub style_in : Format → List (Option Message) → Bool → ℕ → ℕ → Style
style_in f back predicted depth quant =
    record {
      format = f;
      kind = kind_of predicted;
      rounding = depth % 2;
      channel = 3;
      quant = quant;
      back = back;
    }

abbrev pub style_with : Params → List Message → Bool → ℕ → ℕ → Style
style_with p messages predicted depth quant =
    style_in p.format (in_places (carried p.clock messages)) predicted depth quant

-- some reference where the picture is predicted
abbrev pub some_reference : Kind → Option ℕ
some_reference I = None
some_reference P = Some 0

-- A header of this style, with any temporal references: choice and cut depend on none.
abbrev pub styled_header : Clock → Style → Header
styled_header clock style =
    header_from
    (record {
      number = 0;
      reference = some_reference style.kind;
      half = half_of clock;
      style = style;
    })
