use Rattle.std.proofs.Common.{◌≡◌, ◌<◌, ◌^◌, drop}
use Rattle.std.specs.Str.{all_ascii_digits}
use Rattle.std.specs.Str.Parse.{digits_value, digits_value_after}
use Rattle.loss_trace.proofs.event.digits.Given as goal

abbrev pub invariant-loop-digit : goal.invariant-loop-digit
invariant-loop-digit l = record {
  value : digits_value_after 10 l.value (drop l.digit-index l.bytes) ≡ digits_value 10 l.bytes;
  decimal : all_ascii_digits (drop l.digit-index l.bytes) ≡ all_ascii_digits l.bytes;
  small : l.value < 10 ^ l.digit-index;
}
