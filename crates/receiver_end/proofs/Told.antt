-- What a play says, by what is kept.
use Rattle.std.proofs.Common.{◌≡◌, Bool, Option, Some, None, refl, ap}
use Rattle.std.specs.Prelude.{if◌then◌else◌, is_some}
use Rattle.std.specs.Option.{option_map}
use Rattle.h263_types.specs.declared.Mark.TheVariants as marks
use Rattle.picture_header.specs.declared.header.Header.{Header}
use Rattle.packet_collector.specs.Collected.{header_in}
use Rattle.call_model.specs.Numbers.{flags_of}
use Rattle.call_model.specs.Coding as call
use Rattle.call_model.specs.Receiving.{nack}
use Rattle.call_model.specs.ReceiverStanding.{mark_by_kept, message_by_kept, offer_by_kept}
use Rattle.call_decoding.specs.Rules.{rules_of}
use Rattle.call_decoding.specs.Styles.{call_header_of}
use Rattle.receiver_end.specs.declared.kept.Kept.{Kept}
use Rattle.receiver_end.specs.Answers.{mark_from}
use Rattle.receiver_end.specs.Decoding.{decoding}
use Rattle.receiver_end.specs.State.{slot_holds, seen}

module _ (r : Kept) (b : Bool) (held : slot_holds r.params r.store r.played ≡ b) where
  abbrev the_mark : Bool → call.Mark
  the_mark b = if b then call.Exact else if is_some
      (option_map call_header_of (header_in r.collector r.played)) then call.Patched else call.Held

  abbrev the_message : Bool → Option call.Message
  the_message b =
      if b then None
      else Some (nack (rules_of r.params) r.played (offer_by_kept (decoding r.params.format) (rules_of r.params)
      (seen r)) (flags_of (call.Rules.flags (rules_of r.params)) (slot_holds r.params r.store) r.played))

  pub mark_is : mark_by_kept (decoding r.params.format) (rules_of r.params) (seen r) ≡ the_mark b
  unfolding mark_by_kept
  mark_is = ap the_mark held

  pub message_is : message_by_kept (decoding r.params.format) (rules_of r.params) (seen r) ≡ the_message b
  unfolding message_by_kept
  message_is = ap the_message held

pub part_is : (o : Option Header) → (if is_some o then marks.Patched else marks.Held)
    ≡ mark_from (if is_some (option_map call_header_of o) then call.Patched else call.Held)
part_is None = refl
part_is (Some h) = refl
