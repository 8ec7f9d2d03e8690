-- What a proof opens to compute a call over small pictures.
use Rattle.std.specs.Prelude.{⊤}
use Rattle.call_model.specs.Numbers.{first_from}
use Rattle.call_model.specs.Coding.{has_mb, same_header}
use Rattle.call_model.specs.SmallCoding.{small}
use Rattle.call_model.specs.CodedPictures.{reference_for, capture}
use Rattle.call_model.specs.IdealCall.{is_open, slices_at, is_full, mb_arrived, newest_full, shown_at, delivery_counts}
use Rattle.call_model.specs.Sending.{nearest_below, nearest, called_complete, made_known, header_of, packets_at}
use Rattle.call_model.specs.Receiving.{has_taken, has_any, is_complete, offer, piece_number, header_fits, has_reference, answer, heard, taken_after, played_picture, played_mark, played_message}
use Rattle.call_model.specs.Store.{store_slot}
use Rattle.call_model.specs.Refusals.{first_refusal}

-- the definitions that a call, its events and both of its ends are computed by
unfoldable pub small_calls : ⊤
unfolding first_from has_mb same_header small reference_for capture is_open slices_at is_full mb_arrived
    newest_full shown_at delivery_counts nearest_below nearest called_complete made_known header_of
    packets_at has_taken has_any is_complete offer piece_number header_fits has_reference answer
    heard taken_after played_picture played_mark played_message store_slot first_refusal
small_calls = tt
