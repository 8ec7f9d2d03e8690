-- What a proof opens to compute the verdict on a small log.
use Rattle.std.specs.Prelude.{⊤}
use Rattle.call_model.specs.Numbers.{first_from}
use Rattle.call_model.specs.Coding.{has_mb, same_header}
use Rattle.call_model.specs.Sending.{nearest_below, made_known, called_complete, nearest}
use Rattle.call_model.specs.Receiving.{heard, answer, header_fits, has_reference, has_taken, is_complete, taken_after, piece_number, played_message, played_picture}

-- the definitions of a call that it is computed by
unfoldable pub small_logs : ⊤
unfolding has_mb same_header nearest_below first_from made_known called_complete nearest heard answer
    header_fits has_reference has_taken is_complete taken_after piece_number played_message
    played_picture
small_logs = tt
