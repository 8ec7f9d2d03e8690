use Rattle.call_model.proofs.ReceiverStanding.{heard_by_kept_is, other_packet_stands, slice_stands}
use Rattle.call_model.proofs.ReceiverPlays.{play_by_kept, new_receiver_stands, play_stands, complete_stays}
use Rattle.call_model.proofs.TakenSlices.{one_header, decoded_in_the_end}
use Rattle.call_model.proofs.laws.receiver_stands.Goals as goal

pub returns-clause-answer : goal.returns-clause-answer
returns-clause-answer g c decoding rules lawful ruled = heard_by_kept_is decoding rules lawful ruled

pub returns-clause-play : goal.returns-clause-play
returns-clause-play g c decoding rules lawful ruled = play_by_kept decoding rules lawful ruled

pub returns-clause-new : goal.returns-clause-new
returns-clause-new g c decoding rules lawful ruled = new_receiver_stands decoding rules lawful ruled

pub returns-clause-slice : goal.returns-clause-slice
returns-clause-slice g c decoding rules lawful ruled = slice_stands decoding rules lawful ruled

pub returns-clause-other : goal.returns-clause-other
returns-clause-other g c decoding rules lawful ruled = other_packet_stands decoding rules lawful ruled

pub returns-clause-played : goal.returns-clause-played
returns-clause-played g c decoding rules lawful ruled = play_stands decoding rules lawful ruled

pub returns-clause-complete : goal.returns-clause-complete
returns-clause-complete g c decoding rules lawful ruled = complete_stays decoding rules lawful ruled

pub returns-clause-one_header : goal.returns-clause-one_header
returns-clause-one_header g c decoding rules lawful ruled = one_header decoding rules lawful ruled

pub returns-clause-in_the_end : goal.returns-clause-in_the_end
returns-clause-in_the_end g c decoding rules lawful ruled = decoded_in_the_end decoding rules lawful ruled
