use Rattle.call_command.proofs.FramesLeft.{any_packet, any_play, send_distance, send_far, send_out}
use Rattle.call_command.proofs.laws.frames_left.Goals as goal

pub returns : goal.returns
returns c = record { packet = any_packet; play = any_play; far = send_far; distance = send_distance; out = send_out }
