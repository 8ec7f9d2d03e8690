-- An aim in its ranges, and a sender after a capture.
use Rattle.std.specs.Prelude.{◌≡◌, ◌≤◌, length, IfSome}
use Rattle.h263_types.specs.declared.params.Params.{Params}
use Rattle.call_encoding.specs.Frames.{Frame}
use Rattle.sender_end.specs.declared.answers.Coded.{Coded}
use Rattle.sender_end.specs.State.{SenderState}
use Rattle.sender_end.specs.Stands.{Describes, Holds, packets_after}
use Rattle.rate_control.specs.declared.send_pace.SendPace.{SendPace}
use Rattle.fitted_sender.specs.declared.aim.Aim.{Aim}
use Rattle.fitted_sender.specs.Aiming.{Sent, after_sent, next_sent}

-- what the quantisers follow is in its range
pub record IsAim (a : Aim) : Type 0 where
  pub low : 1 ≤ a.quant
  pub high : a.quant ≤ 31
  pub some : IfSome a.target (λ n. 1 ≤ n)
  pub few : IfSome a.target (λ n. n ≤ 999999)

-- the sender has captured a frame after all this: it holds the longer run, what its quantisers follow
-- was told, its packets are those of the picture, and the answer tells its number and its reference
pub record IsCaptured (frame : Frame) (p : Params) (sent : Sent)
    (new : SenderState SendPace) (aim : Aim) (answer : Coded) : Type 0 where
  pub holds : Holds new (after_sent p frame sent).run
  pub follows : aim ≡ (after_sent p frame sent).aim
  pub packets : new.packets ≡ packets_after p (after_sent p frame sent).run
  pub describes : Describes (length sent.run.run.coded) (next_sent p frame sent) answer
