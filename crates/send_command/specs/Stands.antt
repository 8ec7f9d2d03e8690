-- What the machine keeps of a state, and what it is ready for.
use Rattle.std.specs.Prelude.{◌≡◌, ℕ, ◌+◌, ◌-◌, ◌<◌, ◌≤◌, Bool, true, List, length, IfSome}
use Rattle.h263_outside.specs.Desk.{Outside}
use Rattle.h263_outside.specs.declared.desk.Role.{Role}
use Rattle.h263_outside.specs.declared.desk.Role.TheVariants.{Video, Events, Wire, Report}
use Rattle.h263_types.specs.declared.params.Params.{Params}
use Rattle.h263_types.specs.Params.{IsParams}
use Rattle.h263_types.specs.Sizes.{size_of_picture}
use Rattle.y4m.specs.Video.{most_frames}
use Rattle.event_logs.specs.declared.entry.Side.TheVariants as sides
use Rattle.call_encoding.specs.Frames.{Frame}
use Rattle.sender_end.specs.declared.answers.Coded.{Coded}
use Rattle.sender_end.specs.State.{SenderState}
use Rattle.sender_end.specs.Stands.{Holds, SentRun, packets_after}
use Rattle.desk_program.specs.Run.{left_after}
use Rattle.desk_program.specs.Ends.{Tells}
use Rattle.desk_program.specs.Texts.{of}
use Rattle.send_command.specs.declared.machine.Send.{Send}
use Rattle.rate_control.specs.declared.send_pace.SendPace.{SendPace}
use Rattle.send_command.specs.declared.sending.Sending.{Sending}
use Rattle.fitted_sender.specs.Stands.{IsAim}
use Rattle.fitted_sender.specs.declared.aim.Aim.{Aim}
use Rattle.fitted_sender.specs.Aiming.{Sent, after_sent, next_sent}
use Rattle.send_command.specs.Tally.{IsOf}
use Rattle.send_command.specs.Send.{SendState}

-- it may begin: the parameters and the targets are in their ranges, and the roles attached
pub record SendOpens (setup : Sending) (attached : Role → Bool) : Type 0 where
  pub params : IsParams setup.params
  pub some : IfSome setup.target (λ n. 1 ≤ n)
  pub few : IfSome setup.target (λ n. n ≤ 999999)
  pub fit : IfSome setup.fit (λ n. n ≤ 999999)
  pub video : attached Video ≡ true
  pub events : attached Events ≡ true
  pub wire : attached Wire ≡ true
  pub report : attached Report ≡ true

-- the state that the machine keeps in mind, but for the run of its sender
abbrev pub send_state_of : Send → SentRun → SendState
send_state_of m run =
    record {
      params = m.sender.params;
      sent = record { run = run; aim = m.aim };
      tally = m.tally;
      at = m.log.at;
      read = m.log.entries;
      video_at = m.video.at;
      more = m.video.more;
    }

-- the machine keeps this state in mind: its sender holds the run
pub record SendStands (m : Send) (s : SendState) (inputs : Role → List ℕ) : Type 0 where
  pub is : s ≡ send_state_of m s.sent.run
  pub sender : Holds m.sender s.sent.run

-- the roles are attached, the parts fit each other, and as many frames may still come as pictures
-- may still be sent
pub record IsFit (m : Send) (attached : Role → Bool) : Type 0 where
  pub video : attached Video ≡ true
  pub events : attached Events ≡ true
  pub wire : attached Wire ≡ true
  pub report : attached Report ≡ true
  pub format : m.sender.params.format ≡ m.video.format
  pub aim : IsAim m.aim
  pub frame : length m.frame.items ≡ size_of_picture m.video.format
  pub bytes : length m.bytes.items ≡ 65535
  pub side : m.log.side ≡ sides.Send
  pub count : m.video.more + m.sender.sent ≡ most_frames

-- the machine may take a turn
pub record SendReady (m : Send) (attached : Role → Bool) : Type 0 where
  pub fit : IsFit m attached
  pub tally : IsOf m.log.entries m.tally

-- the machine may do what the entry asks that was read last
pub record IsAtEntry (m : Send) (attached : Role → Bool) : Type 0 where
  pub fit : IsFit m attached
  pub some : 0 < m.log.entries
  pub few : m.log.entries ≤ 16777216
  pub tally : IsOf (m.log.entries - 1) m.tally

-- this was the state before the entry of this many bytes that was read last
pub record SenderStoodBefore (m : Send) (s : SendState) (size : ℕ) : Type 0 where
  pub is : record s { at = s.at + size; read = s.read + 1 } ≡ send_state_of m s.sent.run
  pub sender : Holds m.sender s.sent.run

-- since then this many bytes of the log were taken, and nothing was written
pub record HasTakenEntry (size : ℕ) (inputs : Role → List ℕ) (old new : Outside) : Type 0 where
  pub left : Tells new (left_after inputs (of Events size))
  pub written : new.written ≡ old.written
