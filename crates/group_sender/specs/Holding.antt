-- The run that a group holds.
use Rattle.std.specs.Prelude.{ℕ, ◌-◌, List, [], length, Option, Some, None, if◌then◌else◌}
use Rattle.h263_types.specs.declared.blocks.Mb.{Mb}
use Rattle.h263_types.specs.declared.pace.Pace.{Ghosts}
use Rattle.h263_types.specs.declared.params.Params.{Params}
use Rattle.h263_planes.specs.Picture.{Picture}
use Rattle.back_messages.specs.declared.message.MessageFault.{MessageFault}
use Rattle.call_model.specs.CodedPictures.{Coded as CodedPicture}
use Rattle.call_model.specs.Sending.{Reply, feedback_answer, packets_at}
use Rattle.call_decoding.specs.Rules.{rules_of}
use Rattle.call_decoding.specs.Samples.{pictures}
use Rattle.call_decoding.specs.Styles.{Style}
use Rattle.call_encoding.specs.Encoding.{encoding}
use Rattle.call_encoding.specs.Frames.{Frame}
use Rattle.call_encoding.specs.Messages.{read_message}
use Rattle.sender_end.specs.Stands.{Holds, SentRun}
use Rattle.group_sender.specs.declared.group.Group.{Group}
use Rattle.group_sender.specs.Parties.{party_at}
use Rattle.group_sender.specs.Running.{GroupRun, after_capture_for_all, after_feedback_of, next_for_all}
use Rattle.group_sender.specs.Standing.{MembersStand}

-- a run of pictures and receivers
abbrev pub Groups : Type 0
Groups = GroupRun Style Mb Picture

-- its pictures alone: what its sender has done, which is told of no message
abbrev pub pictures_alone : Groups → SentRun
pictures_alone run = record { run = record { coded = run.coded; known = [] }; since = 0 }

-- The group holds this run: its sender has coded the pictures, and its places stand for the
-- receivers.
pub record HoldsGroup {P : Type 0} {ghosts : Ghosts P} (group : Group P ghosts) (run : Groups) : Type 0 where
  pub sender : Holds group.sender (pictures_alone run)
  pub members : MembersStand (rules_of group.params) group.members.items (length run.coded) run.parties

-- the next picture, and the run with it
abbrev pub next_of_group : Params → (List ℕ → ℕ) → Frame → Groups → CodedPicture Style Mb Picture
next_of_group p pace frame run =
    next_for_all (pictures p.format) (encoding p) (rules_of p) pace frame run

abbrev pub group_after_code : Params → (List ℕ → ℕ) → Frame → Groups → Groups
group_after_code p pace frame run =
    after_capture_for_all (pictures p.format) (encoding p) (rules_of p) pace frame run

-- the run with what the receiver at place k says
abbrev pub group_after_saying : Params → ℕ → List ℕ → Groups → Groups
group_after_saying p k bytes run =
    after_feedback_of (pictures p.format) (encoding p) (rules_of p) k bytes run

-- the answer to it, where that receiver is there
abbrev pub answer_to : Params → ℕ → List ℕ → Groups → Option (Reply MessageFault)
answer_to p k bytes run =
    if (party_at run.parties k).present
    then Some (feedback_answer (rules_of p) (length run.coded) (read_message p.clock bytes)) else None

-- the packets of the last picture
abbrev pub group_packets : Params → Groups → List (List ℕ)
group_packets p run = packets_at (encoding p) (rules_of p) run.coded (length run.coded - 1)
