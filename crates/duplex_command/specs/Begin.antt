-- The start of a call of two parties: both heads are read, and those of the pictures written.
use Rattle.std.specs.Prelude.{◌≡◌, ℕ, ◌≤◌, Bool, true, false, List, length, Result, Ok, Err}
use Rattle.h263_outside.specs.Desk.{Outside}
use Rattle.h263_outside.specs.declared.desk.Role.{Role}
use Rattle.h263_outside.specs.declared.desk.Role.TheVariants.{Video, Pictures, Video2, Pictures2}
use Rattle.h263_types.specs.declared.format.Format.{Format}
use Rattle.h263_types.specs.declared.params.Params.{Params}
use Rattle.h263_types.specs.Params.{IsParams}
use Rattle.h263_types.specs.Sizes.{size_of_picture}
use Rattle.y4m.specs.declared.fault.Y4mFault.{Y4mFault}
use Rattle.y4m.specs.Head.{head_of, head_size}
use Rattle.y4m.specs.Text.{head_text}
use Rattle.call_report.specs.declared.status.Status.TheVariants.{VideoRefused, Video2Refused}
use Rattle.desk_program.specs.Run.{Run, Step, left_after, run_from, video_refusal}
use Rattle.desk_program.specs.Run.Step.{Goes, Ends}
use Rattle.desk_program.specs.Ends.{Tells}
use Rattle.desk_program.specs.Texts.{and_of, no_bytes, of, on, then_also}
use Rattle.duplex_call.specs.declared.line.Party.{Party}
use Rattle.duplex_call.specs.declared.line.Party.TheVariants.{A, B}
use Rattle.duplex_ends.specs.Pair.{IsNewParty}
use Rattle.duplex_command.specs.declared.heads.Heads.{Heads}
use Rattle.duplex_command.specs.declared.talk.Talk.{Talk}
use Rattle.duplex_command.specs.Duplex.{DuplexState, duplex_step, duplex_at_start}
use Rattle.duplex_command.specs.Standing.{DuplexOpens}
use Rattle.call_command.specs.Call.{most_lines}

-- the parameters of each party, with the format of its video
abbrev pub in_formats : Params → Format → Format → Party → Params
in_formats p f g A = record p { format = f }
in_formats p f g B = record p { format = g }

-- both heads in these formats, as the pictures begin with them
abbrev pub both_heads : Format → Format → Role → List ℕ
both_heads f g = then_also (on Pictures (head_text f)) (on Pictures2 (head_text g))

-- the bytes of both heads
abbrev pub heads_taken : (Role → List ℕ) → Role → ℕ
heads_taken inputs =
    and_of (of Video (head_size (inputs Video))) (of Video2 (head_size (inputs Video2)))

-- Both heads are one turn, so no picture's head is written unless both videos have one. The first
-- video's fault is told before the second's, of which nothing is read then.
abbrev pub heads_step : Params → (Role → List ℕ) → Result Format Y4mFault → Result Format Y4mFault
    → Step DuplexState
heads_step p inputs (Err fault) second = Ends (video_refusal Video no_bytes (VideoRefused fault))
heads_step p inputs (Ok f) (Err fault) =
    Ends (video_refusal Video2 (of Video (head_size (inputs Video))) (Video2Refused fault))
heads_step p inputs (Ok f) (Ok g) =
    Goes (duplex_at_start (in_formats p f g) (head_size (inputs Video)) (head_size (inputs Video2)))
    (record { taken = heads_taken inputs; whole = true; texts = both_heads f g })

abbrev pub duplex_begin : Params → (Role → List ℕ) → Step DuplexState
duplex_begin p inputs = heads_step p inputs (head_of (inputs Video)) (head_of (inputs Video2))

-- all that a call of two parties makes of its inputs
abbrev pub duplex_run : Params → (Role → List ℕ) → Run
duplex_run p inputs = run_from (duplex_begin p inputs) duplex_step most_lines inputs

-- ---- what is ready then

pub record DuplexMayBegin (p : Params) (attached : Role → Bool) : Type 0 where
  pub params : IsParams p
  pub opens : DuplexOpens attached

-- both heads were read, and nothing else
pub record HaveHeads (heads : Heads) (inputs : Role → List ℕ) (new : Outside) : Type 0 where
  pub head_a : head_of (inputs Video) ≡ Ok heads.a.format
  pub head_b : head_of (inputs Video2) ≡ Ok heads.b.format
  pub at_a : heads.a.at ≡ head_size (inputs Video)
  pub at_b : heads.b.at ≡ head_size (inputs Video2)
  pub left : Tells new (left_after inputs (heads_taken inputs))

-- before the first line, after these heads
pub record IsNewTalk (p : Params) (heads : Heads) (m : Talk) : Type 0 where
  pub video_a : m.a.video ≡ heads.a
  pub video_b : m.b.video ≡ heads.b
  pub new_a : IsNewParty (in_formats p heads.a.format heads.b.format A) m.a.ends
  pub new_b : IsNewParty (in_formats p heads.a.format heads.b.format B) m.b.ends
  pub lines : m.trace.lines ≡ 0
  pub ended : m.trace.ended ≡ false
  pub room_a : size_of_picture heads.a.format ≤ length m.frame.items
  pub room_b : size_of_picture heads.b.format ≤ length m.frame.items
