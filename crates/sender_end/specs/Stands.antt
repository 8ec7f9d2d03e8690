-- The entries that a sender stands for.
use Rattle.std.specs.Prelude.{◌≡◌, ℕ, ◌-◌, ◌%◌, ◌<◌, List, length, Option}
use Rattle.h263_types.specs.declared.blocks.Mb.{Mb}
use Rattle.h263_types.specs.declared.params.Params.{Params}
use Rattle.h263_planes.specs.Picture.{Picture}
use Rattle.back_messages.specs.declared.message.MessageFault.{MessageFault}
use Rattle.picture_store.specs.Pictures.{picture_in}
use Rattle.reference_selector.specs.Stands.{SelectorStands}
use Rattle.call_model.specs.CodedPictures.{Coded as CodedPicture, capture, depth_at}
use Rattle.call_model.specs.Sending.{SenderEntry, SenderRun, Reply, RefusedMessage, Old, Noted, last_sizes, next_coded, sender_run}
use Rattle.call_model.specs.Sending as call
use Rattle.call_model.specs.SenderStanding.{IsAfterCapture}
use Rattle.call_model.specs.Stands.{Sender, SenderStands}
use Rattle.call_model.specs.Steering.{SteeredRun, SenderHolds, made_by_kept, next_steered, steered_capture, steered_feedback, run_with_picture}
use Rattle.call_decoding.specs.Rules.{rules_of}
use Rattle.call_decoding.specs.Samples.{pictures}
use Rattle.call_decoding.specs.Styles.{Style}
use Rattle.call_encoding.specs.Frames.{Frame}
use Rattle.call_encoding.specs.Encoding.{encoding}
use Rattle.sender_end.specs.declared.answers.Coded.{Coded}
use Rattle.sender_end.specs.declared.answers.Feedback.{Feedback}
use Rattle.sender_end.specs.declared.answers.Feedback.TheVariants as answers
use Rattle.sender_end.specs.Selecting.{within_chain}
use Rattle.sender_end.specs.State.{SenderState}

-- the state, seen as `call_model` sees a sender
pub record IsSeen {P : Type 0} (state : SenderState P) (s : Sender Picture) : Type 0 where
  pub sent : s.sent ≡ state.sent
  pub sequence : s.sequence ≡ state.sequence
  pub packets : s.packets ≡ state.packets
  pub sizes : s.sizes ≡ state.sizes
  pub picture : (rest : ℕ) → rest < state.params.slots
      → s.picture rest ≡ picture_in state.store rest
  pub selects : SelectorStands (rules_of state.params) state.selector state.sent
      (λ m. s.depth (m % state.params.slots)) (λ m. s.known (m % state.params.slots))

-- The state stands for these entries, the newest first, with this pace.
pub record PacedStands {P : Type 0} (pace : List ℕ → ℕ) (state : SenderState P)
    (entries : List (SenderEntry Frame)) : Type 0 where
  pub s : Sender Picture
  pub seen : IsSeen state s
  -- it never forgot
  pub since : state.since ≡ 0
  pub stands : SenderStands (pictures state.params.format) (encoding state.params)
      (rules_of state.params) pace s entries

-- what was done by these entries
abbrev pub entries_run : Params → (List ℕ → ℕ) → List (SenderEntry Frame) → SenderRun Style Mb Picture
entries_run p pace entries = sender_run (pictures p.format) (encoding p) (rules_of p) pace entries

-- the next picture after these entries
abbrev pub next_after : Params → (List ℕ → ℕ) → Frame → List (SenderEntry Frame)
    → CodedPicture Style Mb Picture
next_after p pace frame entries =
    let run = entries_run p pace entries in
    next_coded (pictures p.format) (encoding p) (rules_of p) pace frame run.coded run.known

-- the packets of the last picture
abbrev pub last_packets : Params → (List ℕ → ℕ) → List (SenderEntry Frame) → List (List ℕ)
last_packets p pace entries =
    let coded = (entries_run p pace entries).coded in
    call.packets_at (encoding p) (rules_of p) coded (length coded - 1)

-- ---- a sender that may be steered

-- what it has done
abbrev pub SentRun : Type 0
SentRun = SteeredRun Style Mb Picture

-- The state holds this run, whatever its pace was at each picture.
pub record Holds {P : Type 0} (state : SenderState P) (run : SentRun) : Type 0 where
  pub s : Sender Picture
  pub seen : IsSeen state s
  pub since : state.since ≡ run.since
  pub holds : SenderHolds (pictures state.params.format) (encoding state.params)
      (rules_of state.params) s run.run

-- the next picture of a run, of this frame and with this pace
abbrev pub next_in : Params → (List ℕ → ℕ) → Frame → SentRun → CodedPicture Style Mb Picture
next_in p pace frame run =
    next_steered (pictures p.format) (encoding p) (rules_of p) pace frame run

-- the run with that picture
abbrev pub after_code : Params → (List ℕ → ℕ) → Frame → SentRun → SentRun
after_code p pace frame run =
    steered_capture (pictures p.format) (encoding p) (rules_of p) pace frame run

-- the next picture of a run, with a reference that was given
abbrev pub next_with : Params → (List ℕ → ℕ) → Option ℕ → Frame → SentRun → CodedPicture Style Mb Picture
next_with p pace reference frame run =
    let coded = run.run.coded in
    capture (pictures p.format) (encoding p) (pace (last_sizes (encoding p) (rules_of p) coded)) frame coded
    (within_chain (rules_of p) (depth_at coded) reference)

-- the run with that picture
abbrev pub after_code_from : Params → (List ℕ → ℕ) → Option ℕ → Frame → SentRun → SentRun
after_code_from p pace reference frame run =
    record run { run = run_with_picture (next_with p pace reference frame run) run.run }

-- the run with what a message makes known
abbrev pub after_message : Params → List ℕ → SentRun → SentRun
after_message p bytes run =
    steered_feedback (pictures p.format) (encoding p) (rules_of p) bytes run

-- the packets of its last picture
abbrev pub packets_after : Params → SentRun → List (List ℕ)
packets_after p run =
    call.packets_at (encoding p) (rules_of p) run.run.coded (length run.run.coded - 1)

-- ---- answers

-- the answer says which picture this is, its reference, and how many packets it has
pub record Describes (number : ℕ) (x : CodedPicture Style Mb Picture) (answer : Coded) : Type 0 where
  pub number_is : answer.number ≡ number
  pub reference : answer.reference ≡ x.reference
  pub packets : answer.packets ≡ length x.slices

-- the frame was coded with this quantiser and this reference, by what the sender kept
pub record IsCodedWith {P : Type 0} (p : Params) (quant : ℕ) (frame : Frame) (reference : Option ℕ)
    (s : Sender Picture) (new : SenderState P) (answer : Coded) : Type 0 where
  pub t : Sender Picture
  pub seen : IsSeen new t
  pub after : IsAfterCapture (pictures p.format) (encoding p) (rules_of p) s t
      (made_by_kept (pictures p.format) (encoding p) (rules_of p) quant frame s reference)
  pub tells : Describes s.sent
      (made_by_kept (pictures p.format) (encoding p) (rules_of p) quant frame s reference) answer

-- the answer to feedback, as `call_model` has it
abbrev pub reply_of : Feedback → Reply MessageFault
reply_of answers.Noted = Noted
reply_of answers.Old = Old
reply_of (answers.Refused fault) = RefusedMessage fault
