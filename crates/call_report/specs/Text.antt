-- The lines of a report.
use Rattle.std.specs.Prelude.{ℕ, List, [], ◌∷◌, ◌++◌, Option, Some, None, codes, decimal, fold, length, ◌+◌, ◌≤◌, ◌⊎◌}
use Rattle.h263_types.specs.declared.Mark.{Mark}
use Rattle.h263_types.specs.declared.Mark.TheVariants.{Exact, Patched, Held}
use Rattle.h263_outside.specs.declared.desk.Role.{Role}
use Rattle.h263_outside.specs.declared.desk.Role.TheVariants.{Video, Events, Pictures, Wire, Report, Video2, Pictures2}
use Rattle.y4m.specs.declared.fault.Y4mFault.{Y4mFault}
use Rattle.y4m.specs.declared.fault.Y4mFault.TheVariants as video
use Rattle.loss_trace.specs.declared.fault.TraceFault.{TraceFault}
use Rattle.loss_trace.specs.declared.fault.TraceFault.TheVariants as trace
use Rattle.event_logs.specs.declared.fault.LogFault.{LogFault}
use Rattle.event_logs.specs.declared.fault.LogFault.TheVariants as log
use Rattle.call_report.specs.declared.status.Status.{Status}
use Rattle.call_report.specs.declared.status.Status.TheVariants.{Ok as Fine, OutOfMemory, Usage, ReadFault, WriteFault, VideoRefused, TraceRefused, LogRefused, OpenFault, Video2Refused}
use Rattle.h263_types.specs.Texts.{Text, newline}

-- ---- pictures

abbrev pub mark_word : Mark → Text
mark_word Exact = codes " exact"
mark_word Patched = codes " patched"
mark_word Held = codes " held"

-- the party whose picture it is, where there are two
abbrev pub party_part : Option ℕ → Text
party_part None = []
party_part (Some letter) = letter ∷ 32 ∷ []

abbrev pub mark_part : Option Mark → Text
mark_part None = []
mark_part (Some mark) = mark_word mark

-- nothing where references aren't told, and else the reference or that there is none
abbrev pub reference_part : Option (Option ℕ) → Text
reference_part None = []
reference_part (Some None) = codes " intra"
reference_part (Some (Some number)) = codes " from " ++ decimal number

-- the line of a picture
abbrev pub picture_text : ℕ → Option Mark → Option (Option ℕ) → Option ℕ → Text
picture_text number mark reference party =
    party_part party ++ decimal number ++ mark_part mark ++ reference_part reference ++ newline

-- ---- counts

-- a space, where something stands before
abbrev pub gap : Text → Text
gap [] = []
gap (_ ∷ _) = 32 ∷ []

-- the text with one more word and its number
abbrev pub with_pair : Text → Text → ℕ → Text
with_pair text word number = text ++ gap text ++ word ++ (32 ∷ decimal number)

-- the text with one more word and its number has at most 256 bytes; whatever the number, a gap, a space and 20 digits
-- are enough
abbrev pub HasRoomForWord : Text → Text → ℕ → Type 0
HasRoomForWord text word number = (length text + length word + 22 ≤ 256) ⊎ (length (with_pair text word number) ≤ 256)

-- the line of these words and numbers
abbrev pub counts : List (Text × ℕ) → Text
counts pairs = fold (λ text p. with_pair text p.0 p.1) [] pairs ++ newline

-- ---- refusals

-- a fault at a place
abbrev pub fault_placed : Text → Text → Text → ℕ → Text
fault_placed head fault place number = head ++ fault ++ place ++ decimal number ++ newline

abbrev pub video_text : Text → Y4mFault → Text
video_text head (video.NotY4m at) = fault_placed head (codes "not y4m") (codes " at byte ") at
video_text head (video.Size at) = fault_placed head (codes "size") (codes " at byte ") at
video_text head (video.Interlaced at) = fault_placed head (codes "interlaced") (codes " at byte ") at
video_text head (video.Colour at) = fault_placed head (codes "colour") (codes " at byte ") at
video_text head (video.ShortFrame at) = fault_placed head (codes "short frame") (codes " at byte ") at
video_text head (video.TooMany at) = fault_placed head (codes "too many frames") (codes " at byte ") at

abbrev pub far_text : ℕ → ℕ → ℕ → Text
far_text line given other = codes "trace refused: far at line "
    ++ decimal line ++ codes ": " ++ decimal given ++ (32 ∷ decimal other) ++ newline

abbrev pub trace_text : TraceFault → Text
trace_text (trace.BadLine line) = fault_placed (codes "trace refused: ") (codes "bad line") (codes " at line ") line
trace_text (trace.TooMany line) = fault_placed (codes "trace refused: ") (codes "too many lines")
    (codes " at line ") line
trace_text (trace.NoFrame line) = fault_placed (codes "trace refused: ") (codes "no frame") (codes " at line ") line
trace_text (trace.NotSent line) = fault_placed (codes "trace refused: ") (codes "not sent") (codes " at line ") line
trace_text (trace.NotSaid line) = fault_placed (codes "trace refused: ") (codes "not said") (codes " at line ") line
trace_text (trace.PlayBeforeSend line) =
    fault_placed (codes "trace refused: ") (codes "play before send") (codes " at line ") line
trace_text (trace.Far line given other) = far_text line given other

abbrev pub log_text : LogFault → Text
log_text (log.BadRecord at) = fault_placed (codes "log refused: ") (codes "bad record") (codes " at byte ") at
log_text (log.NoFrame at) = fault_placed (codes "log refused: ") (codes "no frame") (codes " at byte ") at
log_text (log.TooMany at) = fault_placed (codes "log refused: ") (codes "too many records") (codes " at byte ") at

-- a report that can't be opened can't say so
abbrev pub open_text : Role → Text
open_text Video = codes "cannot open video\n"
open_text Events = codes "cannot open events\n"
open_text Pictures = codes "cannot open pictures\n"
open_text Wire = codes "cannot open wire\n"
open_text Report = []
open_text Video2 = codes "cannot open video 2\n"
open_text Pictures2 = codes "cannot open pictures 2\n"

-- the line that a run writes before it ends with a status, or nothing
abbrev pub status_text : Status → Text
status_text Fine = []
status_text OutOfMemory = codes "out of memory\n"
status_text Usage = codes
    "usage: h263rps call IN OUT [--trace FILE] | send IN LOG WIRE | recv LOG OUT WIRE | demo SEED FRAMES\n"
status_text ReadFault = codes "read fault\n"
status_text WriteFault = []
status_text (VideoRefused fault) = video_text (codes "video refused: ") fault
status_text (TraceRefused fault) = trace_text fault
status_text (LogRefused fault) = log_text fault
status_text (OpenFault role) = open_text role
status_text (Video2Refused fault) = video_text (codes "video 2 refused: ") fault
