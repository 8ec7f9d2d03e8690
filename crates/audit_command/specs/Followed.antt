-- What the audit of a log comes to, as a whole: the verdict on the log's entries.
use Rattle.std.specs.Prelude.{◌≡◌, ℕ, ◌+◌, ◌^◌, ◌<◌, List, [], ◌∷◌, length}
use Rattle.h263_outside.specs.declared.desk.Role.{Role}
use Rattle.h263_outside.specs.declared.desk.Role.TheVariants.{Events, Report}
use Rattle.h263_types.specs.declared.params.Params.{Params}
use Rattle.event_logs.specs.declared.entry.Entry.{Entry}
use Rattle.event_logs.specs.declared.entry.Entry.TheVariants.{Capture, Back, Packet, Play}
use Rattle.event_logs.specs.declared.entry.Side.TheVariants.{Audit as OfStream}
use Rattle.event_logs.specs.Log.{Found, log_entries, log_fault}
use Rattle.call_report.specs.declared.status.Status.TheVariants.{Ok as Fine}
use Rattle.desk_program.specs.Run.{Run, text_of}
use Rattle.stream_audit.specs.declared.verdict.Verdict.{Verdict}
use Rattle.stream_audit.specs.Logs.{verdict_on}
use Rattle.stream_audit.specs.Stream.{LogEntry, Sent, Fed}
use Rattle.stream_audit.specs.Text.{number_told, verdict_line}
use Rattle.desk_program.specs.Texts.{log_read_out, only_at_ok}

-- an entry of the log as it is judged: a packet that was sent, or feedback that had arrived
abbrev pub judged_as : Entry → List ℕ → LogEntry
judged_as (Packet len) bytes = Sent bytes
judged_as Capture bytes = Fed bytes
judged_as (Back len) bytes = Fed bytes
judged_as Play bytes = Fed bytes

-- the packets and the feedback after those of these entries, the newest first
abbrev pub with_judged_entries : List LogEntry → List Found → List LogEntry
with_judged_entries past [] = past
with_judged_entries past (found ∷ more) = with_judged_entries (judged_as found.entry found.bytes ∷ past) more

-- those of a log
abbrev pub entries_in : List ℕ → List LogEntry
entries_in log = with_judged_entries [] (log_entries OfStream log)

-- All entries of the log are read, one in each turn but the first. Where the log has no fault the
-- report is the line of the verdict on them, and else it has none; so the verdict that a report tells
-- is that on the log's entries.
pub record AuditsItsLog (p : Params) (inputs : Role → List ℕ) (run : Run) : Type 0 where
  pub taken : length run.turns ≡ length (log_entries OfStream (inputs Events)) + 1
  pub status : run.last.status ≡ log_read_out (log_fault OfStream (inputs Events))
  pub report : text_of run Report
      ≡ only_at_ok run.last.status (verdict_line (verdict_on p (entries_in (inputs Events))))
  pub verdict : (v : Verdict) → number_told v < 2 ^ 32 → text_of run Report ≡ verdict_line v
      → (run.last.status ≡ Fine) × (verdict_on p (entries_in (inputs Events)) ≡ v)
