-- What the meter of a log comes to, as a whole: its answers to the packets of the log, one after the
-- other, and what there is to say of all of them.
use Rattle.std.specs.Prelude.{◌≡◌, ℕ, ◌+◌, List, [], ◌∷◌, ◌++◌, length, Option, Some, None}
use Rattle.h263_outside.specs.declared.desk.Role.{Role}
use Rattle.h263_outside.specs.declared.desk.Role.TheVariants.{Events, Report}
use Rattle.event_logs.specs.declared.entry.Entry.{Entry}
use Rattle.event_logs.specs.declared.entry.Entry.TheVariants.{Capture, Back, Packet, Play}
use Rattle.event_logs.specs.declared.entry.Side.TheVariants.{Recv as OfReceiver}
use Rattle.event_logs.specs.Log.{Found, log_entries, log_fault}
use Rattle.desk_program.specs.Run.{Run, text_of}
use Rattle.log_command.specs.Followed.{IsEnd}
use Rattle.rate_control.specs.declared.meter.Metered.{Metered}
use Rattle.rate_control.specs.declared.meter.Metered.TheVariants.{Same, Ended, Refused}
use Rattle.rate_control.specs.declared.meter.Totals.{Totals}
use Rattle.rate_control.specs.Metering.{metered, totals_of}
use Rattle.rate_control.specs.Text.{picture_line, totals_line}
use Rattle.rate_command.specs.declared.rate.Bucket.{Bucket}
use Rattle.desk_program.specs.Texts.{only_at_ok}

-- ---- what a log has

-- the packets up to an entry, by those before it, and the plays
abbrev pub packets_with : List (List ℕ) → Entry → List ℕ → List (List ℕ)
packets_with packets (Packet len) bytes = packets ++ bytes ∷ []
packets_with packets Capture bytes = packets
packets_with packets (Back len) bytes = packets
packets_with packets Play bytes = packets

abbrev pub plays_with : ℕ → Entry → ℕ
plays_with plays (Packet len) = plays
plays_with plays Capture = plays + 1
plays_with plays (Back len) = plays + 1
plays_with plays Play = plays + 1

-- the packets of these entries after those before them, in the order of the log
abbrev pub measured_packets : List (List ℕ) → List Found → List (List ℕ)
measured_packets packets [] = packets
measured_packets packets (found ∷ more) = measured_packets (packets_with packets found.entry found.bytes) more

-- how many plays there are, with these before them
abbrev pub plays_after : ℕ → List Found → ℕ
plays_after plays [] = plays
plays_after plays (found ∷ more) = plays_after (plays_with plays found.entry) more

-- ---- what is told

-- the line of the picture that has ended with a packet, where one has
abbrev pub ended_line : Metered → List ℕ
ended_line (Ended number size level) = picture_line number size level
ended_line Same = []
ended_line (Refused fault) = []

-- the line of the picture that is still going on at the end, and that of the whole log
abbrev pub line_of_last : Option (ℕ × ℕ × ℕ) → List ℕ
line_of_last None = []
line_of_last (Some x) = picture_line x.0 x.1 x.2

abbrev pub closing_lines : Totals → List ℕ
closing_lines totals = line_of_last totals.last ++ totals_line totals

-- what the meter answers to an entry after these packets: to a play nothing
abbrev pub answer_line : ℕ → List (List ℕ) → Entry → List ℕ → List ℕ
answer_line target packets (Packet len) bytes = ended_line (metered target packets bytes)
answer_line target packets Capture bytes = []
answer_line target packets (Back len) bytes = []
answer_line target packets Play bytes = []

-- its answers to these entries, after those packets
abbrev pub answer_lines : ℕ → List (List ℕ) → List Found → List ℕ
answer_lines target packets [] = []
answer_lines target packets (found ∷ more) =
    answer_line target packets found.entry found.bytes
    ++ answer_lines target (packets_with packets found.entry found.bytes) more

-- The entries that it accepts are the first ones of the log, one in each turn but the first. The
-- report has the meter's answers to their packets, and where it ends with `Ok` what there is to say of
-- all these packets. It ends because of what comes after them.
pub record MeasuresItsLog (b : Bucket) (inputs : Role → List ℕ) (run : Run) : Type 0 where
  pub accepted : List Found
  pub refused : List Found
  pub read : log_entries OfReceiver (inputs Events) ≡ accepted ++ refused
  pub taken : length run.turns ≡ length accepted + 1
  pub report : text_of run Report
      ≡ answer_lines b.target [] accepted
      ++ only_at_ok run.last.status (closing_lines (totals_of b.target b.bucket (measured_packets [] accepted)))
  pub end : IsEnd (log_fault OfReceiver (inputs Events)) (plays_after 0 accepted) refused run.last.status
