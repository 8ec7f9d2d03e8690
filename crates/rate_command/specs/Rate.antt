-- The meter of a log, entry by entry.
use Rattle.std.specs.Prelude.{◌≡◌, ℕ, ◌+◌, ◌≤◌, Bool, true, List, [], ◌∷◌, ◌++◌, length, Option, Some, None}
use Rattle.h263_outside.specs.declared.desk.Role.{Role}
use Rattle.h263_outside.specs.declared.desk.Role.TheVariants.{Report}
use Rattle.event_logs.specs.declared.entry.Side.TheVariants.{Recv as OfReceiver}
use Rattle.desk_program.specs.Run.{Step}
use Rattle.desk_program.specs.Texts.{no_texts, on, then_also}
use Rattle.log_command.specs.Log.{LogRules, LogState, log_begin, log_step}
use Rattle.rate_control.specs.declared.meter.Meter.{Meter}
use Rattle.rate_control.specs.declared.meter.Metered.{Metered}
use Rattle.rate_control.specs.declared.meter.Metered.TheVariants.{Same, Ended, Refused}
use Rattle.rate_control.specs.declared.meter.Totals.{Totals}
use Rattle.rate_control.specs.Metering.{MeterStands, metered, totals_of}
use Rattle.rate_control.specs.Text.{picture_line, totals_line}
use Rattle.rate_command.specs.declared.rate.Bucket.{Bucket}
use Rattle.rate_command.specs.declared.rate.Metering.{Metering}

-- the bucket, the packets so far, oldest first, and how many plays there were
pub record RateState : Type 0 where
  pub bucket : Bucket
  pub packets : List (List ℕ)
  pub plays : ℕ

-- ---- what is written

-- the line of a picture that has ended
abbrev pub answer_text : Metered → Role → List ℕ
answer_text (Ended number size level) = on Report (picture_line number size level)
answer_text Same = no_texts
answer_text (Refused fault) = no_texts

-- the line of the picture that is still going on at the log's end
abbrev pub last_text : Option (ℕ × ℕ × ℕ) → Role → List ℕ
last_text None = no_texts
last_text (Some x) = on Report (picture_line x.0 x.1 x.2)

-- that line, and the one of the whole log
abbrev pub closing_text : Totals → Role → List ℕ
closing_text t = then_also (last_text t.last) (on Report (totals_line t))

-- ---- the steps

abbrev pub nothing_measured : Bucket → RateState
nothing_measured b = record { bucket = b; packets = []; plays = 0 }

-- a packet is measured, a play is passed over, and at the end the log is summed up
abbrev pub rate_rules : LogRules RateState
rate_rules =
    record {
      side = OfReceiver;
      packet = λ s bytes. record { bucket = s.bucket; packets = s.packets ++ bytes ∷ []; plays = s.plays };
      packet_text = λ s bytes. answer_text (metered s.bucket.target s.packets bytes);
      other = λ s bytes. record { bucket = s.bucket; packets = s.packets; plays = s.plays + 1 };
      other_text = λ s bytes. no_texts;
      plays = λ s. s.plays;
      end_text = λ s. closing_text (totals_of s.bucket.target s.bucket.bucket s.packets);
    }

-- before the first entry nothing is written, and nothing is read
abbrev pub rate_begin : Bucket → (Role → List ℕ) → Step (LogState RateState)
rate_begin b inputs = log_begin (nothing_measured b) no_texts

abbrev pub rate_step : LogState RateState → (Role → List ℕ) → Step (LogState RateState)
rate_step s inputs = log_step rate_rules s inputs

-- ---- what the command keeps in mind, and what it is ready for

pub record RateStands (c : Metering) (s : RateState) : Type 0 where
  pub target : s.bucket.target ≡ c.meter.target
  pub bucket : s.bucket.bucket ≡ c.meter.bucket
  pub plays : s.plays ≡ c.plays
  pub meter : MeterStands c.meter s.packets

pub record RateOpens (b : Bucket) (attached : Role → Bool) : Type 0 where
  pub some : 1 ≤ b.target
  pub few : b.target ≤ 999999
  pub bucket : b.bucket ≤ 999999
  pub report : attached Report ≡ true

-- the meter was given packets, and no more than there were entries
pub record IsCounted (meter : Meter) (entries : ℕ) : Type 0 where
  pub packets : List (List ℕ)
  pub stands : MeterStands meter packets
  pub few : length packets ≤ entries

pub record RateReady (c : Metering) (entries : ℕ) (attached : Role → Bool) : Type 0 where
  pub report : attached Report ≡ true
  pub counted : IsCounted c.meter entries
