-- The audit of a log, entry by entry.
use Rattle.std.specs.Prelude.{◌≡◌, ℕ, ◌≤◌, Bool, true, List, [], ◌∷◌}
use Rattle.h263_outside.specs.declared.desk.Role.{Role}
use Rattle.h263_outside.specs.declared.desk.Role.TheVariants.{Report}
use Rattle.h263_types.specs.declared.params.Params.{Params}
use Rattle.h263_types.specs.Params.{IsParams}
use Rattle.event_logs.specs.declared.entry.Side.TheVariants.{Audit as OfStream}
use Rattle.desk_program.specs.Run.{Step}
use Rattle.desk_program.specs.Texts.{no_texts, on}
use Rattle.log_command.specs.Log.{LogRules, LogState, log_begin, log_step}
use Rattle.stream_audit.specs.Stream.{LogEntry, Sent, Fed}
use Rattle.stream_audit.specs.Logs.{verdict_on}
use Rattle.stream_audit.specs.State.{StandsForLog}
use Rattle.stream_audit.specs.Text.{verdict_line}
use Rattle.audit_command.specs.declared.audit.Auditing.{Auditing}

-- the parameters, and the packets and the feedback so far, newest first
pub record AuditState : Type 0 where
  pub params : Params
  pub past : List LogEntry

abbrev pub nothing_sent : Params → AuditState
nothing_sent p = record { params = p; past = [] }

-- the state after an entry
abbrev pub after_judged_entry : AuditState → LogEntry → AuditState
after_judged_entry s entry = record { params = s.params; past = entry ∷ s.past }

-- each entry joins those so far, and nothing is written; at the end the verdict is told
abbrev pub audit_rules : LogRules AuditState
audit_rules =
    record {
      side = OfStream;
      packet = λ s bytes. after_judged_entry s (Sent bytes);
      packet_text = λ s bytes. no_texts;
      other = λ s bytes. after_judged_entry s (Fed bytes);
      other_text = λ s bytes. no_texts;
      plays = λ s. 0;
      end_text = λ s. on Report (verdict_line (verdict_on s.params s.past));
    }

-- before the first entry nothing is written, and nothing is read
abbrev pub audit_begin : Params → (Role → List ℕ) → Step (LogState AuditState)
audit_begin p inputs = log_begin (nothing_sent p) no_texts

abbrev pub audit_step : LogState AuditState → (Role → List ℕ) → Step (LogState AuditState)
audit_step s inputs = log_step audit_rules s inputs

-- ---- what the command keeps in mind, and what it is ready for

pub record AuditStands (c : Auditing) (s : AuditState) : Type 0 where
  pub params : s.params ≡ c.audit.params
  pub audit : StandsForLog c.audit s.past

pub record AuditOpens (p : Params) (attached : Role → Bool) : Type 0 where
  pub params : IsParams p
  pub report : attached Report ≡ true

-- each entry begins one picture at most
pub record AuditReady (c : Auditing) (entries : ℕ) (attached : Role → Bool) : Type 0 where
  pub report : attached Report ≡ true
  pub pictures : c.audit.pictures ≤ entries
