-- A run over a stream's log judges the entries of the log.
use Rattle.std.proofs.Common.{◌≡◌, ℕ, zero, suc, ◌+◌, ◌^◌, ◌<◌, ◌≤◌, List, [], ◌∷◌, ◌++◌, length, Option, Some, None, refl, sym, ap, ◌∙◌, arith}
use Rattle.std.proofs.lemmas.List.{append-nil}
use Rattle.h263_outside.specs.declared.desk.Role.{Role}
use Rattle.h263_outside.specs.declared.desk.Role.TheVariants.{Events, Report}
use Rattle.h263_types.specs.declared.params.Params.{Params}
use Rattle.event_logs.specs.declared.entry.Entry.{Entry}
use Rattle.event_logs.specs.declared.entry.Entry.TheVariants.{Capture, Back, Packet, Play}
use Rattle.event_logs.specs.declared.entry.Side.{Side}
use Rattle.event_logs.specs.declared.entry.Side.TheVariants.{Audit as OfStream}
use Rattle.event_logs.specs.declared.fault.LogFault.{LogFault}
use Rattle.event_logs.specs.Entry.{entry_in, reach}
use Rattle.event_logs.specs.Log.{Found, found_from, found_of, log_entries, log_fault}
use Rattle.call_report.specs.declared.status.Status.{Status}
use Rattle.call_report.specs.declared.status.Status.TheVariants.{Ok as Fine}
use Rattle.desk_program.specs.Run.{Run, text_of}
use Rattle.desk_program.specs.Texts.{log_read_out, no_texts, only_at_ok}
use Rattle.log_command.specs.Followed.{FollowsItsLog, IsEnd, mind_after, mind_with, text_after, text_with, turns_over}
use Rattle.stream_audit.specs.declared.verdict.Verdict.{Verdict}
use Rattle.stream_audit.specs.declared.verdict.Verdict.TheVariants.{Yes, No}
use Rattle.stream_audit.specs.Logs.{verdict_on}
use Rattle.stream_audit.specs.Stream.{LogEntry}
use Rattle.stream_audit.specs.Text.{LineTells, number_told, verdict_line}
use Rattle.audit_command.specs.Audit.{AuditState, audit_rules, nothing_sent}
use Rattle.audit_command.specs.Followed.{AuditsItsLog, entries_in, judged_as, with_judged_entries}

-- ---- how many entries there may be

few_from : (o : Option Entry) (at : ℕ) (log : List ℕ) (more : List Found) (n : ℕ) → length more ≤ n
    → length (found_from o at log more) ≤ suc n
few_from None at log more n few = omega arith
few_from (Some e) at log more n few = omega (arith, few)

few_found : (side : Side) (n at : ℕ) (log : List ℕ) → length (found_of side n at log) ≤ n
unfolding found_of
few_found side zero at log = omega arith
few_found side (suc n) at [] = omega arith
few_found side (suc n) at (b ∷ log) =
    few_from (entry_in side (b ∷ log)) at (b ∷ log) _ n (few_found side n (at + reach side (b ∷ log)) _)

few_entries : (log : List ℕ) → length (log_entries OfStream log) ≤ 16777216
unfolding log_entries
few_entries log = few_found OfStream 16777216 0 log

longer : (found : List Found) (past : List LogEntry) → length (with_judged_entries past found)
    ≡ length past + length found
longer [] past = omega arith
longer (x ∷ more) past = let r = longer more (judged_as x.entry x.bytes ∷ past) in omega (arith, r)

-- ---- a line is some bytes

no_line : (v : Verdict) → [] ≡ verdict_line v → ⊥
no_line (Yes n) is = absurd (cc is)
no_line (No n rule) is = absurd (cc is)

one_turn_each : (n : ℕ) → suc n ≡ n + 1
one_turn_each n = omega arith

module _ (p : Params) where
  abbrev state : List LogEntry → AuditState
  state past = record { params = p; past = past }

  mind_is : (past : List LogEntry) (e : Entry) (bytes : List ℕ) → mind_with audit_rules (state past) e bytes
      ≡ state (judged_as e bytes ∷ past)
  mind_is past (Packet len) bytes = refl
  mind_is past Capture bytes = refl
  mind_is past (Back len) bytes = refl
  mind_is past Play bytes = refl

  minds_are : (found : List Found) (past : List LogEntry) → mind_after audit_rules (state past) found
      ≡ state (with_judged_entries past found)
  minds_are [] past = refl
  minds_are (x ∷ more) past =
      ap (λ (s : AuditState). mind_after audit_rules s more) (mind_is past x.entry x.bytes)
      ∙ minds_are more (judged_as x.entry x.bytes ∷ past)

  quiet : (s : AuditState) (e : Entry) (bytes : List ℕ) → text_with audit_rules s e bytes Report ≡ []
  quiet s (Packet len) bytes = refl
  quiet s Capture bytes = refl
  quiet s (Back len) bytes = refl
  quiet s Play bytes = refl

  all_quiet : (found : List Found) (s : AuditState) → text_after audit_rules s found Report ≡ []
  all_quiet [] s = refl
  all_quiet (x ∷ more) s =
      ap (λ (l : List ℕ). l ++ text_after audit_rules (mind_with audit_rules s x.entry x.bytes) more Report)
      (quiet s x.entry x.bytes)
      ∙ all_quiet more (mind_with audit_rules s x.entry x.bytes)

  turn_count : (found : List Found) (s : AuditState) → length (turns_over audit_rules s found) ≡ length found
  turn_count [] s = refl
  turn_count (x ∷ more) s = ap suc (turn_count more (mind_with audit_rules s x.entry x.bytes))

  -- there are no plays, so nothing is one too many
  all_accepted : (fault : Option LogFault) (accepted refused : List Found) (status : Status)
      → IsEnd fault 0 refused status → (accepted ++ refused ≡ accepted) × (status ≡ log_read_out fault)
  all_accepted fault accepted [] status end = (append-nil accepted, end)
  all_accepted fault accepted (x ∷ more) status end = absurd (omega (arith, end.1))

  module _ (tells : LineTells p) (inputs : Role
      → List ℕ) (run : Run) (f : FollowsItsLog audit_rules (nothing_sent p) no_texts inputs run) where
    abbrev fault : Option LogFault
    fault = log_fault OfStream (inputs Events)

    abbrev past : List LogEntry
    past = entries_in (inputs Events)

    whole : (f.accepted ++ f.refused ≡ f.accepted) × (run.last.status ≡ log_read_out fault)
    whole = all_accepted fault f.accepted f.refused run.last.status f.end

    entries_are : log_entries OfStream (inputs Events) ≡ f.accepted
    entries_are = f.read ∙ whole.0

    minds : mind_after audit_rules (nothing_sent p) f.accepted ≡ state past
    minds = minds_are f.accepted [] ∙ ap (λ (l : List Found). state (with_judged_entries [] l)) (sym entries_are)

    report_is : text_of run Report ≡ only_at_ok run.last.status (verdict_line (verdict_on p past))
    report_is =
        f.texts Report
        ∙ ap (λ (l : List ℕ). l ++ only_at_ok run.last.status
        (audit_rules.end_text (mind_after audit_rules (nothing_sent p) f.accepted) Report))
        (all_quiet f.accepted (nothing_sent p))
        ∙ ap (λ (s : AuditState). only_at_ok run.last.status (audit_rules.end_text s Report)) minds

    few : length past ≤ 16777216
    few = omega (arith, longer (log_entries OfStream (inputs Events)) [], few_entries (inputs Events))

    -- the verdict that is told is that on the entries
    by_fault : (o : Option LogFault) (v : Verdict) → number_told v < 2 ^ 32
        → only_at_ok (log_read_out o) (verdict_line (verdict_on p past)) ≡ verdict_line v
        → (log_read_out o ≡ Fine) × (verdict_on p past ≡ v)
    by_fault None v small same = (refl, tells past v few small same)
    by_fault (Some broken) v small same = absurd (no_line v same)

    pub audits : AuditsItsLog p inputs run
    audits = record {
      taken =
          ap length f.turns ∙ ap suc (turn_count f.accepted (nothing_sent p)) ∙ one_turn_each (length f.accepted)
          ∙ ap (λ (l : List Found). length l + 1) (sym entries_are);
      status = whole.1;
      report = report_is;
      verdict = λ v small same.
          let told_as = by_fault fault v small (ap (λ (s : Status). only_at_ok s (verdict_line (verdict_on p past)))
          (sym whole.1) ∙ sym report_is ∙ same) in
          (whole.1 ∙ told_as.0, told_as.1);
    }
