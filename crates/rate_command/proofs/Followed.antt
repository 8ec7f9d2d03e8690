-- A run over a log measures the packets of the log.
use Rattle.std.proofs.Common.{◌≡◌, ℕ, suc, ◌+◌, List, [], ◌∷◌, ◌++◌, length, Option, Some, None, refl, ap, subst, ◌∙◌, arith}
use Rattle.h263_outside.specs.declared.desk.Role.{Role}
use Rattle.h263_outside.specs.declared.desk.Role.TheVariants.{Events, Report}
use Rattle.event_logs.specs.declared.entry.Entry.{Entry}
use Rattle.event_logs.specs.declared.entry.Entry.TheVariants.{Capture, Back, Packet, Play}
use Rattle.event_logs.specs.declared.entry.Side.TheVariants.{Recv as OfReceiver}
use Rattle.event_logs.specs.Log.{Found, log_fault}
use Rattle.desk_program.specs.Run.{Run}
use Rattle.desk_program.specs.Texts.{no_texts, only_at_ok}
use Rattle.log_command.specs.Followed.{FollowsItsLog, IsEnd, mind_after, mind_with, text_after, text_with, turns_over}
use Rattle.rate_control.specs.declared.meter.Metered.{Metered}
use Rattle.rate_control.specs.declared.meter.Metered.TheVariants.{Same, Ended, Refused}
use Rattle.rate_control.specs.declared.meter.Totals.{Totals}
use Rattle.rate_control.specs.Metering.{metered, totals_of}
use Rattle.rate_control.specs.Text.{totals_line}
use Rattle.rate_command.specs.declared.rate.Bucket.{Bucket}
use Rattle.rate_command.specs.Followed.{MeasuresItsLog, answer_line, answer_lines, closing_lines, ended_line, line_of_last, measured_packets, packets_with, plays_after, plays_with}
use Rattle.rate_command.specs.Rate.{RateState, answer_text, closing_text, last_text, nothing_measured, rate_rules}

answered : (m : Metered) → answer_text m Report ≡ ended_line m
answered Same = refl
answered (Ended number size level) = refl
answered (Refused fault) = refl

lasts : (o : Option (ℕ × ℕ × ℕ)) → last_text o Report ≡ line_of_last o
lasts None = refl
lasts (Some x) = refl

closes : (totals : Totals) → closing_text totals Report ≡ closing_lines totals
closes totals = ap (λ (l : List ℕ). l ++ totals_line totals) (lasts totals.last)

one_turn_each : (n : ℕ) → suc n ≡ n + 1
one_turn_each n = omega arith

module _ (b : Bucket) where
  abbrev state : List (List ℕ) → ℕ → RateState
  state packets plays = record { bucket = b; packets = packets; plays = plays }

  mind_is : (packets : List (List ℕ)) (plays : ℕ) (e : Entry) (bytes : List ℕ)
      → mind_with rate_rules (state packets plays) e bytes ≡ state (packets_with packets e bytes) (plays_with plays e)
  mind_is packets plays (Packet len) bytes = refl
  mind_is packets plays Capture bytes = refl
  mind_is packets plays (Back len) bytes = refl
  mind_is packets plays Play bytes = refl

  minds_are : (found : List Found) (packets : List (List ℕ)) (plays : ℕ)
      → mind_after rate_rules (state packets plays) found
      ≡ state (measured_packets packets found) (plays_after plays found)
  minds_are [] packets plays = refl
  minds_are (x ∷ more) packets plays =
      ap (λ (s : RateState). mind_after rate_rules s more) (mind_is packets plays x.entry x.bytes)
      ∙ minds_are more (packets_with packets x.entry x.bytes) (plays_with plays x.entry)

  text_is : (packets : List (List ℕ)) (plays : ℕ) (e : Entry) (bytes : List ℕ)
      → text_with rate_rules (state packets plays) e bytes Report ≡ answer_line b.target packets e bytes
  text_is packets plays (Packet len) bytes = answered (metered b.target packets bytes)
  text_is packets plays Capture bytes = refl
  text_is packets plays (Back len) bytes = refl
  text_is packets plays Play bytes = refl

  texts_are : (found : List Found) (packets : List (List ℕ)) (plays : ℕ)
      → text_after rate_rules (state packets plays) found Report ≡ answer_lines b.target packets found
  texts_are [] packets plays = refl
  texts_are (x ∷ more) packets plays =
      ap (λ (s : RateState). text_with rate_rules (state packets plays) x.entry x.bytes Report
      ++ text_after rate_rules s more Report) (mind_is packets plays x.entry x.bytes)
      ∙ ap (λ (l : List ℕ). l ++ text_after rate_rules (state (packets_with packets x.entry x.bytes)
      (plays_with plays x.entry)) more Report) (text_is packets plays x.entry x.bytes)
      ∙ ap (λ (l : List ℕ). answer_line b.target packets x.entry x.bytes
      ++ l) (texts_are more (packets_with packets x.entry x.bytes) (plays_with plays x.entry))

  turn_count : (found : List Found) (s : RateState) → length (turns_over rate_rules s found) ≡ length found
  turn_count [] s = refl
  turn_count (x ∷ more) s = ap suc (turn_count more (mind_with rate_rules s x.entry x.bytes))

  module _ (inputs : Role → List ℕ) (run : Run) (f : FollowsItsLog rate_rules (nothing_measured b) no_texts inputs
      run) where
    minds : mind_after rate_rules (nothing_measured b) f.accepted
        ≡ state (measured_packets [] f.accepted) (plays_after 0 f.accepted)
    minds = minds_are f.accepted [] 0

    pub measures : MeasuresItsLog b inputs run
    measures = record {
      accepted = f.accepted;
      refused = f.refused;
      read = f.read;
      taken = ap length f.turns ∙ ap suc (turn_count f.accepted (nothing_measured b))
          ∙ one_turn_each (length f.accepted);
      report =
          f.texts Report
          ∙ ap (λ (l : List ℕ). l ++ only_at_ok run.last.status
          (rate_rules.end_text (mind_after rate_rules (nothing_measured b) f.accepted) Report))
          (texts_are f.accepted [] 0)
          ∙ ap (λ (s : RateState). answer_lines b.target [] f.accepted
          ++ only_at_ok run.last.status (rate_rules.end_text s Report)) minds
          ∙ ap (λ (l : List ℕ). answer_lines b.target [] f.accepted ++ only_at_ok run.last.status l)
          (closes (totals_of b.target b.bucket (measured_packets [] f.accepted)));
      end = subst (λ (s : RateState). IsEnd (log_fault OfReceiver (inputs Events)) (rate_rules.plays s) f.refused
          run.last.status) minds f.end;
    }
