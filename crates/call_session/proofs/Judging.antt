-- What is said of a packet is what its run, if there is one, answers.
use Rattle.std.proofs.Common.{◌≡◌, ℕ, List, Option, Some, None, refl, ap, sym, subst}
use Rattle.stream_choice.specs.declared.streams.Run.{Run}
use Rattle.stream_choice.specs.declared.streams.Taker.{Taker}
use Rattle.stream_numbers.specs.declared.packet.Packet.{Packet}
use Rattle.stream_run.specs.declared.run.Arrived.{Arrived}
use Rattle.session_intake.specs.declared.seen.Seen.{Seen}
use Rattle.session_intake.specs.declared.seen.Cause.TheVariants as causes
use Rattle.session_intake.specs.declared.settings.Settings.{Settings}
use Rattle.session_runs.specs.Kept.{IsAnswerOf, config_in}
use Rattle.session_runs.specs.Histories.{Config}
use Rattle.session_runs.specs.Following.{Follows, taker_answer, source_noted}
use Rattle.session_runs.specs.Followed.{AreTaken}
use Rattle.call_session.specs.declared.verdict.Verdict.{Verdict}
use Rattle.call_session.specs.declared.verdict.Verdict.TheVariants as verdicts
use Rattle.call_session.specs.Sessions.{SessionState, asked_for, outcome_of_run}
use Rattle.call_session.specs.Ruled.{IsVerdict}

-- none takes it
pub nobody : (s : Settings) (taker : Taker) (r : Option Run) (packet : Packet) (bytes : List ℕ) (now : ℕ) (f : Follows)
    → AreTaken s taker r packet bytes now f None → r ≡ None
nobody s taker None packet bytes now f x = refl
nobody s taker (Some run) packet bytes now f x = let e = x.1 in absurd cc

abbrev run_in : Option (Run × Arrived) → Option Run
run_in None = None
run_in (Some x) = Some x.0

-- this one takes it
pub somebody : (s : Settings) (taker : Taker) (r : Option Run) (packet : Packet) (bytes : List ℕ) (now : ℕ)
    (f : Follows)
    (run : Run) (a : Arrived) → AreTaken s taker r packet bytes now f (Some (run, a)) → r ≡ Some run
somebody s taker None packet bytes now f run a x = absurd cc
somebody s taker (Some other) packet bytes now f run a x = sym (ap run_in x.1)

abbrev verdict_of : ℕ → Option (Run × Arrived) → Verdict
verdict_of source None = verdicts.Dropped causes.OtherStream
verdict_of source (Some x) = verdicts.Taken (record { run = x.0; source = source; answer = x.1 })

-- with its answer
pub verdict : (s : Settings) (seen : Seen) (taker : Taker) (r : Option Run) (own : List ℕ) (now : ℕ) (st : SessionState)
    (run : Run) (a : Arrived) → now ≡ st.now
    → AreTaken s taker r seen.packet own now (source_noted seen.source now st.follows) (Some (run, a))
    → IsVerdict s.params.clock (verdicts.Taken (record { run = run; source = seen.source; answer = a }))
    (outcome_of_run (config_in s) seen taker r own st)
verdict s seen taker None own now st run a e x = absurd cc
verdict s seen taker (Some other) own now st run a e x = (
  x.0,
  ap (verdict_of seen.source) x.1,
  subst (λ (n : ℕ). IsAnswerOf s.params.clock x.0
      (taker_answer (config_in s) taker other seen.packet own n (source_noted seen.source n st.follows))) e x.2,
)

-- what was asked for says nothing of it
pub still : (c : Config) (seen : Seen) (taker : Taker) (r : Option Run) (own : List ℕ) (st : SessionState)
    → outcome_of_run c seen taker r own (asked_for taker st) ≡ outcome_of_run c seen taker r own st
still c seen taker None own st = refl
still c seen taker (Some run) own st = refl
