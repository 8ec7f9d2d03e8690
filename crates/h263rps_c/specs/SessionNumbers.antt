-- The numbers of the header: each answer of a session as C has it.
use Rattle.std.specs.Prelude.{ℕ, ◌==◌, [], ◌∷◌, Bool, true, false, Option, Some, None, if◌then◌else◌}
use Rattle.stream_choice.specs.declared.streams.Run.{Run}
use Rattle.stream_choice.specs.declared.streams.Run.TheVariants as runs
use Rattle.packet_gaps.specs.declared.gaps.Nack.{Nack}
use Rattle.stream_run.specs.declared.run.Arrived as run_answers
use Rattle.stream_run.specs.declared.run.Arrived.TheVariants as run_variants
use Rattle.session_intake.specs.declared.seen.Cause.{Cause}
use Rattle.session_intake.specs.declared.seen.Cause.TheVariants as causes
use Rattle.session_intake.specs.declared.counts.Counts.{Counts}
use Rattle.call_session.specs.declared.verdict.Arrived.{Arrived}
use Rattle.call_session.specs.declared.verdict.RunPlayed.{RunPlayed}
use Rattle.call_session.specs.declared.verdict.Taken.{Taken}
use Rattle.call_session.specs.declared.verdict.Verdict.{Verdict}
use Rattle.call_session.specs.declared.verdict.Verdict.TheVariants as verdicts
use Rattle.h263rps_c.specs.declared.answers.Answer.{Answer}
use Rattle.h263rps_c.specs.declared.session_answers.CArrived.{CArrived}
use Rattle.h263rps_c.specs.declared.session_answers.CTurn.{CTurn}
use Rattle.h263rps_c.specs.declared.session_answers.CCounts.{CCounts}
use Rattle.h263rps_c.specs.declared.session_answers.CNack.{CNack}
use Rattle.h263rps_c.specs.Numbers.{heard_answer, plain, played_answer}

abbrev pub bit : Bool → ℕ
bit true = 1
bit false = 0

-- ---- runs

abbrev pub run_number : Run → ℕ
run_number runs.Followed = 0
run_number runs.Former = 1
run_number runs.Tried = 2

abbrev pub run_in : ℕ → Option Run
run_in n =
    if n == 0 then Some runs.Followed
    else if n == 1 then Some runs.Former
    else if n == 2 then Some runs.Tried
    else None

-- ---- to a datagram

abbrev pub cause_number : Cause → ℕ
cause_number causes.Long = 1
cause_number causes.Malformed = 2
cause_number causes.OtherPictures = 3
cause_number causes.TooFast = 4
cause_number causes.OtherStream = 5

abbrev pub verdict_number : run_answers.Arrived → ℕ
verdict_number run_variants.NoPlace = 1
verdict_number (run_variants.Ahead number) = 2
verdict_number (run_variants.Heard heard) = 3

-- the number of a picture that is ahead
abbrev pub number_ahead : run_answers.Arrived → ℕ
number_ahead (run_variants.Ahead number) = number
number_ahead _ = 0

-- the receiver's answer, if there is one
abbrev pub answer_arrived : run_answers.Arrived → Answer
answer_arrived (run_variants.Heard heard) = heard_answer heard
answer_arrived _ = plain 0

abbrev pub dropped_numbers : Cause → ℕ → CArrived
dropped_numbers cause rival =
    record {
      verdict = 0;
      cause = cause_number cause;
      run = 0;
      source = 0;
      ahead = 0;
      rival = rival;
      answer = plain 0;
    }

abbrev pub taken_numbers : Taken → ℕ → CArrived
taken_numbers t rival =
    record {
      verdict = verdict_number t.answer;
      cause = 0;
      run = run_number t.run;
      source = t.source;
      ahead = number_ahead t.answer;
      rival = rival;
      answer = answer_arrived t.answer;
    }

abbrev pub verdict_numbers : Verdict → ℕ → CArrived
verdict_numbers (verdicts.Dropped cause) rival = dropped_numbers cause rival
verdict_numbers (verdicts.Taken t) rival = taken_numbers t rival

abbrev pub arrived_numbers : Arrived → CArrived
arrived_numbers a = verdict_numbers a.verdict (bit a.is_rival)

-- ---- to a play

abbrev pub no_turn : CTurn
no_turn = record { plays = 0; run = 0; source = 0; answer = plain 0 }

-- of a stream with this SSRC
abbrev pub turn_numbers : RunPlayed → ℕ → CTurn
turn_numbers p source =
    record {
      plays = 1;
      run = run_number p.run;
      source = source;
      answer = played_answer p.played;
    }

-- ---- what is asked for again

abbrev pub nothing_asked : CNack
nothing_asked = record { asks = 0; packet = 0; following = 0 }

abbrev pub nack_numbers : Option Nack → CNack
nack_numbers None = nothing_asked
nack_numbers (Some n) = record { asks = 1; packet = n.packet; following = n.following }

-- ---- times and counts

-- when something is due; the last of the numbers where nothing is known to be
abbrev pub time_or_never : Option ℕ → ℕ
time_or_never None = 18446744073709551615
time_or_never (Some time) = time

abbrev pub counts_numbers : Counts → CCounts
counts_numbers c =
    record {
      taken = c.taken;
      dropped = 0 ∷ c.long ∷ c.malformed ∷ c.other_pictures ∷ c.too_fast ∷ c.other_stream ∷ [];
      played = c.exact ∷ c.patched ∷ c.held ∷ [];
    }
