-- The whole run, line by line.
use Rattle.std.proofs.Common.{◌≡◌, ℕ, List, [], ◌∷◌, ◌++◌, length, refl, ap}
use Rattle.h263_outside.specs.declared.desk.Role.{Role}
use Rattle.loss_trace.specs.declared.event.Event.{Event as Line}
use Rattle.desk_program.specs.Run.{End, Run, left_after, run_from, machine_run, texts_of}
use Rattle.desk_program.specs.Texts.{no_bytes}
use Rattle.make_input.specs.Expanded.{expanded}
use Rattle.make_input.specs.Trace.{made_trace}
use Rattle.call_model.specs.IdealCall.{Event}
use Rattle.demo_command.specs.declared.terms.DemoTerms.{DemoTerms}
use Rattle.demo_command.specs.Demo.{DemoState, all_done, demo_begin, demo_step, made_events, made_turns, with_made_line}
use Rattle.demo_command.specs.Laws.{TellsCounts}

abbrev state_at : DemoTerms → List Event → List Line → DemoState
state_at t past lines = record { terms = t; past = past; lines = lines }

-- nothing is told before the end, which comes after these events
record IsSilent (t : DemoTerms) (past : List Event) (run : Run) : Type 0 where
  last : run.last ≡ all_done (state_at t past [])
  texts : (r : Role) → texts_of run.turns r ≡ []

silent : (t : DemoTerms) (lines : List Line) (past : List Event) (inputs : Role → List ℕ)
    → IsSilent t (made_events t past lines) (machine_run demo_step (length lines) (state_at t past lines) inputs)
unfolding machine_run expanded
silent t [] past inputs = record { last = refl; texts = λ r. refl }
silent t (line ∷ lines) past inputs =
    let rest = silent t lines (with_made_line t past line) (left_after inputs no_bytes) in
    record { last = rest.last; texts = rest.texts }

pub tells : (t : DemoTerms) (inputs : Role → List ℕ)
    → TellsCounts t (run_from (demo_begin t inputs) demo_step (made_turns t) inputs)
tells t inputs =
    let run = silent t (made_trace t.seed t.frames) [] (left_after inputs no_bytes) in
    record {
      status = ap (λ (last : End). last.status) run.last;
      texts = λ r. (λ i. run.texts r i ++ (run.last i).texts r);
    }
