-- What a call on made input comes to, and what the laws of the crates below say of made input.
use Rattle.std.specs.Prelude.{◌≡◌, ℕ, ◌<◌, List, [], length}
use Rattle.h263_outside.specs.declared.desk.Role.{Role}
use Rattle.h263_outside.specs.declared.desk.Role.TheVariants.{Report}
use Rattle.call_report.specs.declared.status.Status.TheVariants.{Ok as Fine}
use Rattle.desk_program.specs.Run.{Run, text_of}
use Rattle.desk_program.specs.Texts.{on}
use Rattle.make_input.specs.Trace.{made_trace}
use Rattle.call_model.specs.IdealCall.{AllMayHappen, Event, slices_at}
use Rattle.call_decoding.specs.Rules.{rules_of}
use Rattle.coded_call.specs.Coding.{coding}
use Rattle.one_way.specs.Both.{steady}
use Rattle.call_command.specs.Counts.{call_text}
use Rattle.one_way.specs.Seen.{in_call}
use Rattle.demo_command.specs.declared.terms.DemoTerms.{DemoTerms}
use Rattle.demo_command.specs.Demo.{made_call, made_events, made_video}

pub record MadeLaws (t : DemoTerms) : Type 0 where
  -- each event of the made trace is in place and near
  pub near : AllMayHappen (coding t.params) (rules_of t.params)
      (steady t.params) (made_video t) (made_events t [] (made_trace t.seed t.frames))
  -- each picture that was sent has a slice
  pub slices : (past : List Event) (n : ℕ) → n < length (made_call t past).coded
      → 0 < length (slices_at (made_call t past).coded n)

-- the run ends with `Ok`, and all that it tells are the counts of the ideal call of the made video
-- over the made trace
pub record TellsCounts (t : DemoTerms) (run : Run) : Type 0 where
  pub status : run.last.status ≡ Fine
  pub texts : (r : Role)
      → text_of run r ≡ on Report (call_text (in_call (made_call t (made_events t [] (made_trace t.seed t.frames))))) r
