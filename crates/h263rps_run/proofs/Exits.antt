-- How a process ends whose words were put into memory, or for which there was none.
use Rattle.std.proofs.Common.{◌≡◌, ℕ, List, Result, Ok, Err, IfOk, OnErr, Option, refl, sym, ap, ◌∙◌, subst}
use Rattle.h263_outside.specs.Desk.{Outside, NoneAttached}
use Rattle.call_report.specs.declared.status.Status.TheVariants.{OutOfMemory}
use Rattle.call_report.specs.Status.{code_of}
use Rattle.command_words.specs.Asked.{Asked}
use Rattle.h263_types.specs.Texts.{Text}
use Rattle.h263rps_run.specs.Output.{command_of}
use Rattle.h263rps_run.specs.Promises.{IsExit, IsRun}
use Rattle.h263rps_run.proofs.Asked.{starved_run}

-- there was none
pub exit_starved : {D : Type 0} (outside : D → Outside) (before after : D) (asked : Option Asked) (code : ℕ)
    → NoneAttached (outside before).attached → code ≡ code_of OutOfMemory → after ≡ before
    → IsExit asked code (outside before) (outside after)
exit_starved outside before after asked code none starved same = record {
  result = OutOfMemory;
  code_is = starved;
  run = subst (λ d. IsRun asked OutOfMemory (outside before) (outside d)) (sym same)
      (starved_run asked (outside before) (outside before) none refl refl);
}

pub exit_by : {X Y D : Type 0} (outside : D → Outside) (before after : D) (words : Result X Y) (texts_of : X
    → List Text) (these : List Text)
    (asked : Option Asked) (code : ℕ) → NoneAttached (outside before).attached
    → IfOk words (λ x. IsExit (command_of (texts_of x)) code (outside before) (outside after))
    → OnErr words (code ≡ code_of OutOfMemory) → OnErr words (after ≡ before)
    → IfOk words (λ x. texts_of x ≡ these) → command_of these ≡ asked
    → IsExit asked code (outside before) (outside after)
exit_by outside before after (Ok x) texts_of these asked code none run starved same are is =
    subst (λ (o : Option Asked). IsExit o code (outside before) (outside after)) (ap command_of are ∙ is) run
exit_by outside before after (Err e) texts_of these asked code none run starved same are is =
    exit_starved outside before after asked code none starved same
