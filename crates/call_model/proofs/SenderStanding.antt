-- A sender stands for the longer list after a capture and after feedback: it holds the list's run.
use Rattle.std.proofs.Common.{ℕ, sym, ap, ◌∙◌, subst, arith, inl, inr, List, [], ◌∷◌, length, length-append, eqb}
use Rattle.std.specs.Result.{result_ok}
use Rattle.std.proofs.lemmas.Bool.{or_cases, false≢true}
use Rattle.std.proofs.lemmas.List.Folds.{list_any-append}
use Rattle.call_model.specs.Coding.{Rules, Pictures, Encoding}
use Rattle.call_model.specs.CodedPictures.{Coded}
use Rattle.call_model.specs.Sending.{SenderEntry, Capture, Feedback, known_by_feedback, next_coded, sender_run}
use Rattle.call_model.specs.Stands.{Sender, SenderStands}
use Rattle.call_model.specs.SenderStanding.{IsAfterCapture, KnownWereSent, ReferenceByKept, NextByKept, NewSenderStands, CaptureStands, FeedbackStands, OtherFeedbackStands}
use Rattle.call_model.specs.Steering.{SenderHolds, HoldsItsRun}
use Rattle.call_model.specs.Lawful.{IsRules, IsEncoding}
use Rattle.call_model.proofs.Feedback.{feedback_below}
use Rattle.call_model.proofs.Forgetting.{no_floor}
use Rattle.call_model.proofs.Holding.{reference_held, next_above_nothing, next_is_steered, new_holds, capture_holds, feedback_holds, other_feedback_holds}

module _ {Frame Style Mb Picture MessageFault : Type 0} (pictures : Pictures Style Mb Picture)
    (encoding : Encoding Frame Style Mb Picture MessageFault) (rules : Rules) (ruled : IsRules rules) where
  pub known_were_sent : KnownWereSent pictures encoding rules
  known_were_sent pace [] m is = absurd (false≢true is)
  known_were_sent pace (Capture frame ∷ past) m is =
      let before = known_were_sent pace past m is in
      let longer = length-append (sender_run pictures encoding rules pace past).coded
      (next_coded pictures encoding rules pace frame (sender_run pictures encoding rules pace past).coded
      (sender_run pictures encoding rules pace past).known ∷ []) in
      omega (arith, before, longer)
  known_were_sent pace (Feedback bytes ∷ past) m is =
      let run = sender_run pictures encoding rules pace past in
      elim (or_cases _ _ (sym (list_any-append (λ x. eqb x m) (known_by_feedback rules (length run.coded)
      (result_ok (encoding.read_message bytes))) run.known) ∙ is)) [
        | inl new ↦ feedback_below rules ruled (length run.coded) m (result_ok (encoding.read_message bytes)) new
        | inr old ↦ known_were_sent pace past m old
      ]

  held : (pace : List ℕ → ℕ) (s : Sender Picture) (entries : List (SenderEntry Frame))
      → SenderStands pictures encoding rules pace s entries
      → SenderHolds pictures encoding rules s (sender_run pictures encoding rules pace entries)
  held pace s entries stands = record { keeps = stands; known = known_were_sent pace entries }

  pub holds_its_run : HoldsItsRun pictures encoding rules
  holds_its_run pace s entries = record { holds = held pace s entries; stands = λ holds. holds.keeps }

  pub reference_by_kept_is : ReferenceByKept pictures encoding rules
  reference_by_kept_is pace s entries stands = reference_held pictures encoding rules ruled s
      (sender_run pictures encoding rules pace entries) stands

  pub next_by_kept_is : NextByKept pictures encoding rules
  next_by_kept_is pace frame s entries stands =
      let run = sender_run pictures encoding rules pace entries in
      sym (next_above_nothing pictures encoding rules pace frame s)
      ∙ next_is_steered pictures encoding rules ruled pace frame s (record { run = run; since = 0 })
      (held pace s entries stands)
      ∙ ap (λ (known : List ℕ). next_coded pictures encoding rules pace frame run.coded known) (no_floor run.known)

  pub new_sender_stands : NewSenderStands pictures encoding rules
  new_sender_stands pace s sent sequence packets sizes =
      (new_holds pictures encoding rules ruled s sent sequence packets sizes).keeps

  pub capture_stands : IsEncoding pictures encoding rules → CaptureStands pictures encoding rules
  capture_stands encodes pace frame s t entries stands after =
      let run = sender_run pictures encoding rules pace entries in
      let x = next_coded pictures encoding rules pace frame run.coded run.known in
      (capture_holds pictures encoding rules ruled encodes s t run x (held pace s entries stands)
      (subst (λ (y : Coded Style Mb Picture). IsAfterCapture pictures encoding rules s t y)
      (next_by_kept_is pace frame s entries stands) after)).keeps

  pub feedback_stands : FeedbackStands pictures encoding rules
  feedback_stands pace bytes s t entries stands after =
      (feedback_holds pictures encoding rules ruled bytes s t (sender_run pictures encoding rules pace entries)
      (held pace s entries stands) after).keeps

  pub other_feedback_stands : OtherFeedbackStands pictures encoding rules
  other_feedback_stands pace bytes s entries stands is =
      (other_feedback_holds pictures encoding rules ruled bytes s (sender_run pictures encoding rules pace entries)
      (held pace s entries stands) is).keeps
