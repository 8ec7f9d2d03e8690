-- Known numbers are of pictures that were begun: a stream is the run of a sender that captured its
-- pictures and had its feedback.
use Rattle.std.proofs.Common.{◌∙◌, ap, ◌≡◌, ℕ, ◌<◌, true, refl, subst, arith, List, [], ◌∷◌, ◌++◌, length, length-append}
use Rattle.std.specs.Prelude.{Result}
use Rattle.std.specs.Result.{result_ok}
use Rattle.call_model.specs.Coding.{Rules, Message, Pictures, Encoding}
use Rattle.call_model.specs.CodedPictures.{is_among}
use Rattle.call_model.specs.Sending.{SenderRun, SenderEntry, Capture, known_by_feedback, next_coded, sender_run}
use Rattle.call_model.specs.Sending as sending
use Rattle.call_model.specs.SenderStanding.{KnownWereSent}
use Rattle.stream_audit.specs.Stream.{Item, Picture, Feedback, pictures_in, known_of}

module _ {Style Mb P MessageFault : Type 0} (pictures : Pictures Style Mb P) (read : List ℕ
    → Result Message MessageFault) (rules : Rules) where
  -- an encoding that reads messages so, and writes nothing
  abbrev pub reading : Encoding Style Style Mb P MessageFault
  reading = record {
    style = λ frame predicted depth quant. frame;
    choice = λ frame reference style. [];
    cut = λ style mbs. [];
    packets = λ n sequence header slices. [];
    write_message = λ message. [];
    read_message = read;
  }

  abbrev entries_of : List (Item Style Mb) → List (SenderEntry Style)
  entries_of [] = []
  entries_of (Picture p ∷ items) = Capture p.header.style ∷ entries_of items
  entries_of (Feedback bytes ∷ items) = sending.Feedback bytes ∷ entries_of items

  abbrev run_of : List (Item Style Mb) → SenderRun Style Mb P
  run_of items = sender_run pictures reading rules (λ sizes. 1) (entries_of items)

  as_run : (items : List (Item Style Mb)) → (pictures_in items ≡ length (run_of items).coded)
      × (known_of read rules items ≡ (run_of items).known)
  as_run [] = (refl, refl)
  as_run (Picture p ∷ items) =
      let before = as_run items in
      let run = run_of items in
      let more = length-append run.coded (next_coded pictures reading rules (λ sizes. 1) p.header.style run.coded
      run.known ∷ []) in
      (omega (arith, before.0, more), before.1)
  as_run (Feedback bytes ∷ items) =
      let before = as_run items in (
        before.0,
        ap (λ (n : ℕ). known_by_feedback rules n (result_ok (read bytes)) ++ known_of read rules items) before.0
            ∙ ap (λ (l : List ℕ). known_by_feedback rules (length (run_of items).coded) (result_ok (read bytes))
            ++ l) before.1,
      )

  pub known_below : KnownWereSent pictures reading rules → (items : List (Item Style Mb)) (m : ℕ)
      → is_among (known_of read rules items) m ≡ true → m < pictures_in items
  known_below law items m is =
      let run = as_run items in
      let below = law (λ sizes. 1) (entries_of items) m (subst (λ (l : List ℕ). is_among l m ≡ true) run.1 is) in
      omega (arith, below, run.0)
