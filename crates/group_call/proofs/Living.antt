-- The run of a receiver of a group, as its call has it.
use Rattle.std.proofs.Common.{◌≡◌, ℕ, List, [], ◌∷◌, ◌++◌, Option, Some, None, refl, sym, ap, ◌∙◌}
use Rattle.std.proofs.lemmas.List.{append-nil}
use Rattle.std.specs.Prelude.{slice_get}
use Rattle.std.specs.Option.{option_map_or}
use Rattle.h263_types.specs.declared.blocks.Mb.{Mb}
use Rattle.h263_types.specs.declared.params.Params.{Params}
use Rattle.h263_planes.specs.Picture.{Picture}
use Rattle.call_model.specs.CodedPictures.{Coded}
use Rattle.call_model.specs.IdealCall.{Source}
use Rattle.call_model.specs.JoinedRun.{SaidMessage, said_at_play, said_to}
use Rattle.call_model.specs.Receiving.{ReceiverRun, after_packet, after_play, heard}
use Rattle.call_model.specs.Sound.{received}
use Rattle.call_decoding.specs.Rules.{rules_of}
use Rattle.call_decoding.specs.Styles.{Style}
use Rattle.call_encoding.specs.Frames.{Frame}
use Rattle.call_encoding.specs.Messages.{write_message}
use Rattle.coded_call.specs.Coding.{coding}
use Rattle.receiver_end.specs.Decoding.{decoding}
use Rattle.receiver_end.specs.State.{run_of}
use Rattle.group_sender.specs.Hearing.{says_in}
use Rattle.group_sender.specs.InACall.{Arrives, ComesBack, Done, Lived, Plays, lived_events}
use Rattle.group_sender.specs.Running.{CaptureAll, FeedbackOf, JoinsAt, LeavesAt}
use Rattle.group_call.specs.Following.{view_lived}
use Rattle.group_call.specs.Viewing.{ViewerRun, coded_packets, view_packet}

module _ (p : Params) (source : Source Style Mb Picture) (coded : List (Coded Style Mb Picture)) where
  abbrev run_in : List (Lived Frame) → ReceiverRun Style Mb Picture
  run_in lived = received (decoding p.format) (rules_of p) source (λ _ n. coded_packets p coded n)
      (lived_events 0 lived)

  -- a packet, if there is one
  by_slot : (n : ℕ) (view : ViewerRun) (run : ReceiverRun Style Mb Picture) → run_of p view.entries ≡ run
      → (o : Option (List ℕ))
      → run_of p (option_map_or (view_packet p n view) o view).entries
      ≡ option_map_or (λ bytes. after_packet (decoding p.format) (rules_of p) bytes run) o run
  by_slot n view run same None = same
  by_slot n view run same (Some bytes) = ap (λ (r : ReceiverRun Style Mb Picture). after_packet (decoding p.format)
      (rules_of p) bytes r) same

  pub received_is : (lived : List (Lived Frame)) → run_of p (view_lived p coded lived).entries ≡ run_in lived
  received_is [] = refl
  received_is (Done (CaptureAll pace frame) ∷ past) = received_is past
  received_is (Done (FeedbackOf j bytes) ∷ past) = received_is past
  received_is (Done (JoinsAt j) ∷ past) = received_is past
  received_is (Done (LeavesAt j) ∷ past) = received_is past
  received_is (Arrives n j ∷ past) = by_slot n (view_lived p coded past) (run_in past) (received_is past)
      (slice_get (coded_packets p coded n) j)
  received_is (Plays ∷ past) = ap (λ (r : ReceiverRun Style Mb Picture). after_play (decoding p.format) (rules_of p) r)
      (received_is past)
  received_is (ComesBack i bytes ∷ past) = received_is past

  -- ---- what it says

  abbrev said_in : List (Lived Frame) → List SaidMessage
  said_in lived = says_in (coding p) (rules_of p) source (λ _ n. coded_packets p coded n) (lived_events 0 lived)

  -- a packet, if there is one
  told_slot : (n : ℕ) (view : ViewerRun) (run : ReceiverRun Style Mb Picture) (said : List SaidMessage)
      → run_of p view.entries ≡ run → view.told ≡ said → (o : Option (List ℕ))
      → (option_map_or (view_packet p n view) o view).told
      ≡ said ++ option_map_or (λ bytes. said_to write_message n
      (heard (decoding p.format) (rules_of p) run ((decoding p.format).read bytes))) o []
  told_slot n view run said same is None = is ∙ sym (append-nil said)
  told_slot n view run said same is (Some bytes) = λ i. is i ++ said_to write_message n
      (heard (decoding p.format) (rules_of p) (same i) ((decoding p.format).read bytes))

  pub told_is : (lived : List (Lived Frame)) → (view_lived p coded lived).told ≡ said_in lived
  told_is [] = refl
  told_is (Done (CaptureAll pace frame) ∷ past) = told_is past
  told_is (Done (FeedbackOf j bytes) ∷ past) = told_is past
  told_is (Done (JoinsAt j) ∷ past) = told_is past
  told_is (Done (LeavesAt j) ∷ past) = told_is past
  told_is (Arrives n j ∷ past) = told_slot n (view_lived p coded past) (run_in past) (said_in past) (received_is past)
      (told_is past) (slice_get (coded_packets p coded n) j)
  told_is (Plays ∷ past) =
      let received = received_is past in
      let told = told_is past in
      λ i. told i ++ said_at_play (coding p) (rules_of p) (received i)
  told_is (ComesBack i bytes ∷ past) = told_is past
