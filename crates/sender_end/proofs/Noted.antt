-- Feedback that the selector notes.
use Rattle.std.proofs.Common.{◌≡◌, ℕ, ◌+◌, ◌%◌, ◌<◌, ◌≤◌, Bool, false, ◌||◌, List, Some, Ok, refl, sym, ap, ◌∙◌, subst, get_or}
use Rattle.std.specs.Result.{result_ok}
use Rattle.h263_planes.specs.Picture.{Picture}
use Rattle.reference_selector.specs.declared.Selector.{Selector}
use Rattle.reference_selector.specs.Stands.{SelectorStands}
use Rattle.call_model.specs.Coding as call
use Rattle.call_model.specs.CodedPictures.{is_among}
use Rattle.call_model.specs.Sending.{known_by_feedback}
use Rattle.call_model.specs.Stands.{Sender}
use Rattle.call_model.specs.SenderStanding.{IsAfterFeedback}
use Rattle.call_decoding.specs.Rules.{rules_of}
use Rattle.call_encoding.specs.Messages.{read_message}
use Rattle.sender_end.specs.Stands.{IsSeen}
use Rattle.sender_end.specs.State.{SenderState}
use Rattle.sender_end.proofs.Keeping.{own_known}

-- what is kept after it
pub record IsNoted {P : Type 0} (old : SenderState P) (bytes : List ℕ) (selector : Selector) (s : Sender Picture) : Type
    0 where
  pub t : Sender Picture
  pub seen : IsSeen (record old { selector = selector }) t
  pub after : IsAfterFeedback (rules_of old.params) s t (known_by_feedback (rules_of old.params) s.sent
      (result_ok (read_message old.params.clock bytes)))

pub noted : {P : Type 0} (old : SenderState P) (bytes : List ℕ) (s : Sender Picture) → IsSeen old s
    → (message : call.Message) → read_message old.params.clock bytes ≡ Ok message → (selector : Selector)
    → ((depth : ℕ → ℕ) (known : ℕ → Bool) → SelectorStands (rules_of old.params) old.selector old.sent depth known
    → SelectorStands (rules_of old.params) selector old.sent depth
    (λ m. is_among (known_by_feedback (rules_of old.params) old.sent (Some message)) m || known m))
    → IsNoted old bytes selector s
noted old bytes s seen message read selector notes =
    let p = old.params in
    let stands = notes (λ m. s.depth (m % p.slots)) (λ m. s.known (m % p.slots)) seen.selects in
    let numbers : known_by_feedback (rules_of p) s.sent (result_ok (read_message p.clock bytes))
    ≡ known_by_feedback (rules_of p) old.sent (Some message) =
    (λ i. known_by_feedback (rules_of p) (seen.sent i) (result_ok (read i)))
    in
    record {
      t = record s { known = λ rest. get_or selector.known rest false };
      seen = record {
        sent = seen.sent;
        sequence = seen.sequence;
        packets = seen.packets;
        sizes = seen.sizes;
        picture = seen.picture;
        selects = own_known (rules_of p) selector old.sent _ _ stands;
      };
      after = record {
        sent = refl;
        sequence = refl;
        packets = refl;
        sizes = refl;
        picture = λ rest below. refl;
        depth = λ rest below. refl;
        known = λ m below last.
            stands.known_is m (subst (λ (n : ℕ). m < n) seen.sent below)
            (subst (λ (n : ℕ). n ≤ m + p.slots) seen.sent last)
            ∙ ap (λ (l : List ℕ). is_among l m || s.known (m % p.slots)) (sym numbers);
      };
    }
