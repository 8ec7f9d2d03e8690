-- What an audit stands for after one entry more.
use Rattle.std.proofs.Common.{◌∙◌, ap, None, ◌≡◌, ℕ, sym, subst, Some, Option, List, ◌∷◌, Ok, Result}
use Rattle.h263_bits.specs.declared.fault.Fault.{Fault}
use Rattle.h263_types.specs.declared.blocks.Mb.{Mb}
use Rattle.h263_types.specs.declared.params.Params.{Params}
use Rattle.call_model.specs.Coding as call
use Rattle.call_decoding.specs.Styles.{Style}
use Rattle.receiver_end.specs.Decoding.{decoding}
use Rattle.stream_audit.specs.declared.kept.Kept.{Kept}
use Rattle.stream_audit.specs.declared.verdict.Broken.{Broken}
use Rattle.stream_audit.specs.Logs.{broken_by_on, broken_in_on, first_broken_on, stream_on}
use Rattle.stream_audit.specs.State.{IsPacketJudged, AuditKeeps, StandsForLog}
use Rattle.stream_audit.specs.Stream.{Feedback, Fed, LogEntry, Sent, items_with_bytes}
use Rattle.stream_audit.specs.Verdict.{first_broken_of}
use Rattle.stream_audit.proofs.Lists.{not_none}

pub none_left : (b : Broken) (o : Option Broken) → o ≡ Some b → o ≡ None → ⊥
none_left b o e f = not_none b (sym e ∙ f)

-- after a broken rule nothing changes
pub stays_broken : (k : Kept) (past : List LogEntry) (e : LogEntry) (b : Broken) → k.broken ≡ Some b
    → StandsForLog k past
    → StandsForLog k (e ∷ past)
stays_broken k past e b is stands = record {
  broken =
      is
      ∙ ap (λ (o : Option Broken). first_broken_of o (broken_in_on k.params (stream_on k.params past) e)) (sym is
      ∙ stands.broken);
  keeps = λ none. absurd (none_left b k.broken is none);
}

module _ (k : Kept) (past : List LogEntry) (stands : StandsForLog k past) (going : k.broken ≡ None) where
  -- where no rule was broken before, the new entry decides
  first_is : (e : LogEntry) → first_broken_on k.params (e ∷ past) ≡ broken_in_on k.params (stream_on k.params past) e
  first_is e =
      ap (λ (o : Option Broken). first_broken_of o (broken_in_on k.params (stream_on k.params past) e))
      (sym stands.broken
      ∙ going)

  pub judged : (new : Kept) (bytes : List ℕ) (q : call.Piece Style Mb) → new.params ≡ k.params
      → (decoding k.params.format).read bytes ≡ Ok q
      → IsPacketJudged k.params (stream_on k.params past) (record { bytes = bytes; piece = q }) new
      → StandsForLog new (Sent bytes ∷ past)
  judged new bytes q same read is = record {
    broken = is.broken
        ∙ sym (first_is (Sent bytes) ∙ ap (broken_by_on k.params (stream_on k.params past)) read)
        ∙ ap (λ (p : Params). first_broken_on p (Sent bytes ∷ past)) (sym same);
    keeps = λ none.
        subst (λ (p : Params). AuditKeeps new (stream_on p (Sent bytes ∷ past))) (sym same)
        (subst (λ (r : Result (call.Piece Style Mb) Fault). AuditKeeps new (items_with_bytes (decoding k.params.format)
        (stream_on k.params past) bytes r)) (sym read) (is.keeps none));
  }

  pub fed : (new : Kept) (bytes : List ℕ) → new.params ≡ k.params → new.broken ≡ k.broken
      → (AuditKeeps k (stream_on k.params past) → AuditKeeps new (Feedback bytes ∷ stream_on k.params past))
      → StandsForLog new (Fed bytes ∷ past)
  fed new bytes same broken keeps = record {
    broken = broken ∙ going
        ∙ sym (first_is (Fed bytes))
        ∙ ap (λ (p : Params). first_broken_on p (Fed bytes ∷ past)) (sym same);
    keeps = λ none.
        subst (λ (p : Params). AuditKeeps new (stream_on p (Fed bytes ∷ past))) (sym same) (keeps (stands.keeps going));
  }
