-- A receiver after a packet.
use Rattle.std.proofs.Common.{◌≡◌, ℕ, ◌+◌, ◌≤◌, Bool, true, false, List, ◌∷◌, length, Some, Result, Ok, refl, ap, sym, ◌∙◌, subst}
use Rattle.std.specs.Prelude.{if◌then◌else◌}
use Rattle.h263_bits.specs.declared.fault.Fault.{Fault}
use Rattle.h263_types.specs.declared.blocks.Mb.{Mb}
use Rattle.h263_types.specs.declared.clock.Clock.{Clock}
use Rattle.h263_types.specs.declared.params.Params.{Params}
use Rattle.packet_collector.specs.declared.piece.Piece.{Piece}
use Rattle.call_model.specs.Coding as call
use Rattle.call_model.specs.Receiving as runs
use Rattle.call_model.specs.Sending.{nearest}
use Rattle.call_model.specs.Stands.{ReceiverStands}
use Rattle.call_model.specs.ReceiverStanding.{IsAfterSlice, OtherPacketStands, SliceStands, completes, heard_by_kept, is_taking}
use Rattle.call_decoding.specs.Rules.{rules_of}
use Rattle.call_decoding.specs.Styles.{Style}
use Rattle.receiver_end.specs.declared.kept.Kept.{Kept}
use Rattle.receiver_end.specs.declared.answers.Heard.{Heard}
use Rattle.receiver_end.specs.Answers.{IsHeard, takes}
use Rattle.receiver_end.specs.Decoding.{decoding}
use Rattle.receiver_end.specs.State.{Stands, seen}
use Rattle.receiver_end.specs.Steps.{IsPieceOf, ack_of, piece_in, taking}
use Rattle.receiver_end.proofs.AfterSlice.{run_long}

pub spelled : (piece : Piece) (mbs : List Mb) → piece.head.first + piece.head.count ≤ length mbs
    → IsPieceOf piece (piece_in piece mbs)
spelled piece mbs inside = record {
  header = refl;
  first = refl;
  count = run_long mbs piece.head.first piece.head.count inside;
}

-- an answer takes a packet where the run's does
pub takes_same : (clock : Clock) (h : Heard) (x : runs.Heard Fault) → IsHeard clock h x → takes h ≡ is_taking x
takes_same clock h (runs.Refused fault) is = ap takes is
takes_same clock h runs.OtherClock is = ap takes is
takes_same clock h runs.Late is = ap takes is
takes_same clock h runs.Early is = ap takes is
takes_same clock h runs.HeaderDiffers is = ap takes is
takes_same clock h runs.MissingReference is = ap takes is
takes_same clock h runs.Repeat is = ap takes is
takes_same clock h runs.Overlap is = ap takes is
takes_same clock h (runs.Completed message) is = ap takes is.1
takes_same clock h runs.Taken is = ap takes is

module _ (r : Kept) (past : List runs.ReceiverEntry) (bytes : List ℕ) (p : call.Piece Style Mb) (stands : Stands r past)
    (read : (decoding r.params.format).read bytes ≡ Ok p) where
  -- a packet that isn't taken
  pub stays : OtherPacketStands (decoding r.params.format) (rules_of r.params) → (h : Heard)
      → IsHeard r.params.clock h (heard_by_kept (decoding r.params.format) (rules_of r.params) (seen r) (Ok p))
      → takes h ≡ false → Stands r (runs.Packet bytes ∷ past)
  stays law h is none =
      law (seen r) past bytes stands
      (ap (λ (x : Result (call.Piece Style Mb) Fault). is_taking (heard_by_kept (decoding r.params.format)
      (rules_of r.params) (seen r) x)) read
      ∙ sym (takes_same r.params.clock h _ is) ∙ none)

  -- one that is
  pub moves : SliceStands (decoding r.params.format) (rules_of r.params) → (t : Kept) (n : ℕ) → t.params ≡ r.params
      → nearest (rules_of r.params) r.played p.header.number ≡ Some n
      → heard_by_kept (decoding r.params.format) (rules_of r.params) (seen r) (Ok p) ≡ taking r n p
      → IsAfterSlice (decoding r.params.format) (rules_of r.params) (seen r) (seen t) n p
      → Stands t (runs.Packet bytes ∷ past)
  moves law t n same near is after =
      subst (λ (q : Params). ReceiverStands (decoding q.format) (rules_of q) (seen t) (runs.Packet bytes ∷ past))
      (sym same)
      (law (seen r) (seen t) past bytes p n stands read near (ap is_taking is
      ∙ always (completes (decoding r.params.format) (rules_of r.params) (seen r) n p)) after)
    where
      always : (b : Bool) → is_taking {Fault = Fault}
          (if b then runs.Completed (ack_of r.params r.store n) else runs.Taken) ≡ true
      always true = refl
      always false = refl
