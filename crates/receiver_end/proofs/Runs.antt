-- What a receiver answers and says is what its run does.
use Rattle.std.proofs.Common.{◌≡◌, ℕ, false, List, ◌∷◌, Option, Result, Ok, Err, refl, ap, sym, ◌∙◌, subst}
use Rattle.h263_bits.specs.declared.fault.Fault.{Fault}
use Rattle.h263_types.specs.declared.blocks.Mb.{Mb}
use Rattle.packet_collector.specs.Packet.{PacketSlice, packet_at}
use Rattle.call_model.specs.Coding as call
use Rattle.call_model.specs.Receiving as runs
use Rattle.call_model.specs.ReceiverStanding.{HeardByKept, OtherPacketStands, PlayByKept, heard_by_kept, is_taking, mark_by_kept, message_by_kept}
use Rattle.call_decoding.specs.Rules.{rules_of}
use Rattle.call_decoding.specs.Styles.{Style}
use Rattle.receiver_end.specs.declared.kept.Kept.{Kept}
use Rattle.receiver_end.specs.declared.answers.Heard.{Heard}
use Rattle.receiver_end.specs.declared.answers.Heard.TheVariants as heards
use Rattle.receiver_end.specs.declared.answers.PacketFault.TheVariants as faults
use Rattle.receiver_end.specs.declared.answers.Played.{Played}
use Rattle.receiver_end.specs.Answers.{IsHeard, IsPlayed}
use Rattle.receiver_end.specs.Decoding.{decoding, with_piece}
use Rattle.receiver_end.specs.State.{Stands, run_of, seen}

module _ (r : Kept) (past : List runs.ReceiverEntry) (stands : Stands r past) where
  pub heard_ok : HeardByKept (decoding r.params.format) (rules_of r.params) → (bytes : List ℕ) (p : call.Piece Style Mb)
      → (decoding r.params.format).read bytes ≡ Ok p → (h : Heard)
      → IsHeard r.params.clock h (heard_by_kept (decoding r.params.format) (rules_of r.params) (seen r) (Ok p))
      → IsHeard r.params.clock h (runs.heard (decoding r.params.format) (rules_of r.params) (run_of r.params past)
      ((decoding r.params.format).read bytes))
  heard_ok law bytes p read h is =
      subst (IsHeard r.params.clock h) (ap (heard_by_kept (decoding r.params.format) (rules_of r.params) (seen r))
      (sym read) ∙ law (seen r) past bytes stands) is

  refused : (fault : Fault) → runs.heard (decoding r.params.format) (rules_of r.params) (run_of r.params past)
      (Err fault) ≡ runs.Refused fault
  unfolding runs.heard
  refused fault = refl

  pub heard_err : (bytes : List ℕ) (fault : Fault) → packet_at r.params.format bytes ≡ Err fault
      → IsHeard r.params.clock (heards.Refused (faults.Bytes fault)) (runs.heard (decoding r.params.format)
      (rules_of r.params) (run_of r.params past) ((decoding r.params.format).read bytes))
  heard_err bytes fault read =
      subst (IsHeard r.params.clock (heards.Refused (faults.Bytes fault)))
      (sym (ap (λ (x : Result PacketSlice Fault). runs.heard (decoding r.params.format) (rules_of r.params)
      (run_of r.params past) (with_piece x)) read ∙ refused fault)) refl

  untaken : (fault : Fault)
      → is_taking (heard_by_kept (decoding r.params.format) (rules_of r.params) (seen r) (Err fault)) ≡ false
  unfolding heard_by_kept
  untaken fault = refl

  pub stays_err : OtherPacketStands (decoding r.params.format) (rules_of r.params) → (bytes : List ℕ) (fault : Fault)
      → packet_at r.params.format bytes ≡ Err fault → Stands r (runs.Packet bytes ∷ past)
  stays_err law bytes fault read =
      law (seen r) past bytes stands
      (ap (λ (x : Result PacketSlice Fault). is_taking (heard_by_kept (decoding r.params.format) (rules_of r.params)
      (seen r) (with_piece x))) read ∙ untaken fault)

  pub played_so : PlayByKept (decoding r.params.format) (rules_of r.params) → (played : Played)
      → IsPlayed r.params.clock played (mark_by_kept (decoding r.params.format) (rules_of r.params) (seen r))
      (message_by_kept (decoding r.params.format) (rules_of r.params) (seen r))
      → IsPlayed r.params.clock played (runs.played_mark (decoding r.params.format) (rules_of r.params)
      (run_of r.params past)) (runs.played_message (decoding r.params.format) (rules_of r.params)
      (run_of r.params past))
  played_so law played is =
      let same = law (seen r) past stands in
      subst (λ (m : call.Mark). IsPlayed r.params.clock played m (runs.played_message (decoding r.params.format)
      (rules_of r.params) (run_of r.params past))) same.0
      (subst (λ (o : Option call.Message). IsPlayed r.params.clock played (mark_by_kept (decoding r.params.format)
      (rules_of r.params) (seen r)) o) same.2 is)
