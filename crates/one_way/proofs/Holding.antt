-- What an event leaves of a way.
use Rattle.std.proofs.Common.{◌≡◌, ℕ, suc, ◌+◌, ◌-◌, List, [], ◌∷◌, ◌++◌, length, Option, Some, refl, sym, ap, subst, ◌∙◌, arith}
use Rattle.std.specs.Prelude.{map, slice_get}
use Rattle.h263_types.specs.declared.blocks.Mb.{Mb}
use Rattle.h263_types.specs.declared.params.Params.{Params}
use Rattle.h263_types.specs.declared.Mark.{Mark}
use Rattle.h263_planes.specs.Picture.{Picture}
use Rattle.call_rings.specs.declared.sent_packets.SentPackets.{SentPackets}
use Rattle.call_rings.specs.Keeping as ring
use Rattle.call_model.specs.Coding.{Shown}
use Rattle.call_model.specs.CodedPictures.{Coded}
use Rattle.call_model.specs.IdealCall.{Event, Send, Deliver, Play, Back}
use Rattle.call_model.specs.JoinedRun.{EachEndRuns, Joined}
use Rattle.call_model.specs.Receiving.{ReceiverEntry, played_mark, played_shown}
use Rattle.call_model.specs.Sending as call
use Rattle.call_model.specs.Sending.{SenderRun}
use Rattle.call_decoding.specs.Rules.{rules_of}
use Rattle.call_decoding.specs.Styles.{Style}
use Rattle.call_encoding.specs.Encoding.{encoding}
use Rattle.call_encoding.specs.Frames.{Frame}
use Rattle.coded_call.specs.Coding.{coding}
use Rattle.receiver_end.specs.Answers.{mark_from}
use Rattle.receiver_end.specs.Decoding.{decoding}
use Rattle.receiver_end.specs.State as receiver_end
use Rattle.receiver_end.specs.declared.kept.Kept.{Kept}
use Rattle.one_way.specs.Both.{State}
use Rattle.one_way.specs.declared.references.References.{References}
use Rattle.one_way.specs.declared.tally.Tally.{Tally}
use Rattle.one_way.specs.declared.way.Way.{Way}
use Rattle.one_way.specs.Both.{AreJoined, both_after, next_of, steady}
use Rattle.one_way.specs.Counts.{AreCounted, tally_counted}
use Rattle.one_way.specs.References.{AreNoted}
use Rattle.one_way.specs.Network.{HasPackets, HasReferences}
use Rattle.one_way.specs.Way.{HoldsWay, MayHappenNow}
use Rattle.one_way.proofs.BothAfter.{coded_brought, plays_after, sender_after}
use Rattle.one_way.proofs.Joining.{coded_sent}
use Rattle.one_way.proofs.OneMore.{packets_are, sent_is}
use Rattle.one_way.proofs.Passing.{count_more}
use Rattle.one_way.proofs.Sent.{has_one_more, noted_more}

-- as many as before
pub as_many : {X Y : Type 0} (f : X → Y) (xs : List X) → length (map f xs) ≡ length xs
as_many f [] = refl
as_many f (x ∷ xs) = ap (λ (n : ℕ). suc n) (as_many f xs)

module _ (p : Params) (way : Way) (sender : State) (receiver : Kept) (before : List ReceiverEntry) (frames : List Frame)
    (past : List Event) (h : HoldsWay p way sender receiver before frames past) where
  abbrev both : List Event → Joined Style Mb Picture
  both events = both_after p (steady p) frames before events

  -- a packet is delivered, or none is there
  pub holds_packet : (new : Kept) (n j : ℕ) → MayHappenNow p before frames past (Deliver n j)
      → AreJoined p (steady p) sender new frames before (Deliver n j ∷ past)
      → HoldsWay p way sender new before frames (Deliver n j ∷ past)
  holds_packet new n j near joined =
      let w = both past in
      let o = slice_get (call.packets_at (encoding p) (rules_of p) w.sender.coded n) j in
      let begun = receiver_end.run_of p before in
      let sender_same = sender_after (coding p) (rules_of p) begun (steady p) frames w n o in
      record {
        joined = joined;
        near = (near, h.near);
        tally = subst (λ (l : List (Shown Picture)). AreCounted way.tally l)
            (sym (plays_after (coding p) (rules_of p) begun (steady p) frames w n o)) h.tally;
        packets = subst (λ (run : SenderRun Style Mb Picture). HasPackets p way.packets run.coded)
            (sym sender_same) h.packets;
        references = subst (λ (run : SenderRun Style Mb Picture). HasReferences way.references run.coded)
            (sym sender_same) h.references;
      }

  -- the next picture is played
  pub holds_play : (new : Kept) (tally : Tally) (mark : Mark) → MayHappenNow p before frames past Play
      → AreJoined p (steady p) sender new frames before (Play ∷ past)
      → tally ≡ tally_counted mark way.tally
      → mark ≡ mark_from (played_mark (decoding p.format) (rules_of p) (both past).receiver)
      → HoldsWay p (record way { tally = tally }) sender new before frames (Play ∷ past)
  holds_play new tally mark near joined tallied marked = record {
    joined = joined;
    near = (near, h.near);
    tally = subst (λ (x : Tally). AreCounted x (both (Play ∷ past)).plays) (sym tallied)
        (count_more mark way.tally (played_shown (decoding p.format) (rules_of p) (both past).receiver)
        (both past).plays marked h.tally);
    packets = h.packets;
    references = h.references;
  }

  -- a message comes back
  pub holds_message : (new : State) (k : ℕ) → MayHappenNow p before frames past (Back k)
      → AreJoined p (steady p) new receiver frames before (Back k ∷ past)
      → HoldsWay p way new receiver before frames (Back k ∷ past)
  holds_message new k near joined =
      let w = both past in
      let same = coded_brought (coding p) (rules_of p) (receiver_end.run_of p before) (steady p) frames w
      (slice_get w.said k) in
      record {
        joined = joined;
        near = (near, h.near);
        tally = h.tally;
        packets = subst (λ (coded : List (Coded Style Mb Picture)). HasPackets p way.packets coded)
            (sym same) h.packets;
        references = subst (λ (coded : List (Coded Style Mb Picture)). HasReferences way.references coded)
            (sym same) h.references;
      }

  -- the next picture is sent
  pub holds_send : EachEndRuns (coding p) (rules_of p)
      → (new : State) (f : Frame) (packets : SentPackets) (references : References)
      → MayHappenNow p before frames past Send → slice_get frames (length (both past).sender.coded) ≡ Some f
      → AreJoined p (steady p) new receiver frames before (Send ∷ past)
      → ((pictures : ring.PacketsOfPictures) → ring.HoldsPackets way.packets pictures
      → ring.HoldsPackets packets (pictures ++ new.packets ∷ []))
      → ((list : List (Option ℕ)) → AreNoted way.references list → length (both past).sender.coded ≡ length list
      → AreNoted references (list ++ (next_of p (steady p) f (both past)).reference ∷ []))
      → new.sent ≡ sender.sent + 1
      → HoldsWay p (record way { packets = packets; references = references }) new receiver before frames (Send ∷ past)
  holds_send runs new f packets references near at joined keeps notes one_more =
      let coded = (both past).sender.coded in
      let next = next_of p (steady p) f (both past) in
      let sent = sent_is p runs (steady p) sender receiver frames before past h.joined in
      let coded_is : (both (Send ∷ past)).sender.coded ≡ coded ++ next ∷ [] = coded_sent (coding p) (rules_of p)
      (steady p) frames (receiver_end.run_of p before) past f at in
      let number : new.sent - 1 ≡ length coded = omega (arith, one_more, sent) in
      let cut : new.packets ≡ call.packets_at (encoding p) (rules_of p) (coded ++ next ∷ []) (length coded) =
      packets_are p runs (steady p) new receiver frames before (Send ∷ past) joined
      ∙ (λ i. call.packets_at (encoding p) (rules_of p) (coded_is i) (number i))
      in
      let references_of = λ (x : Coded Style Mb Picture). x.reference in
      let noted : AreNoted references (map references_of (coded ++ next ∷ [])) =
      subst (λ (l : List (Option ℕ)). AreNoted references l) (sym (noted_more coded next))
      (notes (map references_of coded) h.references (sym (as_many references_of coded)))
      in
      record {
        joined = joined;
        near = (near, h.near);
        tally = h.tally;
        packets = subst (λ (l : List (Coded Style Mb Picture)). HasPackets p packets l) (sym coded_is)
            (has_one_more p way.packets packets coded next (new.packets) h.packets keeps cut);
        references = subst (λ (l : List (Coded Style Mb Picture)). HasReferences references l) (sym coded_is) noted;
      }
