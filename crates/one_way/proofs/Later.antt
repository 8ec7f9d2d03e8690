-- Frames after those that were sent change nothing of a way.
use Rattle.std.proofs.Common.{◌≡◌, ℕ, zero, suc, ◌<◌, List, [], ◌∷◌, ◌++◌, length, Option, refl, sym, ap, subst, ◌∙◌, arith}
use Rattle.std.specs.Prelude.{slice_get}
use Rattle.std.specs.Option.{option_map_or}
use Rattle.h263_types.specs.declared.blocks.Mb.{Mb}
use Rattle.h263_types.specs.declared.params.Params.{Params}
use Rattle.h263_planes.specs.Picture as planes
use Rattle.call_model.specs.Coding.{Coding, Rules}
use Rattle.call_model.specs.IdealCall.{Back, Deliver, Event, Play, Send}
use Rattle.call_model.specs.JoinedRun.{AllMayHappenBoth, Joined, MayHappenBoth, joined, receiver_entries, sender_entries, to_receiver, to_sender}
use Rattle.call_model.specs.LaterFrames.{LaterFramesBoth}
use Rattle.call_model.specs.Receiving.{ReceiverEntry, ReceiverRun}
use Rattle.call_model.specs.Sending.{Capture, SenderEntry}
use Rattle.call_decoding.specs.Rules.{rules_of}
use Rattle.call_decoding.specs.Styles as styles
use Rattle.call_encoding.specs.Frames as videos
use Rattle.coded_call.specs.Coding as coded
use Rattle.receiver_end.specs.State as receiver_end
use Rattle.receiver_end.specs.declared.kept.Kept.{Kept}
use Rattle.sender_end.specs.Stands as sender_end
use Rattle.one_way.specs.declared.way.Way.{Way}
use Rattle.one_way.specs.Both.{State, steady}
use Rattle.one_way.specs.Counts.{AreCounted}
use Rattle.one_way.specs.Network.{HasPackets, HasReferences}
use Rattle.one_way.specs.Way.{HoldsWay}

-- what stands at a place of the first list stands there in both together
get_before : {X : Type 0} (xs ys : List X) (k : ℕ) → k < length xs → slice_get (xs ++ ys) k ≡ slice_get xs k
get_before [] ys k few = absurd (omega (arith, few))
get_before (a ∷ xs) ys zero few = refl
get_before (a ∷ xs) ys (suc k) few = get_before xs ys k (omega (arith, few))

module _ {Frame Style Mb Picture Fault MessageFault : Type 0}
    (coding : Coding Frame Style Mb Picture Fault MessageFault) (rules : Rules)
    (law : LaterFramesBoth coding rules) (begun : ReceiverRun Style Mb Picture) (pace : List ℕ
    → ℕ) (frames later : List Frame) where
  first_same : (w : Joined Style Mb Picture) (e : Event) → MayHappenBoth coding rules frames w e
      → to_sender coding rules (frames ++ later) w e ≡ to_sender coding rules frames w e
  first_same w Send near = ap (λ (o : Option Frame). let first : List (SenderEntry Frame) =
      option_map_or (λ frame. Capture frame ∷ []) o [] in
      first) (get_before frames later (length w.sender.coded) near.0)
  first_same w (Deliver n j) near = refl
  first_same w Play near = refl
  first_same w (Back k) near = refl

  pub sent_same : (past : List Event) → AllMayHappenBoth coding rules begun pace frames past
      → sender_entries coding rules begun pace (frames ++ later) past
      ≡ sender_entries coding rules begun pace frames past
  sent_same [] near = refl
  sent_same (e ∷ past) near =
      let w = joined coding rules begun pace frames past in
      ap (λ (w : Joined Style Mb Picture). to_sender coding rules (frames ++ later) w e
      ++ sender_entries coding rules begun pace (frames ++ later) past) (law begun pace frames later past near.1).0
      ∙ ap (λ (l : List (SenderEntry Frame)). l ++ sender_entries coding rules begun pace (frames ++ later) past)
      (first_same w e near.0)
      ∙ ap (λ (l : List (SenderEntry Frame)). to_sender coding rules frames w e ++ l) (sent_same past near.1)

  pub heard_same : (past : List Event) → AllMayHappenBoth coding rules begun pace frames past
      → receiver_entries coding rules begun pace (frames ++ later) past
      ≡ receiver_entries coding rules begun pace frames past
  heard_same [] near = refl
  heard_same (e ∷ past) near =
      let w = joined coding rules begun pace frames past in
      ap (λ (w : Joined Style Mb Picture). to_receiver coding rules w e
      ++ receiver_entries coding rules begun pace (frames ++ later) past)
      (law begun pace frames later past near.1).0
      ∙ ap (λ (l : List ReceiverEntry). to_receiver coding rules w e ++ l) (heard_same past near.1)

-- a way holds for more frames
module _ (p : Params) (law : LaterFramesBoth (coded.coding p) (rules_of p)) (way : Way) (sender : State)
    (receiver : Kept) (before : List ReceiverEntry) (frames : List videos.Frame) (past : List Event) where
  pub holds_later : (later : List videos.Frame) → HoldsWay p way sender receiver before frames past
      → HoldsWay p way sender receiver before (frames ++ later) past
  holds_later later h =
      let begun = receiver_end.run_of p before in
      let both = law begun (steady p) frames later past h.near in
      record {
        joined = record {
          sender_params = h.joined.sender_params;
          receiver_params = h.joined.receiver_params;
          sends = subst (λ (l : List (SenderEntry videos.Frame)). sender_end.PacedStands (steady p) sender l)
              (sym (sent_same (coded.coding p) (rules_of p) law begun (steady p) frames later past h.near))
              h.joined.sends;
          receives = subst (λ (l : List ReceiverEntry). receiver_end.Stands receiver (l ++ before))
              (sym (heard_same (coded.coding p) (rules_of p) law begun (steady p) frames later past h.near))
              h.joined.receives;
        };
        near = both.1;
        tally = subst (λ (w : Joined styles.Style Mb planes.Picture). AreCounted way.tally w.plays)
            (sym both.0) h.tally;
        packets = subst (λ (w : Joined styles.Style Mb planes.Picture). HasPackets p way.packets w.sender.coded)
            (sym both.0) h.packets;
        references = subst (λ (w : Joined styles.Style Mb planes.Picture). HasReferences way.references w.sender.coded)
            (sym both.0) h.references;
      }
