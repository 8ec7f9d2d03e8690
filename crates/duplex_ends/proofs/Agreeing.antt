-- What the ends of one way have done is what its ideal call says.
use Rattle.std.proofs.Common.{◌≡◌, ℕ, List, [], length, Some, ap, ◌∙◌, arith}
use Rattle.std.specs.Prelude.{slice_get}
use Rattle.h263_types.specs.declared.blocks.Mb.{Mb}
use Rattle.h263_types.specs.declared.params.Params.{Params}
use Rattle.h263_types.specs.Params.{IsParams}
use Rattle.h263_planes.specs.Picture.{Picture}
use Rattle.call_model.specs.CodedPictures.{Coded}
use Rattle.call_model.specs.IdealCall.{AllMayHappen, Deliver, MayHappen, NumberedMessage, Play}
use Rattle.call_model.specs.JoinedRun.{Joined, SaidMessage}
use Rattle.call_model.specs.Lawful.{IsPace}
use Rattle.call_model.specs.TwoStores.{Agree, told_of}
use Rattle.call_decoding.specs.Rules.{rules_of}
use Rattle.call_decoding.specs.Styles.{Style}
use Rattle.call_encoding.specs.Messages.{write_message}
use Rattle.coded_call.specs.Coding.{coding}
use Rattle.receiver_end.specs.declared.kept.Kept.{Kept}
use Rattle.call_encoding.specs.Frames.{Frame}
use Rattle.one_way.specs.declared.way.Way.{Way}
use Rattle.one_way.specs.Both.{State, both_after, steady}
use Rattle.one_way.specs.Laws.{CallLaws, NearLaws}
use Rattle.one_way.specs.Way.{HoldsWay, MayHappenNow}
use Rattle.duplex_call.specs.Duplex.{WayRun}
use Rattle.duplex_ends.specs.Ways.{call_by}
use Rattle.duplex_ends.proofs.Lists.{get_map}

pub steady_is : (p : Params) → IsParams p → IsPace (steady p)
steady_is p in_range sizes few = (omega (arith, in_range.quant_low), omega (arith, in_range.quant_high))

module _ (p : Params) (in_range : IsParams p) (laws : CallLaws p) (near_laws : NearLaws p) where
  module _ (way : Way) (sender : State) (receiver : Kept) (w : WayRun Frame)
      (h : HoldsWay p way sender receiver [] w.frames w.past) where
    abbrev both : Joined Style Mb Picture
    both = both_after p (steady p) w.frames [] w.past

    pub ideally : AllMayHappen (coding p) (rules_of p) (steady p) w.frames w.past
    ideally = (near_laws.near (steady p) w.frames w.past (steady_is p in_range)).1 h.near

    pub agree : Agree (coding p) (rules_of p) (call_by p w) both
    agree = (laws.follow (steady p) w.frames w.past (steady_is p in_range) ideally).agree

    -- an event that may happen by the ideal call may happen by what the ends have done
    pub delivers : (left n j : ℕ) → MayHappen (rules_of p) left (call_by p w) (Deliver n j)
        → MayHappenNow p [] w.frames w.past (Deliver n j)
    delivers left n j may =
        let coded = ap (λ (l : List (Coded Style Mb Picture)). length l) agree.pictures in
        (omega (arith, may.0, coded), omega (arith, may.1, agree.played))

    pub plays : (left : ℕ) → MayHappen (rules_of p) left (call_by p w) Play → MayHappenNow p [] w.frames w.past Play
    plays left may =
        let coded = ap (λ (l : List (Coded Style Mb Picture)). length l) agree.pictures in
        omega (arith, may, coded, agree.played)

    -- what was said with this number
    pub told_at : (k : ℕ) (note : NumberedMessage) → slice_get (call_by p w).said k ≡ Some note
        → slice_get both.said k ≡ Some (told_of write_message (rules_of p) note)
    told_at k note at =
        ap (λ (l : List SaidMessage). slice_get l k) agree.messages
        ∙ get_map (told_of write_message (rules_of p)) (call_by p w).said k note at
