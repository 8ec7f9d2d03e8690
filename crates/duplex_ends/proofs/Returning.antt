-- The messages of a header come back one after the other.
use Rattle.std.proofs.Common.{◌≡◌, ℕ, List, [], ◌∷◌, length, Some, sym, ap, subst, ◌∙◌, arith}
use Rattle.std.specs.Prelude.{slice_get}
use Rattle.h263_types.specs.declared.blocks.Mb.{Mb}
use Rattle.h263_types.specs.declared.params.Params.{Params}
use Rattle.h263_planes.specs.Picture.{Picture}
use Rattle.call_model.specs.CodedPictures.{Coded}
use Rattle.call_model.specs.IdealCall.{Back, Event}
use Rattle.call_model.specs.JoinedRun.{SaidMessage}
use Rattle.call_decoding.specs.Styles.{Style}
use Rattle.call_encoding.specs.Frames.{Frame}
use Rattle.call_encoding.specs.Messages.{written_message}
use Rattle.receiver_end.specs.declared.kept.Kept.{Kept}
use Rattle.duplex_call.specs.declared.queue.Carried.{Carried}
use Rattle.duplex_call.specs.Duplex.{brought}
use Rattle.one_way.specs.declared.way.Way.{Way}
use Rattle.one_way.specs.Both.{State, both_after, steady}
use Rattle.one_way.specs.Laws.{EventLaws}
use Rattle.one_way.specs.Way.{HoldsWay, MayHappenNow}
use Rattle.duplex_ends.specs.Bringing.{IsReturning, MayReturnAll}

-- what one message that comes back owes
abbrev pub BringsBack : Params → Way → State → State → List ℕ → Type 0
BringsBack p way old new bytes =
    (receiver : Kept) (frames : List Frame) (past : List Event) (k : ℕ) (told : SaidMessage)
    → HoldsWay p way old receiver [] frames past
    → slice_get (both_after p (steady p) frames [] past).said k ≡ Some told
    → told.bytes ≡ bytes → MayHappenNow p [] frames past (Back k)
    → HoldsWay p way new receiver [] frames (Back k ∷ past)

module _ (p : Params) (events : EventLaws p) (way : Way) (receiver : Kept) (frames : List Frame) where
  -- a message that comes back leaves the others as they were
  still : (past : List Event) (k : ℕ) (ks : List ℕ) (messages : List Carried)
      → MayReturnAll p (both_after p (steady p) frames [] past) ks messages
      → MayReturnAll p (both_after p (steady p) frames [] (Back k ∷ past)) ks messages
  still past k [] [] may = may
  still past k (l ∷ ks) (m ∷ messages) may = (
    record {
      told = may.0.told;
      is = may.0.is;
      bytes = may.0.bytes;
      near = omega (
        arith,
        may.0.near,
        ap (λ (l : List (Coded Style Mb Picture)). length l)
            (events.message [] frames k past),
      );
    },
    still past k ks messages may.1,
  )
  still past k [] (m ∷ messages) may = absurd may
  still past k (l ∷ ks) [] may = absurd may

  -- the next one comes back
  pub one_back : (old new : State) (whole : List Event) (m : Carried) (messages : List Carried) (bytes : List ℕ)
      → bytes ≡ written_message m.message
      → BringsBack p way old new bytes
      → IsReturning p way old receiver frames whole (m ∷ messages)
      → IsReturning p way new receiver frames whole messages
  one_back old new whole m messages bytes is brings r = by_left r.left r.may r.same
    where
      by_left : (left : List ℕ) → MayReturnAll p (both_after p (steady p) frames [] r.past) left (m ∷ messages)
          → brought left r.past ≡ whole
          → IsReturning p way new receiver frames whole messages
      by_left [] may same = absurd may
      by_left (k ∷ ks) may same = record {
        past = Back k ∷ r.past;
        left = ks;
        holds = brings receiver frames r.past k may.0.told r.holds may.0.is (may.0.bytes
            ∙ sym is) (may.0.told, may.0.is, may.0.near);
        may = still r.past k ks messages may.1;
        same = same;
      }

  pub all_back : (sender : State) (whole : List Event) → IsReturning p way sender receiver frames whole []
      → HoldsWay p way sender receiver [] frames whole
  all_back sender whole r = by_left r.left r.may r.same
    where
      by_left : (left : List ℕ) → MayReturnAll p (both_after p (steady p) frames [] r.past) left []
          → brought left r.past ≡ whole → HoldsWay p way sender receiver [] frames whole
      by_left [] may same = subst (λ (past : List Event). HoldsWay p way sender receiver [] frames past) same r.holds
      by_left (k ∷ ks) may same = absurd may
