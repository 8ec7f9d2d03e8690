-- In a near call with a new receiver both ends show what the ideal call shows.
use Rattle.std.proofs.Common.{◌≡◌, ℕ, List, [], ◌∷◌, refl, ap, ◌∙◌}
use Rattle.std.specs.Prelude.{map}
use Rattle.h263_types.specs.declared.blocks.Mb.{Mb}
use Rattle.h263_types.specs.declared.params.Params.{Params}
use Rattle.h263_types.specs.Params.{IsParams}
use Rattle.h263_planes.specs.Picture.{Picture}
use Rattle.call_model.specs.Coding.{Message, Rules}
use Rattle.call_model.specs.IdealCall.{Event, AllMayHappen, NumberedMessage, Call, about, ideal}
use Rattle.call_model.specs.JoinedRun.{AllMayHappenBoth, Joined, SaidMessage}
use Rattle.call_model.specs.TwoStores.{Agree, told_of}
use Rattle.call_decoding.specs.Rules.{rules_of}
use Rattle.call_decoding.specs.Styles.{Style}
use Rattle.call_encoding.specs.Frames.{Frame}
use Rattle.coded_call.specs.Coding.{coding}
use Rattle.receiver_end.specs.State as receiver_end
use Rattle.one_way.specs.Both.{both_after, steady}
use Rattle.one_way.specs.Laws.{CallLaws, NearLaws, ShowTheSame}
use Rattle.one_way.specs.Seen.{in_both, in_call}
use Rattle.one_way.proofs.Passing.{steady_is}

-- what is told of notes is about their pictures
abouts_are : (write : Message → List ℕ) (rules : Rules) (notes : List NumberedMessage)
    → map (λ (told : SaidMessage). told.about) (map (told_of write rules) notes) ≡ map about notes
abouts_are write rules [] = refl
abouts_are write rules (note ∷ notes) = ap (λ (l : List ℕ). about note ∷ l) (abouts_are write rules notes)

module _ (p : Params) where
  seen_same : (c : Call Style Mb Picture) (both : Joined Style Mb Picture) → Agree (coding p) (rules_of p) c both
      → in_both both ≡ in_call c
  seen_same c both agree =
      let abouts : map (λ (told : SaidMessage). told.about) both.said ≡ map about c.said =
      ap (λ (l : List SaidMessage). map (λ (told : SaidMessage). told.about) l) agree.messages
      ∙ abouts_are (coding p).encoding.write_message (rules_of p) c.said
      in
      λ i. record { coded = agree.pictures i; played = agree.played i; plays = agree.plays i; abouts = abouts i }

  pub show_the_same : IsParams p → CallLaws p → NearLaws p → (frames : List Frame) (past : List Event)
      → AllMayHappenBoth (coding p) (rules_of p) (receiver_end.run_of p []) (steady p) frames past
      → ShowTheSame p frames past
  show_the_same in_range laws near_laws frames past near =
      let ideally : AllMayHappen (coding p) (rules_of p) (steady p) frames past =
      (near_laws.near (steady p) frames past (steady_is p in_range)).1 near in
      seen_same (ideal (coding p) (rules_of p) (steady p) frames past) (both_after p (steady p) frames [] past)
      (laws.follow (steady p) frames past (steady_is p in_range) ideally).agree
