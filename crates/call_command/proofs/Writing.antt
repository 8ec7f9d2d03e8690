-- A picture and its line, written one after the other.
use Rattle.std.proofs.Common.{◌≡◌, ℕ, List, ◌∷◌, Option, None, Some, Result, Ok, Err, OnErr, ap, subst, ◌∙◌}
use Rattle.h263_types.specs.declared.params.Params.{Params}
use Rattle.h263_types.specs.declared.Mark.{Mark}
use Rattle.h263_planes.specs.Picture.{Picture}
use Rattle.h263_outside.specs.declared.desk.Role.{Role}
use Rattle.h263_outside.specs.declared.desk.Role.TheVariants.{Pictures, Report}
use Rattle.y4m.specs.Text.{frame_text}
use Rattle.call_report.specs.Text.{picture_text}
use Rattle.desk_program.specs.Ends.{Gains, GainsFronts}
use Rattle.desk_program.specs.Laws.{TurnLaws}
use Rattle.desk_program.specs.Texts.{on, then_also}
use Rattle.call_model.specs.IdealCall.{Event, Play}
use Rattle.call_model.specs.Receiving.{ReceiverEntry, played_mark}
use Rattle.call_decoding.specs.Rules.{rules_of}
use Rattle.call_encoding.specs.Frames.{Frame}
use Rattle.receiver_end.specs.Answers.{mark_from}
use Rattle.receiver_end.specs.Decoding.{decoding}
use Rattle.one_way.specs.Both.{both_after, steady}
use Rattle.one_way.specs.Seen.{in_both, reference_in}
use Rattle.call_command.specs.Call.{play_texts}
use Rattle.call_command.specs.declared.show.Row.{Row}
use Rattle.call_command.specs.Rows.{row_texts}

pub on_err : {T E P : Type 0} (r : Result T E) → P → OnErr r P
on_err (Ok x) p = tt
on_err (Err e) p = p

module _ (turns : TurnLaws) (row : Row) (picture : Picture) (old mid : Role → Option (List ℕ)) where
  abbrev shown : Role → List ℕ
  shown = on row.role (frame_text row.mark picture)

  abbrev line : List ℕ
  line = picture_text row.number (Some row.mark) (Some row.reference) row.letter

  pub first_front : GainsFronts shown old mid → GainsFronts (row_texts row picture) old mid
  first_front fronts = turns.front_of_first shown (on Report line) old mid fronts

  module _ (new : Role → Option (List ℕ)) (text : List ℕ) (text_is : text ≡ line) (first : Gains shown old mid) where
    pub both_gain : Gains (on Report text) mid new → Gains (row_texts row picture) old new
    both_gain gains =
        turns.both_texts shown (on Report line) old mid new first
        (subst (λ (l : List ℕ). Gains (on Report l) mid new) text_is gains)

    pub second_front : GainsFronts (on Report text) mid new → GainsFronts (row_texts row picture) old new
    second_front fronts =
        turns.front_of_second shown (on Report line) old mid new first
        (subst (λ (l : List ℕ). GainsFronts (on Report l) mid new) text_is fronts)

-- the row of a play that is told so
pub row_is : (p : Params) (before : List ReceiverEntry) (frames : List Frame) (past : List Event) (number : ℕ)
    (mark : Mark) (reference : Option ℕ) (picture : Picture) {played : ℕ}
    → number ≡ played → played ≡ (both_after p (steady p) frames before past).receiver.played
    → mark ≡ mark_from (played_mark (decoding p.format) (rules_of p)
    (both_after p (steady p) frames before past).receiver)
    → reference ≡ reference_in (both_after p (steady p) frames before past).sender.coded number
    → picture ≡ (both_after p (steady p) frames before (Play ∷ past)).receiver.screen
    → row_texts (record { role = Pictures; letter = None; number = number; mark = mark; reference = reference }) picture
    ≡ play_texts (in_both (both_after p (steady p) frames before (Play ∷ past))) played
row_is p before frames past number mark reference picture {played} number_is played_is mark_is reference_is shown =
    (λ i. then_also (on Pictures (frame_text (mark_is i) (shown i)))
    (on Report (picture_text number (Some (mark_is i)) (Some (reference_is i)) None)))
    ∙ ap (play_texts (in_both (both_after p (steady p) frames before (Play ∷ past)))) number_is
