-- The row of a picture that is played, and the counts of both parties.
use Rattle.std.proofs.Common.{◌≡◌, ℕ, List, Option, Some, sym, ap, subst, ◌∙◌}
use Rattle.h263_types.specs.declared.params.Params.{Params}
use Rattle.h263_types.specs.declared.Mark.{Mark}
use Rattle.h263_planes.specs.Picture.{Picture}
use Rattle.h263_outside.specs.declared.desk.Role.{Role}
use Rattle.h263_outside.specs.declared.desk.Role.TheVariants.{Pictures, Report}
use Rattle.y4m.specs.Text.{frame_text}
use Rattle.call_report.specs.Text.{picture_text}
use Rattle.desk_program.specs.Ends.{Gains, GainsFronts}
use Rattle.desk_program.specs.Laws.{TurnLaws}
use Rattle.desk_program.specs.Texts.{on, then_also}
use Rattle.call_model.specs.Coding.{Shown, pictures_of}
use Rattle.call_model.specs.IdealCall.{shown_last}
use Rattle.call_encoding.specs.Frames.{Frame}
use Rattle.coded_call.specs.Coding.{coding}
use Rattle.receiver_end.specs.Answers.{mark_from}
use Rattle.one_way.specs.Seen.{in_call, reference_in}
use Rattle.duplex_call.specs.declared.line.Party.{Party}
use Rattle.duplex_call.specs.Duplex.{WayRuns, with_play}
use Rattle.duplex_ends.specs.Laws.{AfterPlay}
use Rattle.duplex_ends.specs.Shown.{on_screen, shown_next}
use Rattle.duplex_ends.specs.Ways.{call_in, sides}
use Rattle.call_command.specs.Rows.{newest_texts, row_texts}
use Rattle.duplex_command.specs.Duplex.{letter_of, party_play_texts}

-- the row of a play that is told so
pub row_is : (p : Party → Params) (x : Party) (ways : WayRuns Frame) → AfterPlay p x ways
    → (letter number : ℕ) (mark : Mark) (reference : Option ℕ) (picture : Picture) → letter ≡ letter_of x
    → number ≡ (call_in p x ways).played → mark ≡ mark_from (shown_next p x ways).mark
    → reference ≡ reference_in (call_in p x ways).coded (call_in p x ways).played
    → picture ≡ on_screen p x (with_play (sides p) x ways)
    → row_texts (record {
      role = Pictures;
      letter = Some letter;
      number = number;
      mark = mark;
      reference = reference;
    }) picture
    ≡ party_play_texts Pictures x (in_call (call_in p x (with_play (sides p) x ways))) (call_in p x ways).played
row_is p x ways laws letter number mark reference picture letter_is number_is mark_is reference_is shown =
    let after = call_in p x (with_play (sides p) x ways) in
    let n = (call_in p x ways).played in
    let picture_is : picture ≡ (shown_next p x ways).picture = shown
    ∙ ap (λ (plays : List (Shown Picture)). shown_last (pictures_of (coding (p x))) plays) laws.plays in
    let told : reference ≡ reference_in after.coded n = reference_is
    ∙ ap (λ coded. reference_in coded n) (sym laws.coded) in
    (λ i. then_also (on Pictures (frame_text (mark_is i) (picture_is i)))
    (on Report (picture_text (number_is i) (Some (mark_is i)) (Some (told i)) (Some (letter_is i)))))
    ∙ sym (ap (λ (plays : List (Shown Picture)). newest_texts Pictures (Some (letter_of x)) n (reference_in after.coded
    n) plays)
    laws.plays)

-- ---- two lines of the report

module _ (turns : TurnLaws) (first second a b : List ℕ) (first_is : a ≡ first) (second_is : b
    ≡ second) (old mid new : Role → Option (List ℕ)) where
  abbrev both : Role → List ℕ
  both = then_also (on Report first) (on Report second)

  pub lines_cut : GainsFronts (on Report a) old mid → GainsFronts both old mid
  lines_cut fronts = turns.front_of_first (on Report first) (on Report second) old mid
      (subst (λ (l : List ℕ). GainsFronts (on Report l) old mid) first_is fronts)

  module _ (gained : Gains (on Report a) old mid) where
    abbrev before : Gains (on Report first) old mid
    before = subst (λ (l : List ℕ). Gains (on Report l) old mid) first_is gained

    pub lines_gain : Gains (on Report b) mid new → Gains both old new
    lines_gain gains = turns.both_texts (on Report first) (on Report second) old mid new before
        (subst (λ (l : List ℕ). Gains (on Report l) mid new) second_is gains)

    pub lines_front : GainsFronts (on Report b) mid new → GainsFronts both old new
    lines_front fronts = turns.front_of_second (on Report first) (on Report second) old mid new before
        (subst (λ (l : List ℕ). GainsFronts (on Report l) mid new) second_is fronts)
