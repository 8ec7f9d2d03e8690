-- What is written of a picture that is shown.
use Rattle.std.specs.Prelude.{ℕ, List, [], ◌∷◌, Option, Some}
use Rattle.h263_planes.specs.Picture.{Picture}
use Rattle.h263_outside.specs.declared.desk.Role.{Role}
use Rattle.h263_outside.specs.declared.desk.Role.TheVariants.{Report}
use Rattle.y4m.specs.Text.{frame_text}
use Rattle.call_report.specs.Text.{picture_text}
use Rattle.call_model.specs.Coding.{Shown}
use Rattle.receiver_end.specs.Answers.{mark_from}
use Rattle.desk_program.specs.Texts.{no_texts, on, then_also}
use Rattle.call_command.specs.declared.show.Row.{Row}

-- the picture with its mark on the output that it goes to, and the line that tells its reference besides
abbrev pub row_texts : Row → Picture → Role → List ℕ
row_texts row picture =
    then_also (on row.role (frame_text row.mark picture))
    (on Report (picture_text row.number (Some row.mark) (Some row.reference) row.letter))

-- the picture n that was shown, where it goes to this output, and its line has this letter or none
abbrev pub shown_texts : Role → Option ℕ → ℕ → Option ℕ → Shown Picture → Role → List ℕ
shown_texts role letter n reference shown =
    then_also (on role (frame_text (mark_from shown.mark) shown.picture))
    (on Report (picture_text n (Some (mark_from shown.mark)) (Some reference) letter))

-- that of the newest play
abbrev pub newest_texts : Role → Option ℕ → ℕ → Option ℕ → List (Shown Picture) → Role → List ℕ
newest_texts role letter n reference [] = no_texts
newest_texts role letter n reference (shown ∷ plays) = shown_texts role letter n reference shown
