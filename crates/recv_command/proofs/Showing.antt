-- A picture that is shown, up to a write that failed.
use Rattle.std.proofs.Common.{◌≡◌, ℕ, List, Option, Some, None, Result, Ok, Err, OnErr, subst}
use Rattle.h263_outside.specs.declared.desk.Role.{Role}
use Rattle.h263_outside.specs.declared.desk.Role.TheVariants.{Pictures, Report}
use Rattle.h263_types.specs.declared.Mark.{Mark}
use Rattle.h263_planes.specs.Picture.{Picture}
use Rattle.y4m.specs.Text.{frame_text}
use Rattle.call_report.specs.Text.{picture_text}
use Rattle.desk_program.specs.Ends.{Gains, GainsFronts}
use Rattle.desk_program.specs.Laws.{TurnLaws}
use Rattle.desk_program.specs.Texts.{on, then_also}
use Rattle.call_model.specs.Coding.{Message}
use Rattle.recv_command.specs.Said.{said_message_text, shown_play_text}

-- what holds holds where a call failed
pub on_err : {T E : Type 0} {P : Type 0} (r : Result T E) → P → OnErr r P
on_err (Ok x) p = tt
on_err (Err e) p = p

module _ (laws : TurnLaws) (number : ℕ) (mark : Mark) (picture : Picture) (message : Option Message) where
  pub cut_picture : (old a : Role → Option (List ℕ)) → GainsFronts (on Pictures (frame_text mark picture)) old a
      → GainsFronts (shown_play_text number mark picture message) old a
  cut_picture old a p =
      laws.front_of_first (on Pictures (frame_text mark picture))
      (then_also (on Report (picture_text number (Some mark) None None)) (said_message_text message)) old a p

  module _ (old a b : Role → Option (List ℕ)) (shown : Gains (on Pictures (frame_text mark picture)) old a)
      (text : List ℕ) (is : text ≡ picture_text number (Some mark) None None) where
    pub cut_line : GainsFronts (on Report text) a b → GainsFronts (shown_play_text number mark picture message) old b
    cut_line p =
        laws.front_of_second (on Pictures (frame_text mark picture))
        (then_also (on Report (picture_text number (Some mark) None None)) (said_message_text message)) old a b shown
        (laws.front_of_first (on Report (picture_text number (Some mark) None None)) (said_message_text message) a b
        (subst (λ (l : List ℕ). GainsFronts (on Report l) a b) is p))

    pub cut_message : (c : Role → Option (List ℕ)) → Gains (on Report text) a b
        → GainsFronts (said_message_text message) b c
        → GainsFronts (shown_play_text number mark picture message) old c
    cut_message c p q =
        laws.front_of_second (on Pictures (frame_text mark picture))
        (then_also (on Report (picture_text number (Some mark) None None)) (said_message_text message)) old a c shown
        (laws.front_of_second (on Report (picture_text number (Some mark) None None)) (said_message_text message) a b c
        (subst (λ (l : List ℕ). Gains (on Report l) a b) is p) q)

-- the text of equal parts
pub shown_same : {number number' : ℕ} {mark mark' : Mark} {picture picture' : Picture} (message : Option Message)
    → number ≡ number' → mark ≡ mark' → picture ≡ picture'
    → shown_play_text number mark picture message ≡ shown_play_text number' mark' picture' message
shown_same message numbers marks pictures = λ i. shown_play_text (numbers i) (marks i) (pictures i) message
