-- What a receiver shows and says, on its outputs.
use Rattle.std.specs.Prelude.{ℕ, List, Option, Some, None}
use Rattle.h263_outside.specs.declared.desk.Role.{Role}
use Rattle.h263_outside.specs.declared.desk.Role.TheVariants.{Pictures, Wire, Report}
use Rattle.h263_types.specs.declared.Mark.{Mark}
use Rattle.h263_planes.specs.Picture.{Picture}
use Rattle.y4m.specs.Text.{frame_text}
use Rattle.event_logs.specs.Text.{entry_text}
use Rattle.call_report.specs.Text.{picture_text}
use Rattle.desk_program.specs.Texts.{no_texts, on, then_also}
use Rattle.call_model.specs.Coding.{Message}
use Rattle.call_encoding.specs.Messages.{write_message}

-- a message is an entry B (66) of the wire
abbrev pub said_message_text : Option Message → Role → List ℕ
said_message_text None = no_texts
said_message_text (Some message) = on Wire (entry_text 66 (write_message message))

-- a picture is shown with its mark and its line, and a message is said of it, or none
abbrev pub shown_play_text : ℕ → Mark → Picture → Option Message → Role → List ℕ
shown_play_text number mark picture message =
    then_also (on Pictures (frame_text mark picture))
    (then_also (on Report (picture_text number (Some mark) None None)) (said_message_text message))
