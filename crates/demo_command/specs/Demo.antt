-- A call on made input: no file is read, no picture is written, and of the lines of its report there
-- is the one of the counts alone.
use Rattle.std.specs.Prelude.{ℕ, true, List, [], ◌∷◌, length, map, Some}
use Rattle.std.specs.List.{range_with_len}
use Rattle.h263_outside.specs.declared.desk.Role.{Role}
use Rattle.h263_outside.specs.declared.desk.Role.TheVariants.{Report}
use Rattle.h263_types.specs.declared.blocks.Mb.{Mb}
use Rattle.h263_planes.specs.Picture.{Picture}
use Rattle.h263_planes.specs.Given.{picture_with}
use Rattle.loss_trace.specs.declared.event.Event.{Event as Line}
use Rattle.call_report.specs.declared.status.Status.TheVariants.{Ok as Fine}
use Rattle.desk_program.specs.Run.{Turn, End, Step}
use Rattle.desk_program.specs.Run.Step.{Goes, Ends}
use Rattle.desk_program.specs.Texts.{no_bytes, no_texts, on}
use Rattle.make_input.specs.Expanded.{expanded, expanded_events, events_onto}
use Rattle.make_input.specs.Frames.{made_sample}
use Rattle.make_input.specs.Trace.{made_trace}
use Rattle.call_model.specs.Coding.{pictures_of}
use Rattle.call_model.specs.IdealCall.{Call, Event, encoded, ideal}
use Rattle.call_decoding.specs.Rules.{rules_of}
use Rattle.call_decoding.specs.Styles.{Style}
use Rattle.call_encoding.specs.Frames.{Frame}
use Rattle.coded_call.specs.Coding.{coding}
use Rattle.one_way.specs.Both.{bare, steady}
use Rattle.call_command.specs.Counts.{call_text}
use Rattle.one_way.specs.Seen.{in_call}
use Rattle.demo_command.specs.declared.terms.DemoTerms.{DemoTerms}

-- ---- the made input

-- frame n of the made video, which carries no messages
abbrev pub made_frame : DemoTerms → ℕ → Frame
made_frame t n = bare (picture_with t.params.format (made_sample t.seed n))

-- the frames of the made video
abbrev pub made_video : DemoTerms → List Frame
made_video t = map (made_frame t) (range_with_len 0 t.frames)

-- the ideal call of the made video after these events, the newest first
abbrev pub made_call : DemoTerms → List Event → Call Style Mb Picture
made_call t past = ideal (coding t.params) (rules_of t.params) (steady t.params) (made_video t) past

-- the events after those of a line, the newest first
abbrev pub with_made_line : DemoTerms → List Event → Line → List Event
with_made_line t past line = events_onto (expanded_events (made_call t past) line) past

-- the events of all these lines after others, the newest first
abbrev pub made_events : DemoTerms → List Event → List Line → List Event
made_events t past lines =
    expanded (pictures_of (coding t.params)) (rules_of t.params)
    (encoded (coding t.params) (rules_of t.params) (steady t.params) (made_video t)) past lines

-- ---- line by line

-- what was asked for, the events so far, newest first, and the lines of the made trace that are left
pub record DemoState : Type 0 where
  pub terms : DemoTerms
  pub past : List Event
  pub lines : List Line

-- a line is taken, and nothing is read or written
abbrev pub silent_turn : Turn
silent_turn = record { taken = no_bytes; whole = true; texts = no_texts }

-- after the last line the counts are told
abbrev pub all_done : DemoState → End
all_done s =
    record { status = Fine; taken = λ _. Some 0; texts = on Report (call_text (in_call (made_call s.terms s.past))) }

abbrev pub lines_step : DemoState → List Line → Step DemoState
lines_step s [] = Ends (all_done s)
lines_step s (line ∷ lines) =
    Goes (record { terms = s.terms; past = with_made_line s.terms s.past line; lines = lines }) silent_turn

abbrev pub demo_step : DemoState → (Role → List ℕ) → Step DemoState
demo_step s inputs = lines_step s s.lines

-- before the first line
abbrev pub demo_at_start : DemoTerms → DemoState
demo_at_start t = record { terms = t; past = []; lines = made_trace t.seed t.frames }

abbrev pub demo_begin : DemoTerms → (Role → List ℕ) → Step DemoState
demo_begin t inputs = Goes (demo_at_start t) silent_turn

-- each line is a turn
abbrev pub made_turns : DemoTerms → ℕ
made_turns t = length (made_trace t.seed t.frames)
