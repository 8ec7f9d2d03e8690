-- A step by both ends is that of the ideal call, where both show the same.
use Rattle.std.proofs.Common.{◌≡◌, ℕ, ◌+◌, ◌-◌, true, List, [], ◌∷◌, ◌++◌, length, Option, Some, None, Result, Ok, Err, refl, ap, ◌∙◌}
use Rattle.std.specs.Prelude.{nat_lt, if◌then◌else◌}
use Rattle.h263_outside.specs.declared.desk.Role.{Role}
use Rattle.h263_outside.specs.declared.desk.Role.TheVariants.{Video}
use Rattle.h263_planes.specs.Layout.{picture_of}
use Rattle.y4m.specs.declared.fault.Y4mFault.{Y4mFault}
use Rattle.y4m.specs.Frame.{next_frame, frame_size}
use Rattle.loss_trace.specs.declared.event.Event.{Event as Line}
use Rattle.loss_trace.specs.declared.event.Event.TheVariants as says
use Rattle.loss_trace.specs.declared.fault.TraceFault.TheVariants.{TooMany}
use Rattle.loss_trace.specs.Lines.{first_line}
use Rattle.loss_trace.specs.Reading.{event_in}
use Rattle.desk_program.specs.Run.{End, Step, Turn}
use Rattle.desk_program.specs.Run.Step.{Goes, Ends}
use Rattle.desk_program.specs.Texts.{no_texts, of}
use Rattle.call_model.specs.Refusals.{Refusal, first_refusal}
use Rattle.one_way.specs.Trace.{delivered}
use Rattle.call_model.specs.IdealCall.{Event, Send, Deliver, Play, Back, slices_at}
use Rattle.call_decoding.specs.Rules.{rules_of}
use Rattle.one_way.specs.Both.{bare}
use Rattle.call_command.specs.Call.{CallState, after_line, all_played, bad_line, by_call, by_ends, capture_step, event_step, frame_step, line_step, line_turn, play_texts, refusal_at, trace_step, unless_refused, video_step, with_frame, with_message, with_packet_delivered, with_whole_frame, with_next_play}
use Rattle.one_way.specs.Seen.{Seen}

abbrev goes : CallState → Turn → Step CallState
goes next turn = Goes next turn

abbrev ends : End → Step CallState
ends last = Ends last

-- both show the same of a state
abbrev Same : CallState → Type 0
Same s = by_ends s ≡ by_call s

unless_same : (s : CallState) (trace : List ℕ) (e : Event) (o : Option Refusal) (a b : Step CallState)
    → (o ≡ None → a ≡ b) → unless_refused (s.lines + 1) trace e o a ≡ unless_refused (s.lines + 1) trace e o b
unless_same s trace e None a b same = same refl
unless_same s trace e (Some r) a b same = refl

-- the first refusal by what is seen
abbrev refused_by : CallState → Event → Seen → Option Refusal
refused_by s e seen = first_refusal (rules_of s.params) (length seen.coded + 1) (length seen.coded) seen.played
    seen.abouts e

event_agrees : (s : CallState) (inputs : Role → List ℕ) (trace : List ℕ) (line : Line) → Same s
    → (refusal_at by_ends s Play ≡ None → Same (with_next_play s))
    → event_step by_ends s inputs trace line ≡ event_step by_call s inputs trace line
event_agrees s inputs trace says.Nothing same played = refl
event_agrees s inputs trace says.Send same played =
    ap (λ (seen : Seen). unless_refused (s.lines + 1) trace Send (refused_by s Send seen) (capture_step s trace
    (inputs Video))) same
event_agrees s inputs trace (says.Packet n j) same played =
    ap (λ (seen : Seen). unless_refused (s.lines + 1) trace (Deliver n j) (refused_by s (Deliver n j) seen)
    (goes (after_line (with_packet_delivered s n j) trace) (line_turn trace no_texts))) same
event_agrees s inputs trace (says.All n) same played =
    ap (λ (seen : Seen). unless_refused (s.lines + 1) trace (Deliver n 0) (refused_by s (Deliver n 0) seen)
    (goes (after_line (record s { past = delivered n (length (slices_at seen.coded n)) ++ s.past }) trace)
    (line_turn trace no_texts))) same
event_agrees s inputs trace (says.Back k) same played =
    ap (λ (seen : Seen). unless_refused (s.lines + 1) trace (Back k) (refused_by s (Back k) seen)
    (goes (after_line (with_message s k) trace) (line_turn trace no_texts))) same
event_agrees s inputs trace says.Play same played =
    unless_same s trace Play (refusal_at by_ends s Play) _ _
    (λ none. λ i. goes (after_line (with_next_play s) trace)
    (line_turn trace (play_texts (played none i) (same i).played)))
    ∙ ap (λ (seen : Seen). unless_refused (s.lines + 1) trace Play (refused_by s Play seen)
    (goes (after_line (with_next_play s) trace)
    (line_turn trace (play_texts (by_call (with_next_play s)) (by_call s).played))))
    same

line_agrees : (s : CallState) (inputs : Role → List ℕ) (trace : List ℕ) (o : Option Line) → Same s
    → (refusal_at by_ends s Play ≡ None → Same (with_next_play s))
    → line_step by_ends s inputs trace o ≡ line_step by_call s inputs trace o
line_agrees s inputs trace None same played = refl
line_agrees s inputs trace (Some line) same played = event_agrees s inputs trace line same played

pub trace_agrees : (s : CallState) (inputs : Role → List ℕ) (trace : List ℕ) → Same s
    → (refusal_at by_ends s Play ≡ None → Same (with_next_play s))
    → trace_step by_ends s inputs trace ≡ trace_step by_call s inputs trace
trace_agrees s inputs [] same played = ap (λ (seen : Seen). ends (all_played seen)) same
trace_agrees s inputs (b ∷ trace) same played =
    ap (λ (step : Step CallState). if nat_lt s.lines 16777216 then step else ends (bad_line (TooMany (s.lines + 1))))
    (line_agrees s inputs (b ∷ trace) (event_in (first_line (b ∷ trace))) same played)

frame_agrees : (s : CallState) (video : List ℕ) (r : Result (List ℕ) Y4mFault)
    → ((planes : List ℕ) → Same (with_frame s (bare (picture_of s.params.format planes)))
    × Same (with_whole_frame by_ends s planes))
    → frame_step by_ends s video r ≡ frame_step by_call s video r
frame_agrees s video (Ok planes) same =
    let sent = with_frame s (bare (picture_of s.params.format planes)) in
    let size = frame_size s.params.format video in
    let n = length s.frames in
    let passed : Seen → CallState =
    λ seen. with_next_play (record sent { past = delivered n (length (slices_at seen.coded n)) ++ sent.past }) in
    let step : CallState → Seen → Step CallState = λ next seen.
    goes (record next { at = s.at + size; more = s.more - 1 }) (record {
      taken = of Video size;
      whole = true;
      texts = play_texts seen n;
    })
    in
    ap (step (with_whole_frame by_ends s planes)) (same planes).1
    ∙ ap (λ (seen : Seen). step (passed seen) (by_call (passed seen))) (same planes).0
frame_agrees s video (Err fault) same = refl

pub video_agrees : (s : CallState) (video : List ℕ) → Same s
    → ((planes : List ℕ) → Same (with_frame s (bare (picture_of s.params.format planes)))
    × Same (with_whole_frame by_ends s planes))
    → video_step by_ends s video ≡ video_step by_call s video
video_agrees s [] same passed = ap (λ (seen : Seen). ends (all_played seen)) same
video_agrees s (b ∷ rest) same passed = frame_agrees s (b ∷ rest) (next_frame s.more s.params.format s.at (b ∷ rest))
    passed
