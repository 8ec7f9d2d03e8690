-- Before the first line.
use Rattle.std.proofs.Common.{◌≡◌, ℕ, ◌+◌, ◌*◌, ◌^◌, ◌<◌, ◌≤◌, List, [], length, Option, Result, Ok, Err, sym, ap, subst, ◌∙◌, arith}
use Rattle.std.specs.Prelude.{IfErr, IsErrAnd}
use Rattle.h263_outside.specs.Desk.{Outside}
use Rattle.h263_outside.specs.declared.desk.Role.{Role}
use Rattle.call_report.specs.declared.status.Status.{Status}
use Rattle.desk_program.specs.Ends.{HasEnded, silent}
use Rattle.desk_program.specs.Run.{Run}
use Rattle.loss_trace.specs.declared.event.Event.{Event as Line}
use Rattle.h263_types.specs.Clocks as clocks
use Rattle.h263_types.specs.Params.{IsParams}
use Rattle.h263_types.specs.Sizes.{size_of_picture}
use Rattle.make_input.specs.Trace.{made_trace}
use Rattle.sender_end.specs.Stands as sender_end
use Rattle.one_way.specs.Both.{steady}
use Rattle.one_way.specs.Laws.{WayLaws}
use Rattle.one_way.specs.Way.{IsNewNetwork, way_of}
use Rattle.demo_command.specs.declared.demo.Demo.{Demo}
use Rattle.demo_command.specs.declared.terms.DemoTerms.{DemoTerms}
use Rattle.demo_command.specs.Machine.{AreInPlace, LineReady}
use Rattle.demo_command.proofs.Lines.{made_in_place, made_lines_few}

pub ready_first : (m : Demo) → WayLaws m.terms.params → IsParams m.terms.params
    → IsNewNetwork m.terms.params (clocks.period_of m.terms.params.clock) m.network
    → length m.frame.items ≡ size_of_picture m.terms.params.format → m.both.sender.params ≡ m.terms.params
    → sender_end.PacedStands (steady m.terms.params) m.both.sender [] → m.both.sender.pace.quant ≡ m.terms.params.quant
    → m.both.sender.sent ≡ 0 → m.both.receiver.played ≡ 0 → LineReady m
ready_first m laws in_range new frame sender_params sends quant sent played =
    let way = new.way_is in
    record {
      params = in_range;
      frame = frame;
      sender_params = sender_params;
      can = laws.can (clocks.period_of m.terms.params.clock) (way_of m.network) m.both.sender in_range way sender_params
          sends quant sent;
      period = way.period;
      few = omega (arith, sent);
      counted = way.total ∙ sym played;
    }

pub first_in_place : (t : DemoTerms) (sent : ℕ) (lines : List Line) → t.frames ≤ 10000 → sent ≡ 0
    → lines ≡ made_trace t.seed t.frames → AreInPlace 10000 sent lines
first_in_place t sent lines few none is =
    subst (λ (n : ℕ). AreInPlace 10000 n lines) (sym none) (subst (λ (l : List Line). AreInPlace 10000 0 l) (sym is)
    (made_in_place t.seed t.frames few))

pub first_said : (t : DemoTerms) (said : ℕ) (lines : List Line) → t.frames ≤ 10000 → said ≡ 0
    → lines ≡ made_trace t.seed t.frames → said + 400 * length lines < 2 ^ 64
first_said t said lines few none is =
    let long : length lines ≡ length (made_trace t.seed t.frames) = ap (λ (l : List Line). length l) is in
    omega (arith, few, none, long, made_lines_few t.seed t.frames)

pub first_plays : (t : DemoTerms) (played : ℕ) (lines : List Line) → t.frames ≤ 10000 → played ≡ 0
    → lines ≡ made_trace t.seed t.frames → played + length lines ≤ 2 ^ 20
first_plays t played lines few none is =
    let long : length lines ≡ length (made_trace t.seed t.frames) = ap (λ (l : List Line). length l) is in
    omega (arith, few, none, long, made_lines_few t.seed t.frames)

-- a start that found no memory
pub ends_starved : {Machine : Type 0} (r : Result Machine Status) (status : Status) (run : Run) (inputs : Role
    → List ℕ) (start : Role → Option (List ℕ)) (now : Outside)
    → IsErrAnd r (λ x. x ≡ status) → HasEnded run silent status inputs start now
    → IfErr r (λ x. HasEnded run silent x inputs start now)
ends_starved (Ok m) status run inputs start now is ended = absurd is
ends_starved (Err x) status run inputs start now is ended =
    subst (λ (y : Status). HasEnded run silent y inputs start now) (sym is) ended
