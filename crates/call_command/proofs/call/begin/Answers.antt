-- Each way out of the start: a refused video, a failed read or write, no memory, and a call that stands.
use Rattle.std.proofs.Common.{◌≡◌, ℕ, Bool, true, List, [], refl, sym, ap, subst, ◌∙◌}
use Rattle.h263_outside.specs.declared.desk.Role.{Role}
use Rattle.h263_outside.specs.declared.desk.Role.TheVariants.{Video, Events, Pictures, Report}
use Rattle.h263_types.specs.declared.format.Format.{Format}
use Rattle.y4m.specs.Text.{head_text}
use Rattle.call_report.specs.Status.{video_stop}
use Rattle.desk_program.specs.Ends.{Gains, GainsFronts}
use Rattle.desk_program.specs.Texts.{on}
use Rattle.call_command.specs.declared.begun.Begun.{Begun}
use Rattle.call_command.specs.Call.{CallState, call_begin, call_at_start, may_read, with_format}
use Rattle.call_command.specs.Converse.{IsCallStart}
use Rattle.call_command.proofs.Starting.{in_format}
use Rattle.call_command.proofs.FrameTurning.{cut_gives, head_cut, head_goes, head_stops, start_gives, starved_cause}
use Rattle.call_command.proofs.call.begin.Goals as goal

-- what was begun stands before the first event
abbrev begun_first : Begun → CallState → (Role → List ℕ) → Type 0
begun_first begun = IsCallStart begun.terms begun.video.at

pub returns-in_err-video-clause-gives : goal.returns-in_err-video-clause-gives
returns-in_err-video-clause-gives g c = λ inputs told.
    let outside = g.D.Desk.outside in
    let t = c.args.setup.now in
    start_gives c.from_residual.result (video_stop c.in_err-video.field-0.0) (call_begin t inputs) begun_first may_read
    inputs (outside c.args.desk.now) (outside c.head.new.desk) c.from_residual.ensures.1
    (head_stops c.turn_laws.ensures c.video_laws.ensures inputs (outside c.args.desk.now) (outside c.head.new.desk) told
    c.head.ensures.others c.head.ensures.rest.written t c.in_err-video.field-0.0
    (c.in_err-video.ensures.gives (inputs Video) (told Video refl)))

pub returns-in-Err-clause-gives : goal.returns-in-Err-clause-gives
returns-in-Err-clause-gives g c = λ inputs told.
    let outside = g.D.Desk.outside in
    let t = c.args.setup.now in
    let video = c.in_ok-video.video in
    let e = c.in_ok-video.ensures.gives (inputs Video) (told Video refl) in
    cut_gives c.in-Err.status (call_begin t inputs) true inputs (outside c.args.desk.now) (outside c.put_head.new.desk)
    c.in-Err.ensures.kind
    (head_cut c.turn_laws.ensures c.video_laws.ensures inputs (outside c.args.desk.now) (outside c.head.new.desk) told
    c.head.ensures.others c.head.ensures.rest.written
    (outside c.put_head.new.desk) c.put_head.ensures.rest.left t video.format e.0 e.2
    (subst (λ (f : Format). GainsFronts (on Pictures (head_text f)) (outside c.head.new.desk).written
    (outside c.put_head.new.desk).written) c.format.ensures c.in-Err.ensures.err))

pub returns-clause-gives : goal.returns-clause-gives
returns-clause-gives g c = λ inputs told.
    let outside = g.D.Desk.outside in
    let t = c.args.setup.now in
    let video = c.in_ok-video.video in
    let begun : Begun = record {
      terms = record t { params = record t.params { format = c.format.result } };
      video = video;
      both = c.in_ok-both.both;
    } in
    let e = c.in_ok-video.ensures.gives (inputs Video) (told Video refl) in
    head_goes c.turn_laws.ensures c.video_laws.ensures inputs (outside c.args.desk.now) (outside c.head.new.desk) told
    c.head.ensures.others c.head.ensures.rest.written
    (outside c.put_head.new.desk) c.put_head.ensures.rest.left t video.format e.0 e.2 (begun_first begun)
    (λ i. call_at_start (with_format t (sym c.format.ensures i)) [] (sym e.1 i))
    (subst (λ (f : Format). Gains (on Pictures (head_text f)) (outside c.head.new.desk).written
    (outside c.put_head.new.desk).written) c.format.ensures c.in_default.ensures.ok)

pub returns-clause-ready : goal.returns-clause-ready
returns-clause-ready g c =
    let outside = g.D.Desk.outside in
    let t = c.args.setup.now in
    let says = c.in_ok-both.ensures in
    let opens = c.requires in
    let still : (r : Role) → (outside c.put_head.new.desk).attached r ≡ (outside c.args.desk.now).attached r =
    λ r. ap (λ (attached : Role → Bool). attached r) (c.put_head.ensures.rest.attached ∙ c.head.ensures.rest.attached)
    in
    record {
      opens = record {
        params = in_format t.params c.format.result opens.params;
        video = still Video ∙ opens.video;
        events = λ recorded. still Events ∙ opens.events recorded;
        pictures = still Pictures ∙ opens.pictures;
        report = still Report ∙ opens.report;
      };
      format = sym c.format.ensures;
      frames = c.in_ok-video.ensures.more;
      sender_params = says.sender_params;
      receiver_params = says.receiver_params;
      quant = says.quant;
      sent = says.sent;
      sends = says.sends;
      played = says.played;
      receives = says.receives;
    }

pub returns-in_err-both-clause-cause : goal.returns-in_err-both-clause-cause
returns-in_err-both-clause-cause g c =
    let outside = g.D.Desk.outside in
    starved_cause c.from_residual-in_err-both.result (outside c.args.desk.now).faults (outside c.head.new.desk).faults
    c.from_residual-in_err-both.ensures.1 c.in_ok-video.ensures.ok_faults
