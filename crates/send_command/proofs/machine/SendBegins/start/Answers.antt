-- The sender stands before its first picture, or the run ends by the video's fault or for want of memory.
use Rattle.std.proofs.Common.{◌≡◌, ℕ, ◌-◌, true, Bool, refl, sym, ap, ◌∙◌, subst, arith}
use Rattle.h263_outside.specs.declared.desk.Role.{Role}
use Rattle.h263_outside.specs.declared.desk.Role.TheVariants.{Video, Events, Wire, Report}
use Rattle.h263_types.specs.declared.params.Params.{Params}
use Rattle.h263_types.specs.Sizes.{size_of_picture}
use Rattle.call_report.specs.declared.status.Status.{Status}
use Rattle.call_report.specs.Status.{video_stop}
use Rattle.desk_program.specs.Run.{run_from}
use Rattle.desk_program.specs.Ends.{HasEnded, silent}
use Rattle.call_model.specs.Steering.{nothing_done}
use Rattle.send_command.specs.declared.machine.Send.{Send}
use Rattle.send_command.specs.Aimed.{aim_at_start}
use Rattle.send_command.specs.Send.{most_entries, send_begin, send_step}
use Rattle.send_command.specs.Stands.{SendStands}
use Rattle.send_command.specs.Tally.{IsOf, nothing_sent_counted}
use Rattle.send_command.proofs.Answering.{if_err, starved_cause}
use Rattle.send_command.proofs.Starting.{head_stops, head_goes}
use Rattle.send_command.proofs.machine.SendBegins.start.Goals as goal

pub returns-in_err-video-clause-ends : goal.returns-in_err-video-clause-ends
returns-in_err-video-clause-ends g c = λ inputs told.
    let old = g.D.Desk.outside c.args.desk.now in
    let new = g.D.Desk.outside c.head.new.desk in
    let setup = c.args.setup.now in
    let stop = c.in_err-video.field-0.0 in
    let first = send_begin setup inputs in
    if_err (λ (s : Status). HasEnded (run_from first send_step most_entries inputs) silent s inputs old.written new)
    c.from_residual.result (video_stop stop) c.from_residual.ensures.1
    (c.run_laws.ensures.gives_up first send_step most_entries inputs old new (video_stop stop)
    (head_stops c.turn_laws.ensures setup inputs old new told c.head.ensures.others c.head.ensures.rest.written
    c.cut_after.ensures.head stop (c.in_err-video.ensures.gives (inputs Video) (told Video refl))))

pub returns-clause-goes : goal.returns-clause-goes
returns-clause-goes g c = λ inputs told.
    let outside = g.D.Desk.outside in
    let setup = c.args.setup.now in
    let p = setup.params in
    let reader = c.in_ok-video.video in
    let started = c.in_ok-sender.ensures in
    let state = c.in_ok-sender.sender in
    let new : Send = record {
      video = reader;
      log = c.new.result;
      sender = c.in_ok-sender.sender;
      aim = c.start-aim.result;
      tally = c.new-2.result;
      frame = c.in_ok-frame.frame;
      bytes = c.in_ok-bytes.bytes;
    } in
    let e = c.in_ok-video.ensures.gives (inputs Video) (told Video refl) in
    let params_is : record p { format = reader.format } ≡ state.params =
    (λ i. record p { format = sym c.format.ensures i }) ∙ sym started.params
    in
    let aim_is : aim_at_start setup reader.format ≡ c.start-aim.result =
    (λ i. aim_at_start setup (sym c.format.ensures i)) ∙ sym c.start-aim.ensures.value
    in
    c.run_laws.ensures.begins new (send_begin setup inputs) send_step (λ _. true) most_entries inputs
    (outside c.args.desk.now) (outside c.head.new.desk) (ap (λ (n : ℕ). most_entries - n) c.new.ensures.entries)
    (head_goes c.turn_laws.ensures setup inputs (outside c.args.desk.now) (outside c.head.new.desk) told
    c.head.ensures.others c.head.ensures.rest.written reader (SendStands new) e
    (record {
      is = λ i. record {
        params = params_is i;
        sent = record { run = nothing_done; aim = aim_is i };
        tally = sym c.new-2.ensures i;
        at = sym c.new.ensures.at i;
        read = sym c.new.ensures.entries i;
        video_at = sym e.1 i;
        more = sym c.in_ok-video.ensures.more i;
      };
      sender = started.holds;
    }))

none_of : (n : ℕ) → IsOf n nothing_sent_counted
none_of n = record {
  sent = omega arith;
  packets = omega arith;
  noted = omega arith;
  outdated = omega arith;
  refused = omega arith;
}

pub returns-clause-ready : goal.returns-clause-ready
returns-clause-ready g c =
    let started = c.in_ok-sender.ensures in
    let attached = c.head.ensures.rest.attached in
    record {
      fit = record {
        video = ap (λ (f : Role → Bool). f Video) attached ∙ c.requires.video;
        events = ap (λ (f : Role → Bool). f Events) attached ∙ c.requires.events;
        wire = ap (λ (f : Role → Bool). f Wire) attached ∙ c.requires.wire;
        report = ap (λ (f : Role → Bool). f Report) attached ∙ c.requires.report;
        format = ap (λ (q : Params). q.format) started.params ∙ c.format.ensures;
        aim = c.start-aim.ensures.ready;
        frame = omega (
          arith,
          c.in_ok-frame.ensures.len,
          c.in_ok-frame.frame.ok.0,
          c.size.ensures,
          ap size_of_picture c.format.ensures,
        );
        bytes = omega (arith, c.in_ok-bytes.ensures.len, c.in_ok-bytes.bytes.ok.0);
        side = c.new.ensures.side;
        count = omega (arith, c.in_ok-video.ensures.more, started.sent);
      };
      tally = subst (IsOf c.new.result.entries) (sym c.new-2.ensures) (none_of c.new.result.entries);
    }

pub returns-in_err-sender-clause-cause : goal.returns-in_err-sender-clause-cause
returns-in_err-sender-clause-cause g c =
    let outside = g.D.Desk.outside in
    starved_cause c.from_residual-in_err-sender.result (outside c.args.desk.now).faults (outside c.head.new.desk).faults
    c.from_residual-in_err-sender.ensures.1 c.in_ok-video.ensures.ok_faults
