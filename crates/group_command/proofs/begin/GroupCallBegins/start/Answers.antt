-- The video's head is read and every end stands, or the run ends as the first fault says.
use Rattle.std.proofs.Common.{◌≡◌, Bool, refl, sym, ap, subst, ◌∙◌}
use Rattle.h263_types.specs.declared.format.Format.{Format}
use Rattle.h263_types.specs.declared.params.Params.{Params}
use Rattle.h263_outside.specs.declared.desk.Role.{Role}
use Rattle.h263_outside.specs.declared.desk.Role.TheVariants.{Video}
use Rattle.call_report.specs.declared.status.Status.TheVariants.{OutOfMemory}
use Rattle.call_report.specs.Status.{video_stop}
use Rattle.desk_program.specs.Ends.{Gains, GainsFronts}
use Rattle.group_command.specs.Begin.{IsNewRoom}
use Rattle.group_command.specs.Group.{group_begin, group_call_run, group_step, viewers_heads, room_may_read, pictures_at}
use Rattle.group_command.specs.Standing.{GroupOpens}
use Rattle.group_command.proofs.Starting.{all_may_come, ends_so, head_stops, heads_cut, heads_go, in_format, ready_first, starved_cause}
use Rattle.group_command.proofs.begin.GroupCallBegins.start.Goals as goal
use Rattle.call_command.specs.Call.{most_lines}

pub write_heads-requires-clause-pictures : goal.write_heads-requires-clause-pictures
write_heads-requires-clause-pictures g c = λ k few. ap (λ (a : Role → Bool). a (pictures_at k))
    c.head.ensures.rest.attached ∙ c.requires.opens.pictures k few

pub returns-in_err-video-clause-ends : goal.returns-in_err-video-clause-ends
returns-in_err-video-clause-ends g c = λ inputs told.
    let outside = g.D.Desk.outside in
    let t = c.args.setup.now in
    let old = outside c.args.desk.now in
    let mid = outside c.head.new.desk in
    let stop = c.in_err-video.field-0.0 in
    ends_so c.from_residual.result (video_stop stop) (group_call_run t inputs) inputs old.written mid
    c.from_residual.ensures.1
    (c.run_laws.ensures.gives_up (group_begin t inputs) group_step most_lines inputs old mid (video_stop stop)
    (head_stops c.turning.ensures.turns c.turning.ensures.video t inputs old mid told c.head.ensures.others
    c.head.ensures.rest.written stop (c.in_err-video.ensures.gives (inputs Video) (told Video refl))))

pub returns-in_err-room-clause-ends : goal.returns-in_err-room-clause-ends
returns-in_err-room-clause-ends g c = λ inputs told.
    let outside = g.D.Desk.outside in
    let t = c.args.setup.now in
    let old = outside c.args.desk.now in
    let mid = outside c.head.new.desk in
    ends_so c.from_residual-in_err-room.result OutOfMemory (group_call_run t inputs) inputs old.written mid
    c.from_residual-in_err-room.ensures.1
    (c.run_laws.ensures.gives_up (group_begin t inputs) group_step most_lines inputs old mid OutOfMemory
    c.head.ensures.rest.written)

pub returns-in_err-room-clause-cause : goal.returns-in_err-room-clause-cause
returns-in_err-room-clause-cause g c =
    let outside = g.D.Desk.outside in
    starved_cause c.from_residual-in_err-room.result (outside c.args.desk.now).faults (outside c.head.new.desk).faults
    c.from_residual-in_err-room.ensures.1 c.in_ok-video.ensures.ok_faults

pub returns-in-Err-clause-ends : goal.returns-in-Err-clause-ends
returns-in-Err-clause-ends g c = λ inputs told.
    let outside = g.D.Desk.outside in
    let t = c.args.setup.now in
    let video = c.in_ok-video.video in
    let old = outside c.args.desk.now in
    let mid = outside c.head.new.desk in
    let new = outside c.write_heads.new.desk in
    let e = c.in_ok-video.ensures.gives (inputs Video) (told Video refl) in
    c.run_laws.ensures.gives_up (group_begin t inputs) group_step most_lines inputs old new c.in-Err.status
    (heads_cut c.turning.ensures.turns c.turning.ensures.video t inputs old mid told c.head.ensures.others
    c.head.ensures.rest.written video.format e.0 c.in-Err.status new c.in-Err.ensures.kind
    (subst (λ (f : Format). GainsFronts (viewers_heads f t.receivers) mid.written new.written) c.format.ensures
    c.in-Err.ensures.err))

pub returns-clause-goes : goal.returns-clause-goes
returns-clause-goes g c = λ inputs told.
    let outside = g.D.Desk.outside in
    let t = c.args.setup.now in
    let video = c.in_ok-video.video in
    let room = c.in_ok-room.room in
    let old = outside c.args.desk.now in
    let mid = outside c.head.new.desk in
    let new = outside c.write_heads.new.desk in
    let e = c.in_ok-video.ensures.gives (inputs Video) (told Video refl) in
    let fresh : IsNewRoom (record t.params { format = video.format }) t.receivers video room =
    subst (λ (f : Format). IsNewRoom (record t.params { format = f }) t.receivers video room) c.format.ensures
    c.in_ok-room.ensures
    in
    c.run_laws.ensures.begins room (group_begin t inputs) group_step room_may_read most_lines inputs old new
    (all_may_come (record t.params { format = video.format }) t.receivers video room fresh)
    (heads_go c.turning.ensures.turns c.turning.ensures.video t inputs old mid told c.head.ensures.others
    c.head.ensures.rest.written video room fresh c.in_ok-video.ensures.more e new c.write_heads.ensures.rest.left
    (subst (λ (f : Format). Gains (viewers_heads f t.receivers) mid.written new.written) c.format.ensures
    c.in_default.ensures.ok))

pub returns-clause-ready : goal.returns-clause-ready
returns-clause-ready g c =
    let outside = g.D.Desk.outside in
    let t = c.args.setup.now in
    let video = c.in_ok-video.video in
    let room = c.in_ok-room.room in
    let new = outside c.write_heads.new.desk in
    let p : Params = record t.params { format = video.format } in
    let fresh : IsNewRoom p t.receivers video room =
    subst (λ (f : Format). IsNewRoom (record t.params { format = f }) t.receivers video room) c.format.ensures
    c.in_ok-room.ensures
    in
    let same : new.attached ≡ (outside c.args.desk.now).attached = c.write_heads.ensures.rest.attached
    ∙ c.head.ensures.rest.attached in
    ready_first p t.receivers video room fresh new.attached (in_format t.params video.format c.requires.params)
    refl c.in_ok-video.ensures.more (subst (λ (a : Role → Bool). GroupOpens t.receivers a)
    (sym same) c.requires.opens)
