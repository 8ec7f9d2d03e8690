-- From the attached roles to the last line: each promise of a run, on each way out.
use Rattle.std.proofs.Common.{ℕ, List, [], ◌∷◌, Option, subst}
use Rattle.h263_outside.specs.declared.desk.Role.{Role}
use Rattle.h263_outside.specs.declared.desk.Role.TheVariants.{Report}
use Rattle.call_report.specs.Status.{phase}
use Rattle.desk_program.specs.Ends.{HasEnded, silent}
use Rattle.desk_program.specs.Attached.{names}
use Rattle.desk_program.proofs.Running.{tells_still}
use Rattle.desk_program.proofs.Attaching.{attached_later, still_attached}
use Rattle.desk_program.proofs.Finishing.{finished_attached, finished_flushed, finished_read, finished_with, has_prefixes, has_texts, later_alone, opening_alone, opening_ends}
use Rattle.desk_program.proofs.command.perform.Goals as goal

-- ---- where a role could not be attached

pub returns-in-Err-clause-prefixes : goal.returns-in-Err-clause-prefixes
returns-in-Err-clause-prefixes g c = λ inputs told stopped.
    let outside = g.D.Desk.outside in
    let old = (outside c.args.desk.now).written in
    let mid = outside c.attach_all.new.desk in
    let new = outside c.finish.new.desk in
    let run = g.A.Acts.run c.args.setup.now inputs in
    let status = c.in-Err.status in
    let ends = opening_ends (phase status) status run inputs old mid c.in-Err.ensures.opening
    c.attach_all.ensures.rest.written in
    has_prefixes run inputs old new (phase c.finish.result) c.finish.result
    (finished_with run inputs old mid new status c.finish.result ends c.finish.ensures.told
    c.finish.ensures.rest.left) stopped

pub returns-in-Err-clause-attached : goal.returns-in-Err-clause-attached
returns-in-Err-clause-attached g c =
    let outside = g.D.Desk.outside in
    finished_attached ((Report, []) ∷ names c.args.order.now) c.in-Err.status c.finish.result
    (outside c.attach_all.new.desk) (outside c.finish.new.desk) c.finish.ensures.rest
    (c.in-Err.ensures.attached ((Report, []) ∷ []) c.requires.report) c.finish.ensures.told

pub returns-in-Err-clause-unopened : goal.returns-in-Err-clause-unopened
returns-in-Err-clause-unopened g c = λ is.
    let outside = g.D.Desk.outside in
    opening_alone c.in-Err.status c.finish.result (outside c.args.desk.now) (outside c.attach_all.new.desk)
    (outside c.finish.new.desk) c.attach_all.ensures.rest c.finish.ensures.rest c.finish.ensures.told is

pub returns-in-Err-clause-flushed : goal.returns-in-Err-clause-flushed
returns-in-Err-clause-flushed g c =
    let outside = g.D.Desk.outside in
    finished_flushed c.in-Err.status c.finish.result (outside c.attach_all.new.desk) (outside c.finish.new.desk)
    c.finish.ensures.told

-- ---- where all are

pub act-status-requires : goal.act-status-requires
act-status-requires g c = c.requires.opens (g.D.Desk.outside c.attach_all.new.desk)
    (c.in_default.ensures.attached ((Report, []) ∷ []) c.requires.report)

pub returns-clause-texts : goal.returns-clause-texts
returns-clause-texts g c = λ inputs told settled.
    let outside = g.D.Desk.outside in
    let old = outside c.args.desk.now in
    let mid = outside c.attach_all.new.desk in
    let done = outside c.act-status.new.desk in
    let new = outside c.finish-2.new.desk in
    let run = g.A.Acts.run c.args.setup.now inputs in
    let status = c.act-status.result in
    let ends = subst (λ (start : Role → Option (List ℕ)). HasEnded run silent status inputs start done)
    c.attach_all.ensures.rest.written
    (c.act-status.ensures.gives inputs (tells_still old mid inputs c.attach_all.ensures.rest.left told)) in
    has_texts run inputs old.written new (phase c.finish-2.result) c.finish-2.result
    (finished_with run inputs old.written done new status c.finish-2.result ends c.finish-2.ensures.told
    c.finish-2.ensures.rest.left) settled

pub returns-clause-prefixes : goal.returns-clause-prefixes
returns-clause-prefixes g c = λ inputs told stopped.
    let outside = g.D.Desk.outside in
    let old = outside c.args.desk.now in
    let mid = outside c.attach_all.new.desk in
    let done = outside c.act-status.new.desk in
    let new = outside c.finish-2.new.desk in
    let run = g.A.Acts.run c.args.setup.now inputs in
    let status = c.act-status.result in
    let ends = subst (λ (start : Role → Option (List ℕ)). HasEnded run silent status inputs start done)
    c.attach_all.ensures.rest.written
    (c.act-status.ensures.gives inputs (tells_still old mid inputs c.attach_all.ensures.rest.left told)) in
    has_prefixes run inputs old.written new (phase c.finish-2.result) c.finish-2.result
    (finished_with run inputs old.written done new status c.finish-2.result ends c.finish-2.ensures.told
    c.finish-2.ensures.rest.left) stopped

pub returns-clause-attached : goal.returns-clause-attached
returns-clause-attached g c =
    let outside = g.D.Desk.outside in
    let done = outside c.act-status.new.desk in
    let order = (Report, []) ∷ names c.args.order.now in
    let status = c.act-status.result in
    let still = still_attached order (outside c.attach_all.new.desk) done c.act-status.ensures.rest.attached
    c.act-status.ensures.rest.name
    (c.in_default.ensures.attached ((Report, []) ∷ []) c.requires.report) in
    finished_attached order status c.finish-2.result done (outside c.finish-2.new.desk) c.finish-2.ensures.rest
    (attached_later (phase status) order done c.act-status.ensures.later still) c.finish-2.ensures.told

pub returns-clause-whole_input : goal.returns-clause-whole_input
returns-clause-whole_input g c = λ inputs told.
    let outside = g.D.Desk.outside in
    finished_read c.act-status.result c.finish-2.result (g.A.Acts.source c.args.setup.now)
    (outside c.act-status.new.desk) (outside c.finish-2.new.desk) c.finish-2.ensures.rest.left
    (c.act-status.ensures.whole_input inputs (tells_still (outside c.args.desk.now) (outside c.attach_all.new.desk)
    inputs c.attach_all.ensures.rest.left told))
    c.finish-2.ensures.told

pub returns-clause-unopened : goal.returns-clause-unopened
returns-clause-unopened g c = λ is.
    let outside = g.D.Desk.outside in
    later_alone c.act-status.result c.finish-2.result (outside c.args.desk.now) (outside c.act-status.new.desk)
    (outside c.finish-2.new.desk) c.act-status.ensures.later c.finish-2.ensures.told is

pub returns-clause-flushed : goal.returns-clause-flushed
returns-clause-flushed g c =
    let outside = g.D.Desk.outside in
    finished_flushed c.act-status.result c.finish-2.result (outside c.act-status.new.desk) (outside c.finish-2.new.desk)
    c.finish-2.ensures.told
