-- Two heads that can be read, or the first fault in the order of the videos.
use Rattle.std.proofs.Common.{refl, subst, sym}
use Rattle.h263_outside.specs.declared.desk.Role.TheVariants.{Video, Video2}
use Rattle.y4m.specs.declared.fault.Y4mFault.{Y4mFault}
use Rattle.call_report.specs.declared.status.Status.TheVariants.{Video2Refused}
use Rattle.call_report.specs.Status.{video_stop}
use Rattle.desk_program.specs.Ends.{Ended}
use Rattle.duplex_command.specs.Begin.{duplex_begin}
use Rattle.duplex_command.specs.declared.heads.Heads.{Heads}
use Rattle.duplex_command.proofs.Heading.{both_read, first_stops, second_lost, second_refused, still_there, stops_so}
use Rattle.duplex_command.proofs.heads.read_heads.Goals as goal

pub returns-in_err-a-clause-stops : goal.returns-in_err-a-clause-stops
returns-in_err-a-clause-stops g c = λ p inputs told.
    let outside = g.D.Desk.outside in
    let old = outside c.args.desk.now in
    let mid = outside c.head.new.desk in
    stops_so c.from_residual.result (video_stop c.in_err-a.field-0.0) (duplex_begin p inputs) inputs old mid
    c.from_residual.ensures.1
    (first_stops c.turn_laws.ensures c.cut_after.ensures.head inputs old mid told c.head.ensures.others
    c.head.ensures.rest.written p c.in_err-a.field-0.0
    (c.in_err-a.ensures.gives (inputs Video) (told Video refl)))

pub returns-in-Ok-clause-reads : goal.returns-in-Ok-clause-reads
returns-in-Ok-clause-reads g c = λ inputs told.
    let outside = g.D.Desk.outside in
    let old = outside c.args.desk.now in
    let mid = outside c.head.new.desk in
    let there = still_there c.turn_laws.ensures c.cut_after.ensures.head inputs old mid told c.head.ensures.others
    c.head.ensures.rest.written in
    let heads : Heads = record { a = c.in_ok-a.a; b = c.in-Ok.b } in
    both_read c.turn_laws.ensures c.cut_after.ensures.head inputs old mid told c.head.ensures.others
    c.head.ensures.rest.written
    c.in_ok-a.a (c.in_ok-a.ensures.gives (inputs Video) (told Video refl)) (outside c.second_head.new.desk)
    c.second_head.ensures.others c.second_head.ensures.rest.written
    heads refl (c.in-Ok.ensures.gives (inputs Video2) there)

pub returns-in-Err-Read-clause-stops : goal.returns-in-Err-Read-clause-stops
returns-in-Err-Read-clause-stops g c = λ p inputs told.
    let outside = g.D.Desk.outside in
    let old = outside c.args.desk.now in
    let mid = outside c.head.new.desk in
    let there = still_there c.turn_laws.ensures c.cut_after.ensures.head inputs old mid told c.head.ensures.others
    c.head.ensures.rest.written in
    second_lost c.turn_laws.ensures c.cut_after.ensures.head inputs old mid told c.head.ensures.others
    c.head.ensures.rest.written
    c.in_ok-a.a (c.in_ok-a.ensures.gives (inputs Video) (told Video refl)) (outside c.second_head.new.desk)
    c.second_head.ensures.others c.second_head.ensures.rest.written
    p _ c.in-Err-Read.field-0-is (c.in-Err-Read.ensures.gives (inputs Video2) there)

pub returns-in-Err-Refused-clause-stops : goal.returns-in-Err-Refused-clause-stops
returns-in-Err-Refused-clause-stops g c = λ p inputs told.
    let outside = g.D.Desk.outside in
    let old = outside c.args.desk.now in
    let mid = outside c.head.new.desk in
    let there = still_there c.turn_laws.ensures c.cut_after.ensures.head inputs old mid told c.head.ensures.others
    c.head.ensures.rest.written in
    subst (λ (f : Y4mFault). Ended (duplex_begin p inputs) (Video2Refused f) inputs old
    (outside c.second_head.new.desk)) (sym c.in-Err-Refused.fault-is)
    (second_refused c.turn_laws.ensures c.cut_after.ensures.head inputs old mid told c.head.ensures.others
    c.head.ensures.rest.written
    c.in_ok-a.a (c.in_ok-a.ensures.gives (inputs Video) (told Video refl)) (outside c.second_head.new.desk)
    c.second_head.ensures.others c.second_head.ensures.rest.written
    p _ c.in-Err-Refused.fault c.in-Err-Refused.field-0-is (c.in-Err-Refused.ensures.gives (inputs Video2) there))
