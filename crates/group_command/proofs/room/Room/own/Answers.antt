-- An event of a receiver goes to the end that the line names.
use Rattle.std.proofs.Common.{Some}
use Rattle.group_command.specs.declared.line.GroupLine.TheVariants.{Of}
use Rattle.group_command.specs.declared.room.Room.{Room}
use Rattle.group_command.specs.Group.{group_line_step}
use Rattle.group_command.specs.Turning.{IsGroupRead}
use Rattle.group_command.proofs.LineTurns.{gave_up, went_on}
use Rattle.group_command.proofs.Owning.{clock_is, may_take, own_gave_up, own_went, period_is, ready_own}
use Rattle.group_command.proofs.room.Room.own.Goals as goal

pub own_turn-requires-clause-event : goal.own_turn-requires-clause-event
own_turn-requires-clause-event g c =
    may_take c.args.self.now (g.D.Desk.outside c.args.desk.now).attached c.args.said c.half-half.result c.requires.ready
    c.requires.line c.requires.there c.half-half.ensures

pub returns-in_err-own_turn-clause-takes : goal.returns-in_err-own_turn-clause-takes
returns-in_err-own_turn-clause-takes g c =
    let outside = g.D.Desk.outside in
    let m = c.args.self.now in
    let said = c.args.said in
    let mid = outside c.args.desk.now in
    let new = outside c.own_turn.new.desk in
    let status = c.in_err-own_turn.field-0.0 in
    gave_up _ mid new (IsGroupRead m said.line mid) (λ s inputs. group_line_step s inputs
    (Some (Of said.place said.event)))
    c.from_residual.result status c.from_residual.ensures.1
    c.in_err-own_turn.ensures.stop c.in_err-own_turn.ensures.cause
    (c.turning.ensures.steps.writes mid new c.own_turn.ensures.rest)
    (λ old s inputs b.
    own_gave_up m said mid old new s inputs b c.turning.ensures.lines c.own_turn.ensures.rest c.own_turn.new.cast
    c.own_turn.new.self status
    (c.in_err-own_turn.ensures.gives s.params s.run s.views
    (clock_is m said mid old new s inputs b c.turning.ensures.lines c.own_turn.ensures.rest c.half-half.result
    c.half-half.ensures)
    (period_is m said mid old new s inputs b c.turning.ensures.lines c.own_turn.ensures.rest c.requires.ready.period)
    b.stood.cast b.stood.views))

pub returns-clause-takes : goal.returns-clause-takes
returns-clause-takes g c =
    let outside = g.D.Desk.outside in
    let m = c.args.self.now in
    let said = c.args.said in
    let mid = outside c.args.desk.now in
    let new = outside c.own_turn.new.desk in
    let done = c.own_turn.ensures in
    let now : Room = record m { cast = c.own_turn.new.cast; viewers = c.own_turn.new.self } in
    went_on now mid new (IsGroupRead m said.line mid) (λ s inputs. group_line_step s inputs
    (Some (Of said.place said.event)))
    (ready_own m c.own_turn.new.cast c.own_turn.new.self said.line mid.attached new.attached c.requires.ready
    c.requires.line done.rest.attached done.keeps done.count done.viewing)
    (c.turning.ensures.steps.writes mid new done.rest)
    (λ old s inputs b.
    own_went m said mid old new s inputs b c.turning.ensures.lines done.rest c.own_turn.new.cast c.own_turn.new.self
    (c.in_ok-own_turn.ensures.gives s.params s.run s.views
    (clock_is m said mid old new s inputs b c.turning.ensures.lines done.rest c.half-half.result
    c.half-half.ensures)
    (period_is m said mid old new s inputs b c.turning.ensures.lines done.rest c.requires.ready.period) b.stood.cast
    b.stood.views))
