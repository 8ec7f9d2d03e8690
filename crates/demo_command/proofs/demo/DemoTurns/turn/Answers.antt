-- A turn takes the next line of the made trace, or tells the counts after the last one.
use Rattle.std.proofs.Common.{◌≡◌, ◌+◌, List, length, ap, subst, sym, ◌∙◌, arith}
use Rattle.loss_trace.specs.declared.event.Event.{Event as Line}
use Rattle.make_input.specs.Left.{lines_left}
use Rattle.one_way.specs.Way.{tally_of, way_of}
use Rattle.call_command.specs.Counts.{counts_of}
use Rattle.demo_command.specs.declared.terms.DemoTerms.{DemoTerms}
use Rattle.demo_command.specs.Demo.{demo_step, made_video}
use Rattle.demo_command.specs.Machine.{AreInPlace, DemoOpens}
use Rattle.demo_command.proofs.Doing.{counts_are}
use Rattle.demo_command.proofs.Taking.{cut_gives, end_cut, end_told, first_only, near_now, next_in_place, turn_gives, went}
use Rattle.demo_command.proofs.demo.DemoTurns.turn.Goals as goal

pub returns-in_err-tell_counts-clause-gives : goal.returns-in_err-tell_counts-clause-gives
returns-in_err-tell_counts-clause-gives g c = λ s inputs k told.
    let outside = g.D.Desk.outside in
    let m = c.args.self.now in
    let p = m.terms.params in
    let status = c.in_err-tell_counts.field-0.0 in
    let text = counts_of (tally_of (way_of m.network)) m.both.receiver.played m.both.sender.sent in
    let is = counts_are m (c.way_laws.ensures p) s.past k.done
    (c.ends_agree.ensures p (made_video m.terms) s.past c.requires.opens.params k.done.way_holds.near) in
    turn_gives c.from_residual.result status (demo_step s inputs) _ _ _ inputs (outside c.args.desk.now)
    (outside c.tell_counts.new.desk) c.from_residual.ensures.1
    (cut_gives status (demo_step s inputs) _ inputs (outside c.args.desk.now) (outside c.tell_counts.new.desk)
    c.in_err-tell_counts.ensures.kind
    (end_cut m s inputs k text is c.in_default.ensures.0 (outside c.args.desk.now) (outside c.tell_counts.new.desk)
    c.in_err-tell_counts.ensures.err))

pub returns-in_default-clause-gives : goal.returns-in_default-clause-gives
returns-in_default-clause-gives g c = λ s inputs k told.
    let outside = g.D.Desk.outside in
    let m = c.args.self.now in
    let p = m.terms.params in
    let text = counts_of (tally_of (way_of m.network)) m.both.receiver.played m.both.sender.sent in
    let is = counts_are m (c.way_laws.ensures p) s.past k.done
    (c.ends_agree.ensures p (made_video m.terms) s.past c.requires.opens.params k.done.way_holds.near) in
    end_told m s inputs k text is c.in_default.ensures.0 (outside c.args.desk.now) (outside c.tell_counts.new.desk)
    c.turn_laws.ensures told c.tell_counts.ensures.rest.left c.in_ok-tell_counts.ensures.ok

pub take_line-requires-clause-in_place : goal.take_line-requires-clause-in_place
take_line-requires-clause-in_place g c =
    first_only c.args.self.now.both.sender.sent c.in-Some.event (lines_left c.next.new.self)
    (subst (λ (l : List Line). AreInPlace 10000 c.args.self.now.both.sender.sent l) c.in-Some.ensures
    c.requires.in_place)

pub take_line-requires-clause-few : goal.take_line-requires-clause-few
take_line-requires-clause-few g c =
    let m = c.args.self.now in
    let fewer : length (lines_left m.lines) ≡ length (lines_left c.next.new.self) + 1 =
    ap (λ (l : List Line). length l) c.in-Some.ensures ∙ omega arith in
    omega (arith, fewer, c.requires.plays)

pub returns-clause-gives : goal.returns-clause-gives
returns-clause-gives g c = λ s inputs k told.
    let m = c.args.self.now in
    let event = c.in-Some.event in
    let lines = lines_left c.next.new.self in
    let after = c.take_line.new.self in
    let near = near_now m s inputs k event lines c.in-Some.ensures (c.made_laws.ensures m.terms c.requires.opens.params)
    in
    went m s inputs k event lines c.in-Some.ensures after c.take_line.ensures.terms
    (ap lines_left c.take_line.ensures.lines) (c.take_line.ensures.done s.past k.done near)
    c.turn_laws.ensures (g.D.Desk.outside c.args.desk.now) told

pub returns-clause-ready : goal.returns-clause-ready
returns-clause-ready g c =
    let m = c.args.self.now in
    let lines = lines_left c.next.new.self in
    let after = c.take_line.new.self in
    let left : lines_left after.lines ≡ lines = ap lines_left c.take_line.ensures.lines in
    let fewer : length (lines_left m.lines) ≡ length lines + 1 = ap (λ (l : List Line). length l) c.in-Some.ensures
    ∙ omega arith in
    let same : length (lines_left after.lines) ≡ length lines = ap (λ (l : List Line). length l) left in
    record {
      opens = subst (λ (t : DemoTerms). DemoOpens t (g.D.Desk.outside c.args.desk.now).attached)
          (sym c.take_line.ensures.terms) c.requires.opens;
      ends = c.take_line.ensures.ready;
      in_place = subst (λ (l : List Line). AreInPlace 10000 after.both.sender.sent l) (sym left)
          (next_in_place m.both.sender.sent after.both.sender.sent c.in-Some.event (lines_left m.lines) lines
          c.in-Some.ensures c.take_line.ensures.sent c.requires.in_place);
      said = omega (arith, fewer, same, c.take_line.ensures.said, c.requires.said);
      plays = omega (arith, fewer, same, c.take_line.ensures.played, c.requires.plays);
    }
