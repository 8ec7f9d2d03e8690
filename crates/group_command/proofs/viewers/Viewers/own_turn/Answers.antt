-- The event is that of the viewer at the place, and the others stay.
use Rattle.std.proofs.Common.{rules, ◌≡◌, ◌-◌, arith}
use Rattle.group_command.specs.Group.{view_in}
use Rattle.group_command.proofs.AtPlace.{first_gives, second_count, second_gives, second_there, third_count, third_gives, third_there}
use Rattle.group_command.proofs.Telling.{first_watched, second_watched, third_watched}
use Rattle.group_command.proofs.Watching.{if_later, one_line_later, line_before}
use Rattle.group_command.proofs.viewers.Viewers.own_turn.Goals as goal

pub returns-in-0-clause-viewing : goal.returns-in-0-clause-viewing
returns-in-0-clause-viewing g c =
    let self = c.args.self.now in
    let said = c.args.said in
    let v = c.requires.viewing in
    record {
      first = c.own_turn.ensures.viewing;
      second = if_later _ (said.line - 1) said.line self.second (line_before said.line) v.second;
      third = if_later _ (said.line - 1) said.line self.third (line_before said.line) v.third;
      in_order = v.in_order;
    }

pub returns-in-0-clause-gives : goal.returns-in-0-clause-gives
returns-in-0-clause-gives g c = λ p run views half period cast w.
    let outside = g.D.Desk.outside in
    let self = c.args.self.now in
    first_gives c.own_turn.result c.args.said p run views c.own_turn.new.cast (outside c.args.desk.now).written
    (outside c.own_turn.new.desk).written self.first c.own_turn.new.viewer _ c.in-0.is w
    (c.own_turn.ensures.gives p run (view_in views 0) half period cast (first_watched p run self.first _ views w))

-- ---- the second one

pub returns-in-1-clause-count : goal.returns-in-1-clause-count
returns-in-1-clause-count g c =
    let self = c.args.self.now in
    let there = second_there self.second self.third c.requires.viewing.in_order (omega (
      arith,
      c.requires.there,
      c.in-1.is,
    )) in
    second_count self.second c.turn_if.new.viewer self.third there c.turn_if.ensures.there

pub returns-in-1-clause-viewing : goal.returns-in-1-clause-viewing
returns-in-1-clause-viewing g c =
    let self = c.args.self.now in
    let said = c.args.said in
    let v = c.requires.viewing in
    record {
      first = one_line_later _ said.line self.first v.first;
      second = c.turn_if.ensures.viewing;
      third = if_later _ (said.line - 1) said.line self.third (line_before said.line) v.third;
      in_order = λ third. c.turn_if.ensures.there;
    }

pub returns-in-1-clause-gives : goal.returns-in-1-clause-gives
returns-in-1-clause-gives g c = λ p run views half period cast w.
    let outside = g.D.Desk.outside in
    let self = c.args.self.now in
    let there = second_there self.second self.third c.requires.viewing.in_order (omega (
      arith,
      c.requires.there,
      c.in-1.is,
    )) in
    second_gives c.turn_if.result c.args.said p run views c.turn_if.new.cast (outside c.args.desk.now).written
    (outside c.turn_if.new.desk).written self.first self.second c.turn_if.new.viewer self.third
    c.in-1.is there c.turn_if.ensures.there w
    (c.turn_if.ensures.gives p run (view_in views 1) half period cast
    (second_watched p run self.first self.second self.third views w))

-- ---- the third one

pub returns-in_default-clause-count : goal.returns-in_default-clause-count
returns-in_default-clause-count g c =
    let self = c.args.self.now in
    let is : c.args.said.place ≡ 2 = search rules in
    let there = third_there self.second self.third (omega (arith, c.requires.there, is)) in
    third_count self.second self.third c.turn_if-in_default.new.viewer there c.turn_if-in_default.ensures.there

pub returns-in_default-clause-viewing : goal.returns-in_default-clause-viewing
returns-in_default-clause-viewing g c =
    let self = c.args.self.now in
    let said = c.args.said in
    let v = c.requires.viewing in
    let is : said.place ≡ 2 = search rules in
    let there = third_there self.second self.third (omega (arith, c.requires.there, is)) in
    record {
      first = one_line_later _ said.line self.first v.first;
      second = if_later _ (said.line - 1) said.line self.second (line_before said.line) v.second;
      third = c.turn_if-in_default.ensures.viewing;
      in_order = λ third. v.in_order there;
    }

pub returns-in_default-clause-gives : goal.returns-in_default-clause-gives
returns-in_default-clause-gives g c = λ p run views half period cast w.
    let outside = g.D.Desk.outside in
    let self = c.args.self.now in
    let order = c.requires.viewing.in_order in
    let is : c.args.said.place ≡ 2 = search rules in
    let there = third_there self.second self.third (omega (arith, c.requires.there, is)) in
    third_gives c.turn_if-in_default.result c.args.said p run views c.turn_if-in_default.new.cast
    (outside c.args.desk.now).written (outside c.turn_if-in_default.new.desk).written self.first self.second
    self.third c.turn_if-in_default.new.viewer
    is (order there) there c.turn_if-in_default.ensures.there w
    (c.turn_if-in_default.ensures.gives p run (view_in views 2) half period cast
    (third_watched p run self.first self.second self.third views order w))
