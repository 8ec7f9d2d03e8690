-- The counts are told receiver by receiver, in their order.
use Rattle.std.proofs.lemmas.Result.{on_err_weaker, on_ok_weaker}
use Rattle.group_command.specs.Group.{view_in}
use Rattle.group_command.proofs.Telling.{all_told, first_watched, one_cut, second_watched, third_watched, three_cut, two_cut}
use Rattle.group_command.proofs.Writing.{on_err}
use Rattle.group_command.proofs.viewers.Viewers.tell.Goals as goal

pub returns-in_err-tell_counts-clause-err : goal.returns-in_err-tell_counts-clause-err
returns-in_err-tell_counts-clause-err g c = λ p run views cast w.
    let outside = g.D.Desk.outside in
    let self = c.args.self.now in
    let old = (outside c.args.desk.now).written in
    let m1 = (outside c.tell_counts.new.desk).written in
    on_err c.from_residual.result
    (one_cut p run c.turn_laws.ensures self.first self.second self.third views c.requires.viewing.2.in_order w old m1 m1
    m1
    (c.in_err-tell_counts.ensures.err p run (view_in views 0) cast (first_watched p run self.first _ views w).holds))

pub returns-in_err-tell_if-clause-err : goal.returns-in_err-tell_if-clause-err
returns-in_err-tell_if-clause-err g c = λ p run views cast w.
    let outside = g.D.Desk.outside in
    let self = c.args.self.now in
    let old = (outside c.args.desk.now).written in
    let m1 = (outside c.tell_counts.new.desk).written in
    let m2 = (outside c.tell_if.new.desk).written in
    on_err c.from_residual-in_err-tell_if.result
    (two_cut p run c.turn_laws.ensures self.first self.second self.third views c.requires.viewing.2.in_order w old m1 m2
    m2
    (c.in_ok-tell_counts.ensures.ok p run (view_in views 0) cast (first_watched p run self.first _ views w).holds)
    (c.in_err-tell_if.ensures.err p run (view_in views 1) cast
    (second_watched p run self.first self.second self.third views w)))

pub returns-clause-ok : goal.returns-clause-ok
returns-clause-ok g c = λ p run views cast w.
    let outside = g.D.Desk.outside in
    let self = c.args.self.now in
    let order = c.requires.viewing.2.in_order in
    let old = (outside c.args.desk.now).written in
    let m1 = (outside c.tell_counts.new.desk).written in
    let m2 = (outside c.tell_if.new.desk).written in
    on_ok_weaker c.tell_if-2.result
    (all_told p run c.turn_laws.ensures self.first self.second self.third views order w old m1 m2
    (outside c.tell_if-2.new.desk).written
    (c.in_ok-tell_counts.ensures.ok p run (view_in views 0) cast (first_watched p run self.first _ views w).holds)
    (c.in_ok-tell_if.ensures.ok p run (view_in views 1) cast
    (second_watched p run self.first self.second self.third views w)))
    (c.tell_if-2.ensures.ok p run (view_in views 2) cast (third_watched p run self.first self.second self.third views
    order w))

pub returns-clause-err : goal.returns-clause-err
returns-clause-err g c = λ p run views cast w.
    let outside = g.D.Desk.outside in
    let self = c.args.self.now in
    let order = c.requires.viewing.2.in_order in
    let old = (outside c.args.desk.now).written in
    let m1 = (outside c.tell_counts.new.desk).written in
    let m2 = (outside c.tell_if.new.desk).written in
    on_err_weaker c.tell_if-2.result
    (three_cut p run c.turn_laws.ensures self.first self.second self.third views order w old m1 m2
    (outside c.tell_if-2.new.desk).written
    (c.in_ok-tell_counts.ensures.ok p run (view_in views 0) cast (first_watched p run self.first _ views w).holds)
    (c.in_ok-tell_if.ensures.ok p run (view_in views 1) cast
    (second_watched p run self.first self.second self.third views w)))
    (c.tell_if-2.ensures.err p run (view_in views 2) cast (third_watched p run self.first self.second self.third views
    order w))
