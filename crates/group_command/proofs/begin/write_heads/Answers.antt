use Rattle.std.proofs.Common.{rules, ◌≤◌}
use Rattle.std.proofs.lemmas.Result.{on_err_weaker}
use Rattle.group_command.proofs.Writing.{head_cut, head_more, heads_front, no_head, on_err}
use Rattle.group_command.proofs.begin.write_heads.Goals as goal

pub returns-in_err-put_own_head-clause-err : goal.returns-in_err-put_own_head-clause-err
returns-in_err-put_own_head-clause-err g c =
    let outside = g.D.Desk.outside in
    let turns = c.turning.ensures.turns in
    let f = c.args.format in
    let old = (outside c.args.desk.now).written in
    let m1 = (outside c.put_own_head.new.desk).written in
    on_err c.from_residual.result
    (heads_front turns f old m1 1 c.args.receivers c.requires.some
    (head_cut turns f old old 0 m1 (no_head turns f old old) c.in_err-put_own_head.ensures.err))

pub returns-in_err-put_own_head-2-clause-err : goal.returns-in_err-put_own_head-2-clause-err
returns-in_err-put_own_head-2-clause-err g c =
    let outside = g.D.Desk.outside in
    let turns = c.turning.ensures.turns in
    let f = c.args.format in
    let old = (outside c.args.desk.now).written in
    let m1 = (outside c.put_own_head.new.desk).written in
    let m2 = (outside c.put_own_head-2.new.desk).written in
    let two : 2 ≤ c.args.receivers = search rules in
    let first = head_more turns f old old 0 m1 (no_head turns f old old) c.in_ok-put_own_head.ensures.ok in
    on_err c.from_residual-in_err-put_own_head-2.result
    (heads_front turns f old m2 2 c.args.receivers two
    (head_cut turns f old m1 1 m2 first c.in_err-put_own_head-2.ensures.err))

pub returns-clause-err : goal.returns-clause-err
returns-clause-err g c =
    let outside = g.D.Desk.outside in
    let turns = c.turning.ensures.turns in
    let f = c.args.format in
    let old = (outside c.args.desk.now).written in
    let m1 = (outside c.put_own_head.new.desk).written in
    let m2 = (outside c.put_own_head-2.new.desk).written in
    let m3 = (outside c.put_own_head-3.new.desk).written in
    let three : 3 ≤ c.args.receivers = search rules in
    let first = head_more turns f old old 0 m1 (no_head turns f old old) c.in_ok-put_own_head.ensures.ok in
    let second = head_more turns f old m1 1 m2 first c.in_ok-put_own_head-2.ensures.ok in
    on_err_weaker c.put_own_head-3.result (λ fronts. heads_front turns f old m3 3 c.args.receivers three
    (head_cut turns f old m2 2 m3 second fronts)) c.put_own_head-3.ensures.err
