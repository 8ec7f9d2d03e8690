use Rattle.std.proofs.Common.{refl}
use Rattle.std.proofs.lemmas.Result.{on_err_weaker, on_ok_weaker}
use Rattle.call_report.specs.View.{line_text}
use Rattle.duplex_call.specs.declared.line.Party.TheVariants.{A, B}
use Rattle.duplex_command.specs.Duplex.{party_counts}
use Rattle.duplex_command.proofs.Heading.{on_err}
use Rattle.duplex_command.proofs.Writing.{lines_cut, lines_front, lines_gain}
use Rattle.duplex_command.proofs.show.tell_counts.Goals as goal

pub returns-in_err-put_line-clause-err : goal.returns-in_err-put_line-clause-err
returns-in_err-put_line-clause-err g c = λ p ways h.
    let outside = g.D.Desk.outside in
    on_err c.from_residual.result
    (lines_cut c.turn_laws.ensures (party_counts A p ways) (party_counts B p ways) (line_text c.party_line.result)
    (party_counts B p ways) (c.party_line.ensures p A c.args.b.now ways h) refl
    (outside c.args.desk.now).written (outside c.put_line.new.desk).written (outside c.put_line.new.desk).written
    c.in_err-put_line.ensures.err)

pub returns-clause-ok : goal.returns-clause-ok
returns-clause-ok g c = λ p ways h.
    let outside = g.D.Desk.outside in
    let a = c.args.a.now in
    let b = c.args.b.now in
    on_ok_weaker c.put_line-2.result
    (lines_gain c.turn_laws.ensures (party_counts A p ways) (party_counts B p ways) (line_text c.party_line.result)
    (line_text c.party_line-2.result) (c.party_line.ensures p A b ways h)
    (c.party_line-2.ensures p B a ways ((c.pair_laws.ensures p).exchanged A a b ways h))
    (outside c.args.desk.now).written (outside c.put_line.new.desk).written (outside c.put_line-2.new.desk).written
    c.in_ok-put_line.ensures.ok)
    c.put_line-2.ensures.ok

pub returns-clause-err : goal.returns-clause-err
returns-clause-err g c = λ p ways h.
    let outside = g.D.Desk.outside in
    let a = c.args.a.now in
    let b = c.args.b.now in
    on_err_weaker c.put_line-2.result
    (lines_front c.turn_laws.ensures (party_counts A p ways) (party_counts B p ways) (line_text c.party_line.result)
    (line_text c.party_line-2.result) (c.party_line.ensures p A b ways h)
    (c.party_line-2.ensures p B a ways ((c.pair_laws.ensures p).exchanged A a b ways h))
    (outside c.args.desk.now).written (outside c.put_line.new.desk).written (outside c.put_line-2.new.desk).written
    c.in_ok-put_line.ensures.ok)
    c.put_line-2.ensures.err
