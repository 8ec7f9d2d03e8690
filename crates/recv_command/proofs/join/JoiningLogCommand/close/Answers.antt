use Rattle.std.proofs.Common.{◌≡◌, ℕ, List, sym, ap, subst, ◌∙◌}
use Rattle.h263_outside.specs.declared.desk.Role.TheVariants.{Report}
use Rattle.call_report.specs.View.{line_text}
use Rattle.desk_program.specs.Ends.{Gains, GainsFronts}
use Rattle.desk_program.specs.Texts.{on}
use Rattle.recv_command.specs.JoinTally.{join_text}
use Rattle.recv_command.specs.Recv.{recv_rules}
use Rattle.recv_command.proofs.WrittenSoFar.{text_more}
use Rattle.recv_command.proofs.Showing.{on_err}
use Rattle.recv_command.proofs.join.JoiningLogCommand.close.Goals as goal

pub returns-in_err-put_line-clause-err : goal.returns-in_err-put_line-clause-err
returns-in_err-put_line-clause-err g c = λ s stands.
    let outside = g.D.Desk.outside in
    let told : line_text c.line.result ≡ join_text s.took = c.line.ensures ∙ ap join_text (sym stands.took) in
    on_err c.from_residual.result
    (c.turn_laws.ensures.front_of_first (on Report (join_text s.took)) (recv_rules.end_text s.receiver)
    (outside c.args.desk.now).written (outside c.put_line.new.desk).written
    (subst (λ (l : List ℕ). GainsFronts (on Report l) (outside c.args.desk.now).written
    (outside c.put_line.new.desk).written) told c.in_err-put_line.ensures.err))

pub returns-clause-ok : goal.returns-clause-ok
returns-clause-ok g c = λ s stands.
    let outside = g.D.Desk.outside in
    let told : line_text c.line.result ≡ join_text s.took = c.line.ensures ∙ ap join_text (sym stands.took) in
    let first = subst (λ (l : List ℕ). Gains (on Report l) (outside c.args.desk.now).written
    (outside c.put_line.new.desk).written) told c.in_ok-put_line.ensures.ok in
    (text_more c.turn_laws.ensures (on Report (join_text s.took)) (recv_rules.end_text s.receiver) c.tell.result
    (outside c.args.desk.now).written (outside c.put_line.new.desk).written (outside c.tell.new.desk).written first
    (c.tell.ensures.ok s.receiver stands.receiver) (c.tell.ensures.err s.receiver stands.receiver)).ok

pub returns-clause-err : goal.returns-clause-err
returns-clause-err g c = λ s stands.
    let outside = g.D.Desk.outside in
    let told : line_text c.line.result ≡ join_text s.took = c.line.ensures ∙ ap join_text (sym stands.took) in
    let first = subst (λ (l : List ℕ). Gains (on Report l) (outside c.args.desk.now).written
    (outside c.put_line.new.desk).written) told c.in_ok-put_line.ensures.ok in
    (text_more c.turn_laws.ensures (on Report (join_text s.took)) (recv_rules.end_text s.receiver) c.tell.result
    (outside c.args.desk.now).written (outside c.put_line.new.desk).written (outside c.tell.new.desk).written first
    (c.tell.ensures.ok s.receiver stands.receiver) (c.tell.ensures.err s.receiver stands.receiver)).err
