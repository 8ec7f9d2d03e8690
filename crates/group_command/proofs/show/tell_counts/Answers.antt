use Rattle.std.proofs.Common.{ℕ, List, sym, subst, ◌∙◌}
use Rattle.std.proofs.lemmas.Result.{on_err_weaker, on_ok_weaker}
use Rattle.h263_outside.specs.declared.desk.Role.TheVariants.{Report}
use Rattle.desk_program.specs.Ends.{Gains, GainsFronts}
use Rattle.desk_program.specs.Texts.{on}
use Rattle.one_way.specs.Counts.{AreCounted}
use Rattle.group_command.proofs.Writing.{counts_are}
use Rattle.group_command.proofs.show.tell_counts.Goals as goal

pub returns-clause-ok : goal.returns-clause-ok
returns-clause-ok g c = λ p run view cast h.
    let outside = g.D.Desk.outside in
    let text = c.counts_line-line.ensures
    ∙ counts_are p c.args.place run view c.word_of.result.now c.tally.result c.played.result c.sent.result
    c.word_of.ensures.value
    (subst (λ t. AreCounted t view.plays) (sym c.tally.ensures) h.marks) (c.played.ensures.view p view h)
    (c.sent.ensures.run p run cast)
    in
    on_ok_weaker c.put_line.result
    (λ gains. subst (λ (l : List ℕ). Gains (on Report l) (outside c.args.desk.now).written
    (outside c.put_line.new.desk).written) text gains) c.put_line.ensures.ok

pub returns-clause-err : goal.returns-clause-err
returns-clause-err g c = λ p run view cast h.
    let outside = g.D.Desk.outside in
    let text = c.counts_line-line.ensures
    ∙ counts_are p c.args.place run view c.word_of.result.now c.tally.result c.played.result c.sent.result
    c.word_of.ensures.value
    (subst (λ t. AreCounted t view.plays) (sym c.tally.ensures) h.marks) (c.played.ensures.view p view h)
    (c.sent.ensures.run p run cast)
    in
    on_err_weaker c.put_line.result
    (λ gains. subst (λ (l : List ℕ). GainsFronts (on Report l) (outside c.args.desk.now).written
    (outside c.put_line.new.desk).written) text gains) c.put_line.ensures.err
