use Rattle.std.proofs.Common.{◌≡◌, ℕ, List, OnOk, OnErr, sym, ap, ◌∙◌, subst}
use Rattle.h263_outside.specs.declared.desk.Role.TheVariants.{Report}
use Rattle.h263_types.specs.declared.params.Params.{Params}
use Rattle.call_report.specs.View.{line_text}
use Rattle.desk_program.specs.Ends.{Gains, GainsFronts}
use Rattle.desk_program.specs.Texts.{on}
use Rattle.receiver_end.specs.State.{run_of}
use Rattle.recv_command.specs.Tally.{receiver_counts}
use Rattle.recv_command.proofs.recv.Receiving.tell.Goals as goal

pub returns-clause-ok : goal.returns-clause-ok
returns-clause-ok g c = λ s stands.
    let outside = g.D.Desk.outside in
    let played = c.played.ensures.run s.past stands.run
    ∙ ap (λ (p : Params). (run_of p s.past).played) (sym stands.params) in
    let text : line_text c.line.result ≡ receiver_counts (run_of s.params s.past).played s.tally =
    c.line.ensures ∙ (λ i. receiver_counts (played i) (sym stands.tally i))
    in
    subst (λ (l : List ℕ). OnOk c.put_line.result (Gains (on Report l) (outside c.args.desk.now).written
    (outside c.put_line.new.desk).written)) text c.put_line.ensures.ok

pub returns-clause-err : goal.returns-clause-err
returns-clause-err g c = λ s stands.
    let outside = g.D.Desk.outside in
    let played = c.played.ensures.run s.past stands.run
    ∙ ap (λ (p : Params). (run_of p s.past).played) (sym stands.params) in
    let text : line_text c.line.result ≡ receiver_counts (run_of s.params s.past).played s.tally =
    c.line.ensures ∙ (λ i. receiver_counts (played i) (sym stands.tally i))
    in
    subst (λ (l : List ℕ). OnErr c.put_line.result (GainsFronts (on Report l) (outside c.args.desk.now).written
    (outside c.put_line.new.desk).written)) text c.put_line.ensures.err
