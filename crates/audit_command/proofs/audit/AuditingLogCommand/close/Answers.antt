use Rattle.std.proofs.Common.{◌≡◌, ℕ, List, OnOk, OnErr, sym, ap, ◌∙◌, subst}
use Rattle.h263_outside.specs.declared.desk.Role.TheVariants.{Report}
use Rattle.h263_types.specs.declared.params.Params.{Params}
use Rattle.desk_program.specs.Ends.{Gains, GainsFronts}
use Rattle.desk_program.specs.Texts.{on}
use Rattle.stream_audit.specs.Logs.{verdict_on}
use Rattle.stream_audit.specs.Text.{verdict_line}
use Rattle.audit_command.proofs.audit.AuditingLogCommand.close.Goals as goal

pub returns-clause-ok : goal.returns-clause-ok
returns-clause-ok g c = λ s stands.
    let outside = g.D.Desk.outside in
    let line : c.text.result.now ≡ verdict_line (verdict_on s.params s.past) =
    c.text.ensures.value ∙ c.verdict_text.ensures
    ∙ ap verdict_line (c.verdict-verdict.ensures s.past stands.audit
    ∙ ap (λ (p : Params). verdict_on p s.past) (sym stands.params))
    in
    subst (λ (l : List ℕ). OnOk c.put.result (Gains (on Report l) (outside c.args.desk.now).written
    (outside c.put.new.desk).written)) line c.put.ensures.ok

pub returns-clause-err : goal.returns-clause-err
returns-clause-err g c = λ s stands.
    let outside = g.D.Desk.outside in
    let line : c.text.result.now ≡ verdict_line (verdict_on s.params s.past) =
    c.text.ensures.value ∙ c.verdict_text.ensures
    ∙ ap verdict_line (c.verdict-verdict.ensures s.past stands.audit
    ∙ ap (λ (p : Params). verdict_on p s.past) (sym stands.params))
    in
    subst (λ (l : List ℕ). OnErr c.put.result (GainsFronts (on Report l) (outside c.args.desk.now).written
    (outside c.put.new.desk).written)) line c.put.ensures.err
