use Rattle.std.proofs.Common.{◌≡◌, ℕ, List, length, ap, subst, ◌∙◌}
use Rattle.std.proofs.lemmas.Result.{on_err_weaker}
use Rattle.h263_outside.specs.Desk.{appended, GainsFront}
use Rattle.h263_outside.specs.declared.desk.Role.TheVariants.{Wire}
use Rattle.event_logs.specs.Text.{entry_head_text}
use Rattle.event_logs.proofs.Results.{after_any}
use Rattle.event_logs.proofs.writer.write_entry.Goals as goal

pub returns-in_err-write_all-clause-prefix : goal.returns-in_err-write_all-clause-prefix
returns-in_err-write_all-clause-prefix g c =
    after_any c.from_residual.result
    (c.fronts_of_two.ensures.first Wire (entry_head_text c.args.letter (length c.args.bytes.now)) c.args.bytes.now _ _
    (subst (λ (l : List ℕ). GainsFront Wire l (g.D.Desk.outside c.args.desk.now).written
    (g.D.Desk.outside c.write_all.new.desk).written) c.head_of.ensures c.in_err-write_all.ensures.err))

pub returns-clause-prefix : goal.returns-clause-prefix
returns-clause-prefix g c =
    let head = entry_head_text c.args.letter (length c.args.bytes.now) in
    let old = (g.D.Desk.outside c.args.desk.now).written in
    let middle = (g.D.Desk.outside c.write_all.new.desk).written in
    let new = (g.D.Desk.outside c.write_all-2.new.desk).written in
    let first : middle ≡ appended old Wire head = c.in_ok-write_all.ensures.ok
    ∙ ap (λ (l : List ℕ). appended old Wire l) c.head_of.ensures in
    on_err_weaker c.write_all-2.result
    (λ (f : GainsFront Wire c.args.bytes.now middle new). c.fronts_of_two.ensures.second Wire head c.args.bytes.now old
    middle new first f)
    c.write_all-2.ensures.err
