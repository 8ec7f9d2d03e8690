use Rattle.std.proofs.Common.{◌≡◌, ℕ, List, ap, subst, ◌∙◌}
use Rattle.std.proofs.lemmas.Result.{on_err_weaker}
use Rattle.h263_outside.specs.Desk.{appended, GainsFront}
use Rattle.h263_outside.specs.declared.desk.Role.TheVariants.{Pictures}
use Rattle.h263_planes.specs.Lent.{picture as lent}
use Rattle.h263_planes.specs.Samples.{bytes_of}
use Rattle.y4m.specs.Text.{mark_text}
use Rattle.y4m.proofs.Results.{after_any}
use Rattle.y4m.proofs.writer.write_frame.Goals as goal

pub returns-in_err-write_all-clause-prefix : goal.returns-in_err-write_all-clause-prefix
returns-in_err-write_all-clause-prefix g c =
    after_any c.from_residual.result (c.fronts_of_two.ensures.first Pictures (mark_text c.args.mark)
    (bytes_of (lent c.args.picture)) _ _
    (subst (λ (l : List ℕ). GainsFront Pictures l (g.D.Desk.outside c.args.desk.now).written
    (g.D.Desk.outside c.write_all.new.desk).written) c.mark_line.ensures c.in_err-write_all.ensures.err))

pub returns-clause-prefix : goal.returns-clause-prefix
returns-clause-prefix g c =
    let planes = bytes_of (lent c.args.picture) in
    let old = (g.D.Desk.outside c.args.desk.now).written in
    let middle = (g.D.Desk.outside c.write_all.new.desk).written in
    let new = (g.D.Desk.outside c.write_all-2.new.desk).written in
    let line : middle ≡ appended old Pictures (mark_text c.args.mark) = c.in_ok-write_all.ensures.ok
    ∙ ap (λ (l : List ℕ). appended old Pictures l) c.mark_line.ensures in
    on_err_weaker c.write_all-2.result
    (λ (f : GainsFront Pictures c.bytes.result.now middle new). c.fronts_of_two.ensures.second Pictures
    (mark_text c.args.mark) planes old middle new line
    (subst (λ (l : List ℕ). GainsFront Pictures l middle new) c.bytes.ensures f))
    c.write_all-2.ensures.err
