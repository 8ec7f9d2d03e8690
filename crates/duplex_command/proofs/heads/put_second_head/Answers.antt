use Rattle.std.proofs.Common.{◌≡◌, OnErr, OnOk, rules, subst}
use Rattle.h263_outside.specs.Desk.{OnlyWrites}
use Rattle.h263_outside.specs.declared.desk.Role.TheVariants.{Pictures2}
use Rattle.y4m.specs.Text.{head_text}
use Rattle.desk_program.specs.Ends.{Gains, GainsFronts}
use Rattle.desk_program.specs.Texts.{on}
use Rattle.duplex_command.proofs.AtSecond.{fronts_at_second, gains_at_second, writes_at_second}
use Rattle.duplex_command.proofs.heads.put_second_head.Goals as goal

pub returns-clause-ok : goal.returns-clause-ok
returns-clause-ok g c =
    let outside = g.D.Desk.outside in
    let told = on Pictures2 (head_text c.args.format) in
    let now : c.put_head.new.desk.desk.now ≡ c.desk-1.given.0 = search rules in
    subst (λ d. OnOk c.put_head.result (Gains told (outside c.args.desk.now).written (outside d).written)) now
    (subst (λ d. OnOk c.put_head.result (Gains told (outside d).written (outside c.put_head.new.desk.desk.now).written))
    c.new-second.ensures.lent
    (gains_at_second c.new-second.result.desk.ghost_name c.put_head.new.desk.desk.ghost_name
    (outside c.new-second.result.desk.now) (outside c.put_head.new.desk.desk.now) c.put_head.result
    (head_text c.args.format) c.put_head.ensures.ok))

pub returns-clause-err : goal.returns-clause-err
returns-clause-err g c =
    let outside = g.D.Desk.outside in
    let told = on Pictures2 (head_text c.args.format) in
    let now : c.put_head.new.desk.desk.now ≡ c.desk-1.given.0 = search rules in
    subst (λ d. OnErr c.put_head.result (GainsFronts told (outside c.args.desk.now).written (outside d).written)) now
    (subst (λ d. OnErr c.put_head.result (GainsFronts told (outside d).written
    (outside c.put_head.new.desk.desk.now).written)) c.new-second.ensures.lent
    (fronts_at_second c.new-second.result.desk.ghost_name c.put_head.new.desk.desk.ghost_name
    (outside c.new-second.result.desk.now) (outside c.put_head.new.desk.desk.now) c.put_head.result
    (head_text c.args.format) c.put_head.ensures.err))

pub returns-clause-rest : goal.returns-clause-rest
returns-clause-rest g c =
    let outside = g.D.Desk.outside in
    let now : c.put_head.new.desk.desk.now ≡ c.desk-1.given.0 = search rules in
    subst (λ d. OnlyWrites (outside c.args.desk.now) (outside d)) now
    (subst (λ d. OnlyWrites (outside d) (outside c.put_head.new.desk.desk.now)) c.new-second.ensures.lent
    (writes_at_second c.new-second.result.desk.ghost_name c.put_head.new.desk.desk.ghost_name
    (outside c.new-second.result.desk.now) (outside c.put_head.new.desk.desk.now) c.put_head.ensures.rest))
