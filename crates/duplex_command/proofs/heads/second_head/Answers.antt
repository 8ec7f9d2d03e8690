use Rattle.std.proofs.Common.{◌≡◌, ◌≢◌, rules, subst}
use Rattle.h263_outside.specs.Desk.{OnlyReads}
use Rattle.h263_outside.specs.declared.desk.Role.{Role}
use Rattle.h263_outside.specs.declared.desk.Role.TheVariants.{Video2}
use Rattle.duplex_command.proofs.AtSecond.{others_at_second, reads_at_second}
use Rattle.duplex_command.proofs.heads.second_head.Goals as goal

pub returns-clause-others : goal.returns-clause-others
returns-clause-others g c =
    let outside = g.D.Desk.outside in
    let now : c.head.new.desk.desk.now ≡ c.desk-1.given.0 = search rules in
    subst (λ d. (r : Role) → r ≢ Video2 → (outside d).left r ≡ (outside c.args.desk.now).left r) now
    (subst (λ d. (r : Role) → r ≢ Video2 → (outside c.head.new.desk.desk.now).left r
    ≡ (outside d).left r) c.new-second.ensures.lent
    (others_at_second c.new-second.result.desk.ghost_name c.head.new.desk.desk.ghost_name
    (outside c.new-second.result.desk.now) (outside c.head.new.desk.desk.now) c.head.ensures.others))

pub returns-clause-rest : goal.returns-clause-rest
returns-clause-rest g c =
    let outside = g.D.Desk.outside in
    let now : c.head.new.desk.desk.now ≡ c.desk-1.given.0 = search rules in
    subst (λ d. OnlyReads (outside c.args.desk.now) (outside d)) now
    (subst (λ d. OnlyReads (outside d) (outside c.head.new.desk.desk.now)) c.new-second.ensures.lent
    (reads_at_second c.new-second.result.desk.ghost_name c.head.new.desk.desk.ghost_name
    (outside c.new-second.result.desk.now) (outside c.head.new.desk.desk.now) c.head.ensures.rest))
