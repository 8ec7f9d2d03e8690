use Rattle.std.proofs.Common.{Bool, cond, ap, sym, ◌∙◌}
use Rattle.std.proofs.lemmas.Bool.{le-leb, lt-leb}
use Rattle.line_follower.specs.Following.{followed, with_told}
use Rattle.line_follower.proofs.follower.Follower.told_by.Goals as goal

pub returns-then-self-picture : goal.returns-then-self-picture
returns-then-self-picture c =
    let p = c.args.picture.now in
    let f = with_told p c.args.is_whole c.args.now c.args.self.now in
    c.follow.ensures
    ∙ ap (followed p c.args.is_whole c.args.now) c.notice.ensures
    ∙ sym (ap (λ (b : Bool). cond b (followed p c.args.is_whole c.args.now f) f)
    (le-leb c.args.self.now.line.since p.number c.if-self-picture.true))

pub returns-else-self-picture : goal.returns-else-self-picture
returns-else-self-picture c =
    let p = c.args.picture.now in
    let f = with_told p c.args.is_whole c.args.now c.args.self.now in
    c.notice-else-self-picture.ensures
    ∙ sym (ap (λ (b : Bool). cond b (followed p c.args.is_whole c.args.now f) f)
    (lt-leb c.args.self.now.line.since p.number c.if-self-picture.false))
