use Rattle.std.proofs.Common.{arith}
use Rattle.playout_times.proofs.Following.{other_picture, same_picture}
use Rattle.playout_times.proofs.runs.Runs.with.Goals as goal

pub returns-then-self-picture : goal.returns-then-self-picture
returns-then-self-picture c = λ a past s p w.
    same_picture c.args.self.now c.min.result c.args.time c.args.picture a past s c.if-self-picture.true
    c.min.ensures p w

pub returns-else-self-picture : goal.returns-else-self-picture
returns-else-self-picture c = λ a past s p w.
    other_picture c.args.self.now c.args.time c.args.picture a past s c.if-self-picture.false (omega arith) p w
