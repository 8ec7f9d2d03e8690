use Rattle.playout_times.proofs.Quarters.{added}
use Rattle.playout_times.proofs.recent.Recent.with.Goals as goal

pub returns : goal.returns
returns c = λ q a past s w e. added c.args.self.now c.min.result c.args.time q a past c.min.ensures s w e
