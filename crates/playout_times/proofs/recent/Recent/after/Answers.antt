use Rattle.std.proofs.Common.{arith}
use Rattle.playout_times.proofs.Quarters.{after_more, after_none, after_one, after_two}
use Rattle.playout_times.proofs.recent.Recent.after.Goals as goal

pub returns-in-0 : goal.returns-in-0
returns-in-0 c = λ q past s. after_none c.args.self.now q c.args.quarters past c.in-0.is s

pub returns-in-1 : goal.returns-in-1
returns-in-1 c = λ q past s. after_one c.args.self.now q c.args.quarters past c.in-1.is s

pub returns-in-2 : goal.returns-in-2
returns-in-2 c = λ q past s. after_two c.args.self.now q c.args.quarters past c.in-2.is s

pub returns-in_default : goal.returns-in_default
returns-in_default c = λ q past s.
    after_more c.args.self.now c.none.result q c.args.quarters past (omega arith) s c.none.ensures
