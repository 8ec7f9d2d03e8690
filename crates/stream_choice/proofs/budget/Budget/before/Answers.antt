use Rattle.stream_choice.proofs.Grants.{other_second, same_second}
use Rattle.stream_choice.proofs.budget.Budget.before.Goals as goal

pub returns-then-now-self : goal.returns-then-now-self
returns-then-now-self c = λ past s. same_second c.args.self.now c.args.now past c.if-now-self.true s

pub returns : goal.returns
returns c = λ past s. other_second c.args.self.now c.args.now past c.if-now-self.false c.requires s
