use Rattle.std.proofs.Common.{sym}
use Rattle.stream_choice.proofs.Grants.{grants, refuses, stands_granted, stands_refused}
use Rattle.stream_choice.proofs.budget.Budget.grants.Goals as goal

pub returns-then-before-self-clause-answer : goal.returns-then-before-self-clause-answer
returns-then-before-self-clause-answer c = λ past s.
    sym (grants c.args.self.now c.args.now c.before-before.result past
    (c.before-before.ensures past s) c.if-before-self.true)

pub returns-then-before-self-clause-stands : goal.returns-then-before-self-clause-stands
returns-then-before-self-clause-stands c = λ past s.
    stands_granted c.args.self.now c.args.now c.before-before.result past c.requires (c.before-before.ensures past s)
    c.if-before-self.true s

pub returns-else-before-self-clause-answer : goal.returns-else-before-self-clause-answer
returns-else-before-self-clause-answer c = λ past s.
    sym (refuses c.args.self.now c.args.now c.before-before.result past
    (c.before-before.ensures past s) c.if-before-self.false)

pub returns-else-before-self-clause-stands : goal.returns-else-before-self-clause-stands
returns-else-before-self-clause-stands c = λ past s.
    stands_refused c.args.self.now c.args.now c.before-before.result past c.requires (c.before-before.ensures past s)
    c.if-before-self.false s
