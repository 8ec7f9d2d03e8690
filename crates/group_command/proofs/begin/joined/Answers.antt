use Rattle.std.proofs.Common.{◌≡◌, ℕ, suc, ◌+◌, subst, ◌∙◌, arith}
use Rattle.group_call.specs.Holding.{HoldsBroadcast}
use Rattle.group_command.specs.Group.{after_joins}
use Rattle.group_command.proofs.begin.joined.Goals as goal

pub places-preserved : goal.places-preserved
places-preserved c =
    let before = c.places.invariant in
    let next : suc c.places.place ≡ c.places.place + 1 = omega arith in
    record {
      params = c.join.ensures.params ∙ before.params;
      sent = c.join.ensures.sent ∙ before.sent;
      kept = c.join.ensures.kept ∙ before.kept;
      casting = c.join.ensures.ready before.casting;
      holds = subst (λ (k : ℕ). HoldsBroadcast c.args.params.now c.join.new.self (after_joins k)) next
          (c.join.ensures.holds c.args.params.now (after_joins c.places.place) before.holds);
    }

pub returns-clause-params : goal.returns-clause-params
returns-clause-params c = c.places.invariant.params

pub returns-clause-sent : goal.returns-clause-sent
returns-clause-sent c = c.places.invariant.sent

pub returns-clause-kept : goal.returns-clause-kept
returns-clause-kept c = c.places.invariant.kept

pub returns-clause-ready : goal.returns-clause-ready
returns-clause-ready c = c.places.invariant.casting

pub returns-clause-holds : goal.returns-clause-holds
returns-clause-holds c =
    let all : c.places.place ≡ c.args.receivers = omega (arith, c.places-test.false, c.places.auto.place-end) in
    subst (λ (k : ℕ). HoldsBroadcast c.args.params.now c.places.cast (after_joins k)) all c.places.invariant.holds
