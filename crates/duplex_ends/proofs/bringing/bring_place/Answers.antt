use Rattle.std.proofs.Common.{[], ◌∷◌, Option, subst, ◌∙◌}
use Rattle.duplex_call.specs.declared.queue.Carried.{Carried}
use Rattle.duplex_ends.specs.Bringing.{IsReturning, carried_in}
use Rattle.duplex_ends.proofs.Returning.{one_back}
use Rattle.duplex_ends.proofs.bringing.bring_place.Goals as goal

pub returns-in_default-clause-holds : goal.returns-in_default-clause-holds
returns-in_default-clause-holds c = λ p way receiver frames whole rest paced r.
    subst (λ (o : Option Carried). IsReturning p way c.args.sender.now receiver frames whole (carried_in (o ∷ rest)))
    c.in_default.is r

pub returns-clause-holds : goal.returns-clause-holds
returns-clause-holds c = λ p way receiver frames whole rest paced r.
    one_back p (c.event_laws.ensures p) way receiver frames c.args.sender.now c.bring_back.new.sender whole
    c.in-Some.carried (carried_in rest)
    c.text.result.now (c.text.ensures ∙ c.bytes_of.ensures)
    (λ receiver frames past k told h at same near. c.bring_back.ensures.holds p way receiver [] frames past k told paced
    h at same near)
    (subst (λ (o : Option Carried). IsReturning p way c.args.sender.now receiver frames whole (carried_in (o ∷ rest)))
    c.in-Some.is r)
