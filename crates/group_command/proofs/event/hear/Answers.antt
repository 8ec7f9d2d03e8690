use Rattle.std.proofs.Common.{◌≡◌, ℕ, List, Option, Some, None, sym, ap, subst, ◌∙◌}
use Rattle.std.specs.Option.{option_map}
use Rattle.back_messages.specs.declared.writing.Said.{Said}
use Rattle.call_model.specs.JoinedRun.{SaidMessage}
use Rattle.one_way.specs.Network.{told_in}
use Rattle.group_sender.specs.Holding.{group_after_saying}
use Rattle.group_call.specs.Holding.{HoldsBroadcast}
use Rattle.group_call.specs.Viewing.{told_at}
use Rattle.group_command.specs.Group.{group_heard}
use Rattle.group_command.proofs.event.hear.Goals as goal

pub returns-in-Some-clause-holds : goal.returns-in-Some-clause-holds
returns-in-Some-clause-holds c = λ p run view cast h.
    let x : ℕ × Said = (c.in-Some.field-0-0, c.in-Some.said) in
    let at : Some (told_in x) ≡ told_at view.told c.args.message =
    sym (ap (λ (o : Option (ℕ × Said)). option_map told_in o) c.in-Some.is) ∙ c.message.ensures p view h in
    subst (λ (o : Option SaidMessage). HoldsBroadcast p c.hear.new.self (group_heard p c.args.place run view o)) at
    (subst (λ (b : List ℕ). HoldsBroadcast p c.hear.new.self (group_after_saying p c.args.place b run)) c.text.ensures
    (c.hear.ensures.holds p run cast))

pub returns-in_default-clause-holds : goal.returns-in_default-clause-holds
returns-in_default-clause-holds c = λ p run view cast h.
    let at : None ≡ told_at view.told c.args.message =
    sym (ap (λ (o : Option (ℕ × Said)). option_map told_in o) c.in_default.is) ∙ c.message.ensures p view h in
    subst (λ (o : Option SaidMessage). HoldsBroadcast p c.args.cast.now (group_heard p c.args.place run view o)) at cast
