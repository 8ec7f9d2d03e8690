-- A message is refused exactly where it may not come back.
use Rattle.std.proofs.Common.{◌≡◌, ℕ, ◌+◌, ◌<◌, ◌≤◌, length, Option, Some, None, refl, sym, ap, ◌∙◌, arith}
use Rattle.std.specs.Option.{option_map}
use Rattle.back_messages.specs.declared.writing.Said.{Said}
use Rattle.call_model.specs.Refusals.{Far, NotSaid}
use Rattle.call_decoding.specs.Rules.{rules_of}
use Rattle.receiver_end.specs.State.{run_of}
use Rattle.one_way.specs.Network.{told_in}
use Rattle.one_way.specs.declared.refusals.EventRefusal.TheVariants as told
use Rattle.group_call.specs.Viewing.{told_at}
use Rattle.group_call.proofs.Counting.{has_left, late_by, message_left, near_by, there, told_far, told_near, told_unsaid}
use Rattle.group_call.proofs.refusals.check_message.Goals as goal

pub returns-then-told-from : goal.returns-then-told-from
returns-then-told-from c = λ p run view half cast h.
    let played = (run_of p view.entries).played in
    let few : length view.told ≤ c.args.message = omega (
      arith,
      c.if-told-from.true,
      c.told.ensures.view p view h,
      c.from.ensures,
    ) in
    (NotSaid, told_unsaid (rules_of p) (length run.coded) played view.told c.args.message few, refl)

pub returns-in-Some : goal.returns-in-Some
returns-in-Some c = λ p run view half cast h.
    let k = c.args.message in
    let played = (run_of p view.entries).played in
    let sent : c.sent-sent.result ≡ length run.coded = c.sent-sent.ensures.run p run cast in
    let x : ℕ × Said = (c.in-Some.about, c.in-Some.field-0-1) in
    let at : told_at view.told k ≡ Some (told_in x) = sym (c.message.ensures p view h)
    ∙ ap (λ (o : Option (ℕ × Said)). option_map told_in o) c.in-Some.is in
    let said = there (rules_of p) (length run.coded) played view.told k (told_in x) at in
    let near : c.sent-sent.result < c.in-Some.about + c.args.half =
    near_by (c.in-Some.about + c.args.half) c.sent-sent.result (sym c.is_late.ensures ∙ c.if-not-is_late.true) in
    told_near (rules_of p) (length run.coded) played view.told k (told_in x) said.0 said.1 (omega (
      arith,
      near,
      half,
      sent,
    ))

pub returns-in_default : goal.returns-in_default
returns-in_default c = λ p run view half cast h.
    let k = c.args.message in
    let played = (run_of p view.entries).played in
    let sent : c.sent-sent.result ≡ length run.coded = c.sent-sent.ensures.run p run cast in
    let x : ℕ × Said = (c.in-Some.about, c.in-Some.field-0-1) in
    let at : told_at view.told k ≡ Some (told_in x) = sym (c.message.ensures p view h)
    ∙ ap (λ (o : Option (ℕ × Said)). option_map told_in o) c.in-Some.is in
    let said = there (rules_of p) (length run.coded) played view.told k (told_in x) at in
    let far : c.in-Some.about + c.args.half ≤ c.sent-sent.result =
    late_by (c.in-Some.about + c.args.half) c.sent-sent.result (sym c.is_late.ensures ∙ c.if-not-is_late.false) in (
      Far c.in-Some.about (length run.coded),
      told_far (rules_of p) (length run.coded) played view.told k
          (told_in x) said.0 said.1 (omega (arith, far, half, sent)),
      λ i. told.Far k (sent i),
    )

pub returns-in_default-2 : goal.returns-in_default-2
returns-in_default-2 c = λ p run view half cast h.
    let k = c.args.message in
    let played = (run_of p view.entries).played in
    let sent : c.sent-sent.result ≡ length run.coded = c.sent-sent.ensures.run p run cast in
    let none : told_at view.told k ≡ None = sym (c.message.ensures p view h)
    ∙ ap (λ (o : Option (ℕ × Said)). option_map told_in o) c.in_default.is in
    let some : k < length view.told = omega (
      arith,
      c.if-told-from.false,
      c.told.ensures.view p view h,
      c.from.ensures,
    ) in
    let left = has_left (rules_of p) (length run.coded) played view.told k none some in (
      Far k (length run.coded),
      message_left (rules_of p) (length run.coded) played view.told k left,
      λ i. told.Far k (sent i),
    )
