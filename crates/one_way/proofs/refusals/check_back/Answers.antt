-- A message that has left the ring is one whose picture is too far back.
use Rattle.std.proofs.Common.{◌≡◌, ℕ, ◌+◌, ◌<◌, ◌≤◌, length, map, Option, Err, refl, sym, subst, ◌∙◌, arith, None}
use Rattle.back_messages.specs.declared.writing.Said.{Said}
use Rattle.call_model.specs.IdealCall.{Back}
use Rattle.call_model.specs.Refusals.{Far, NotSaid, Refusal, first_refusal}
use Rattle.call_decoding.specs.Rules.{rules_of}
use Rattle.one_way.specs.declared.refusals.EventRefusal.TheVariants as told
use Rattle.one_way.specs.Both.{both_after, steady}
use Rattle.one_way.specs.Network.{about_of}
use Rattle.one_way.specs.Refused.{IsAllowed}
use Rattle.one_way.proofs.Bringing.{late_by, message_kept, near_by, none_past, same_about, there, told_is, too_late}
use Rattle.one_way.proofs.Refusing.{back_near, back_unsaid}
use Rattle.one_way.proofs.Ring.{about_at}
use Rattle.one_way.proofs.refusals.check_back.Goals as goal

pub returns-then-said-from : goal.returns-then-said-from
returns-then-said-from c = λ p receiver before frames past in_range half begun h.
    let k = c.args.message in
    let said = h.messages_are in
    let played = (both_after p (steady p) frames before past).receiver.played in
    let same = c.sent-sent.ensures.value
    ∙ (c.way_laws.ensures p).sent c.args.sender.now receiver before frames past h.way_holds.joined in
    let told_so = told_is p in_range (c.near_event_laws.ensures p in_range) c.args.network.now c.args.sender.now
    receiver before frames past begun h c.sent-sent.result k same in
    let few : length said.pairs ≤ k = omega (
      arith,
      c.if-said-from.true,
      c.said.ensures.messages said.pairs said.holds,
      c.from.ensures,
    ) in
    subst (λ (o : Option Refusal). IsAllowed (Err told.NotSaid) (Back k) o) told_so (
      NotSaid,
      back_unsaid (rules_of p) c.sent-sent.result played (map about_of said.pairs) (c.sent-sent.result + 1) k
          (none_past said.pairs k few),
      refl,
    )

pub returns-in-Some : goal.returns-in-Some
returns-in-Some c = λ p receiver before frames past in_range half begun h.
    let k = c.args.message in
    let said = h.messages_are in
    let played = (both_after p (steady p) frames before past).receiver.played in
    let same = c.sent-sent.ensures.value
    ∙ (c.way_laws.ensures p).sent c.args.sender.now receiver before frames past h.way_holds.joined in
    let told_so = told_is p in_range (c.near_event_laws.ensures p in_range) c.args.network.now c.args.sender.now
    receiver before frames past begun h c.sent-sent.result k same in
    let x : ℕ × Said = (c.in-Some.about, c.in-Some.field-0-1) in
    let at = there said.pairs k x (sym (c.get.ensures said.pairs said.holds) ∙ c.in-Some.is) in
    let near : c.sent-sent.result < c.in-Some.about + c.args.half =
    near_by (c.in-Some.about + c.args.half) c.sent-sent.result (sym c.is_late.ensures ∙ c.if-not-is_late.true) in
    sym told_so ∙ back_near (rules_of p) c.sent-sent.result played (map about_of said.pairs) (c.sent-sent.result + 1) k
    c.in-Some.about (about_at said.pairs k x at) (omega (arith, near, half))

pub returns-in_default : goal.returns-in_default
returns-in_default c = λ p receiver before frames past in_range half begun h.
    let k = c.args.message in
    let said = h.messages_are in
    let laws = c.near_event_laws.ensures p in_range in
    let played = (both_after p (steady p) frames before past).receiver.played in
    let same = c.sent-sent.ensures.value
    ∙ (c.way_laws.ensures p).sent c.args.sender.now receiver before frames past h.way_holds.joined in
    let told_so = told_is p in_range laws c.args.network.now c.args.sender.now receiver before frames past begun h
    c.sent-sent.result k same in
    let some : k < length said.pairs = omega (
      arith,
      c.if-said-from.false,
      c.said.ensures.messages said.pairs said.holds,
      c.from.ensures,
    ) in
    let far : c.in-Some.about + c.args.half ≤ c.sent-sent.result =
    late_by (c.in-Some.about + c.args.half) c.sent-sent.result (sym c.is_late.ensures ∙ c.if-not-is_late.false) in
    let kept : first_refusal (rules_of p) (c.sent-sent.result + 1) c.sent-sent.result played (map about_of said.pairs)
    (Back k) ≡ None → length said.pairs ≤ k + 1024 =
    λ none. message_kept p in_range laws c.args.network.now c.args.sender.now receiver before frames past begun h k
    (laws.back before frames past k (sym told_so ∙ none))
    in
    let gone = too_late (rules_of p) c.sent-sent.result played said.pairs k some kept (λ x is.
    let about : c.in-Some.about ≡ x.0 = same_about _ _ (c.in-Some.about, c.in-Some.field-0-1) x c.in-Some.is
    (c.get.ensures said.pairs said.holds) is in
    omega (arith, far, half, about)) in
    subst (λ (o : Option Refusal). IsAllowed (Err (told.Far k c.sent-sent.result)) (Back k) o) told_so
    (Far gone.0 c.sent-sent.result, gone.1, refl)

pub returns-in_default-2 : goal.returns-in_default-2
returns-in_default-2 c = λ p receiver before frames past in_range half begun h.
    let k = c.args.message in
    let said = h.messages_are in
    let laws = c.near_event_laws.ensures p in_range in
    let played = (both_after p (steady p) frames before past).receiver.played in
    let same = c.sent-sent.ensures.value
    ∙ (c.way_laws.ensures p).sent c.args.sender.now receiver before frames past h.way_holds.joined in
    let told_so = told_is p in_range laws c.args.network.now c.args.sender.now receiver before frames past begun h
    c.sent-sent.result k same in
    let some : k < length said.pairs = omega (
      arith,
      c.if-said-from.false,
      c.said.ensures.messages said.pairs said.holds,
      c.from.ensures,
    ) in
    let kept : first_refusal (rules_of p) (c.sent-sent.result + 1) c.sent-sent.result played (map about_of said.pairs)
    (Back k) ≡ None → length said.pairs ≤ k + 1024 =
    λ none. message_kept p in_range laws c.args.network.now c.args.sender.now receiver before frames past begun h k
    (laws.back before frames past k (sym told_so ∙ none))
    in
    let gone = too_late (rules_of p) c.sent-sent.result played said.pairs k some kept
    (λ x is. absurd (cc (c.in_default.is, is, c.get.ensures said.pairs said.holds))) in
    subst (λ (o : Option Refusal). IsAllowed (Err (told.Far k c.sent-sent.result)) (Back k) o) told_so
    (Far gone.0 c.sent-sent.result, gone.1, refl)
