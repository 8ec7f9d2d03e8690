use Rattle.std.proofs.Common.{◌≡◌, ℕ, zero, suc, ◌+◌, ◌<◌, Bool, List, [], ◌∷◌, length, Some, None, sym, ap, ◌∙◌, arith, if◌then◌else◌}
use Rattle.std.specs.Prelude.{slice_get}
use Rattle.std.proofs.lemmas.Bool.{le-leb}
use Rattle.back_messages.specs.declared.writing.Said.{Said}
use Rattle.call_model.specs.JoinedRun.{SaidMessage}
use Rattle.call_rings.specs.Messages.{message_at}
use Rattle.one_way.specs.Both.{both_after, steady}
use Rattle.one_way.specs.Network.{told_in}
use Rattle.one_way.proofs.Bringing.{message_kept, some_at, there}
use Rattle.one_way.proofs.Holding.{as_many}
use Rattle.one_way.proofs.Ring.{told_at}
use Rattle.one_way.proofs.network.Network.bring_back.Goals as goal

pub returns-in-Some-clause-ready : goal.returns-in-Some-clause-ready
returns-in-Some-clause-ready c = c.bring_back.ensures.ready c.args.self.now.way

pub returns-in-Some-clause-holds : goal.returns-in-Some-clause-holds
returns-in-Some-clause-holds c = λ p receiver before frames past in_range paced begun h near.
    let k = c.args.k in
    let said = h.messages_are in
    let x : ℕ × Said = (c.in-Some.field-0-0, c.in-Some.message) in
    let at = there said.pairs k x (sym (c.get.ensures said.pairs said.holds) ∙ c.in-Some.is) in
    let told : SaidMessage = told_in x in
    let now : slice_get (both_after p (steady p) frames before past).said k ≡ Some told =
    ap (λ (l : List SaidMessage). slice_get l k) (sym said.same) ∙ told_at said.pairs k x at
    in
    record {
      way_holds = c.bring_back.ensures.holds p c.args.self.now.way receiver before frames past k told paced h.way_holds
          now (sym c.text.ensures) near;
      messages_are = said;
    }

below : {X : Type 0} (xs : List X) (n : ℕ) (x : X) → slice_get xs n ≡ Some x → n < length xs
below [] n x is = absurd (cc is)
below (y ∷ xs) zero x is = omega arith
below (y ∷ xs) (suc n) x is = omega (arith, below xs n x is)

-- a near message is in the ring
pub returns-in_default-clause-holds : goal.returns-in_default-clause-holds
returns-in_default-clause-holds c = λ p receiver before frames past in_range paced begun h near.
    let k = c.args.k in
    let said = h.messages_are in
    let all = (both_after p (steady p) frames before past).said in
    let long : length said.pairs ≡ length all = sym (as_many told_in said.pairs)
    ∙ ap (λ (l : List SaidMessage). length l) said.same in
    let kept = message_kept p in_range (c.near_event_laws.ensures p in_range) c.args.self.now c.args.sender.now receiver
    before frames past begun h k near in
    let x = some_at said.pairs k (omega (arith, below all k near.0 near.1, long)) in
    let here : message_at said.pairs k ≡ Some x.0 = ap (λ (b : Bool). if b then slice_get said.pairs k else None)
    (le-leb (length said.pairs) (k + 1024) kept) ∙ x.1 in
    absurd (cc (c.in_default.is, here, c.get.ensures said.pairs said.holds))
