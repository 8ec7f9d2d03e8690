use Rattle.std.proofs.Common.{ℕ, List, ◌∷◌, ap, refl, sym, subst, ◌∙◌}
use Rattle.h263_types.specs.declared.pace.FixedPace.{FixedPace}
use Rattle.call_model.specs.Sending.{Feedback}
use Rattle.sender_end.specs.State.{SenderState}
use Rattle.sender_end.specs.Stands as sender_end
use Rattle.one_way.specs.Both.{steady}
use Rattle.one_way.proofs.Holding.{holds_message}
use Rattle.one_way.proofs.OneMore.{after_message, sent_in}
use Rattle.one_way.proofs.Sending.{can_send, stands_so}
use Rattle.one_way.proofs.way.bring_back.Goals as goal

pub returns-clause-ready : goal.returns-clause-ready
returns-clause-ready c = λ way can.
    let told = c.feedback.ensures in
    let params = ap (λ (x : SenderState FixedPace). x.params) told.others in
    let pace = ap (λ (x : SenderState FixedPace). x.pace) told.others in
    let sent = ap (λ (x : SenderState FixedPace). x.sent) told.others in
    can_send way way c.args.sender.now c.feedback.new.self can (Feedback c.args.bytes.now) params pace told.stands refl
    refl can.keeping (can.begun ∙ sym sent)

pub returns-clause-holds : goal.returns-clause-holds
returns-clause-holds c = λ p way receiver before frames past k told paced h at same near.
    let old = c.args.sender.now in
    let new = c.feedback.new.self in
    let entries = sent_in p (steady p) frames before past in
    let stands = stands_so p c.args.sender.now.pace.quant paced old new (Feedback c.args.bytes.now)
    c.feedback.ensures.stands entries h.joined.sends in
    holds_message p way old receiver before frames past h new k near
    (after_message p (c.ends_run.ensures p) (steady p) old receiver frames before past h.joined new k told
    (ap (λ (x : SenderState FixedPace). x.params) c.feedback.ensures.others) at
    (subst (λ (bytes : List ℕ). sender_end.PacedStands (steady p) new (Feedback bytes ∷ entries)) (sym same) stands))
