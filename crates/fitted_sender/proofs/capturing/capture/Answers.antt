use Rattle.std.proofs.Common.{◌≡◌, ℕ, length, ap, ◌∙◌, subst}
use Rattle.h263_types.specs.declared.params.Params.{Params}
use Rattle.h263_planes.specs.Lent.{picture}
use Rattle.call_encoding.specs.Frames.{Frame}
use Rattle.rate_control.specs.declared.send_pace.SendPace.{SendPace}
use Rattle.rate_control.specs.Pace.{first_quant, quant_after_sizes, target_of}
use Rattle.sender_end.specs.State.{SenderState}
use Rattle.sender_end.specs.Stands.{Describes, Holds, after_code, next_in}
use Rattle.fitted_sender.specs.Aiming.{aim_after}
use Rattle.fitted_sender.proofs.Captured.{is_captured}
use Rattle.fitted_sender.proofs.capturing.capture.Goals as goal

pub returns-clause-captured : goal.returns-clause-captured
returns-clause-captured c run holds =
    let p = c.args.sender.now.params in
    let set = c.set_pace.new.self in
    let new = c.code-coded.new.self in
    let frame : Frame = record { picture = picture c.args.frame; messages = c.args.back.now } in
    let paced = quant_after_sizes (target_of set.pace) (first_quant set.pace) in
    let same : set.params ≡ p = ap (λ (s : SenderState SendPace). s.params) c.set_pace.ensures.others in
    let pace : set.pace ≡ c.pace.result = ap (λ (s : SenderState SendPace). s.pace) c.set_pace.ensures.others in
    let kept = c.set_pace.ensures.holds run holds in
    is_captured p run c.args.aim.now c.kind_of_next-kind.result set.pace (c.kind_of_next-kind.ensures run holds)
    (ap target_of pace ∙ c.pace.ensures.target) (ap first_quant pace
    ∙ c.pace.ensures.first) frame new c.coded.new.self c.code-coded.result
    (c.code-coded.ensures.params ∙ same)
    (subst (λ (q : Params). Holds new (after_code q paced frame run)) same (c.code-coded.ensures.holds run kept))
    (subst (λ (q : Params). Describes (length run.run.coded) (next_in q paced frame run) c.code-coded.result) same
    (c.code-coded.ensures.makes run kept))
    (c.coded.ensures.value ∙ ap (λ (n : ℕ). aim_after c.kind_of_next-kind.result n c.args.aim.now) c.bytes_of.ensures)
