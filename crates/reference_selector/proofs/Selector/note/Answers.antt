use Rattle.std.proofs.Common.{◌≡◌, ℕ, Bool, ◌||◌, ◌++◌, List, Some, None, ap, sym, ◌∙◌, nat_lt}
use Rattle.std.specs.Prelude.{filter}
use Rattle.call_model.specs.Numbers.{flagged_after}
use Rattle.call_model.specs.CodedPictures.{is_among}
use Rattle.call_model.specs.Sending.{called_complete, made_known, message_flags}
use Rattle.reference_selector.specs.Messages.{message_of, flags_in}
use Rattle.reference_selector.proofs.Flags.{flags_are, known_both}
use Rattle.reference_selector.proofs.Keeping.{same_known}
use Rattle.reference_selector.proofs.Selector.note.Goals as goal

pub returns-in-Some-marks-clause-known : goal.returns-in-Some-marks-clause-known
returns-in-Some-marks-clause-known c rules depth known stands =
    let message = message_of c.args.message.now in
    let called = called_complete rules c.args.sent c.in-Some.t message in
    let flags : message_flags message ≡ flags_in (Some c.in-Some-marks.marks) = flags_are c.args.message.now
    ∙ ap flags_in (sym c.marks.ensures ∙ c.in-Some-marks.is) in
    let flagged : List Bool → List ℕ = λ fs. filter (λ (q : ℕ). nat_lt q c.args.sent) (flagged_after c.in-Some.t fs) in
    let made = ap (λ (fs : List Bool). Some (called ++ flagged fs)) (sym flags)
    ∙ c.in-Some.ensures.value rules stands.half in
    same_known rules c.mark_flagged.new.self c.args.sent depth _ _
    (λ m. known_both called (flagged (flags_in (Some c.in-Some-marks.marks))) (made_known rules c.args.sent message) m
    (known m) made)
    (c.mark_flagged.ensures.known rules depth (λ m. is_among called m || known m)
    (c.mark_called.ensures.known rules depth known stands))

pub returns-in_default-marks-clause-known : goal.returns-in_default-marks-clause-known
returns-in_default-marks-clause-known c rules depth known stands =
    let message = message_of c.args.message.now in
    let called = called_complete rules c.args.sent c.in-Some.t message in
    let flags : message_flags message ≡ flags_in None = flags_are c.args.message.now
    ∙ ap flags_in (sym c.marks.ensures ∙ c.in_default-marks.is) in
    let flagged : List Bool → List ℕ = λ fs. filter (λ (q : ℕ). nat_lt q c.args.sent) (flagged_after c.in-Some.t fs) in
    let made = ap (λ (fs : List Bool). Some (called ++ flagged fs)) (sym flags)
    ∙ c.in-Some.ensures.value rules stands.half in
    same_known rules c.mark_called.new.self c.args.sent depth _ _
    (λ m. known_both called (flagged (flags_in None)) (made_known rules c.args.sent message) m (known m) made)
    (c.mark_called.ensures.known rules depth known stands)
