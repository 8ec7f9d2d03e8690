use Rattle.std.proofs.Common.{◌≡◌, Some, None, sym, ◌∙◌}
use Rattle.y4m.specs.Line.{tags_of}
use Rattle.y4m.specs.Head.{format_with, format_in}
use Rattle.y4m.proofs.Heads.{no_word, bad_tag, not_whole, whole_head}
use Rattle.y4m.proofs.Results.{err_is}
use Rattle.y4m.proofs.head.read_format.Goals as goal

pub returns-then-agreed : goal.returns-then-agreed
returns-then-agreed c = sym (no_word c.agreed-agreed.result c.args.line.now c.agreed-agreed.ensures.is c.if-agreed.true)

pub returns-in_err-sizes : goal.returns-in_err-sizes
returns-in_err-sizes c =
    err_is c.from_residual.result c.in_err-sizes.field-0.0 c.from_residual.ensures.1
    ∙ sym (bad_tag c.agreed-agreed.result c.args.line.now c.in_err-sizes.field-0.0 c.agreed-agreed.ensures.is
    c.if-agreed.false c.in_err-sizes.ensures.ok)

pub returns-then-not-is_whole : goal.returns-then-not-is_whole
returns-then-not-is_whole c =
    sym (not_whole c.agreed-agreed.result c.args.line.now c.agreed-agreed.ensures.is c.if-agreed.false
    c.in_ok-sizes.ensures.ok (sym c.if-not-is_whole.ensures))

pub returns-in-Some : goal.returns-in-Some
returns-in-Some c =
    let sizes = c.in_ok-sizes.ensures in
    let format : format_in (tags_of c.args.line.now) ≡ Some c.in-Some.format =
    (λ j. format_with (sym sizes.width j) (sym sizes.height j)) ∙ sym c.in-Some.ensures in
    sym (whole_head c.agreed-agreed.result c.args.line.now (Some c.in-Some.format) c.agreed-agreed.ensures.is
    c.if-agreed.false sizes.ok (sym c.if-not-is_whole.ensures) format)

pub returns-in-None : goal.returns-in-None
returns-in-None c =
    let sizes = c.in_ok-sizes.ensures in
    let format : format_in (tags_of c.args.line.now)
    ≡ None = (λ j. format_with (sym sizes.width j) (sym sizes.height j)) ∙ sym c.in-None.ensures in
    sym (whole_head c.agreed-agreed.result c.args.line.now None c.agreed-agreed.ensures.is c.if-agreed.false sizes.ok
    (sym c.if-not-is_whole.ensures) format)
