use Rattle.std.proofs.Common.{◌≤◌, Bool, not, ◌||◌, ◌&&◌, sym, ap, ◌∙◌, arith, leb}
use Rattle.std.proofs.lemmas.Bool.{le-leb}
use Rattle.call_model.specs.CodedPictures.{is_among}
use Rattle.group_sender.proofs.member.Member.may_go_by.Goals as goal

pub returns : goal.returns
returns c rules sent party stands below last =
    let n = c.args.number in
    let low : party.since ≤ n = omega (arith, c.if-number-self.false, stands.since) in
    c.knows.ensures rules sent (λ m. 0) stands.said below last stands.selects
    ∙ stands.same n low
    ∙ sym (ap (λ (b : Bool). b && is_among party.told n) (le-leb party.since n low))
    ∙ sym (ap (λ (b : Bool). not b || (leb party.since n && is_among party.told n)) (sym stands.present
    ∙ c.if-not-self.false))
