use Rattle.std.proofs.Common.{◌∙◌, List, ap, arith, subst, sym}
use Rattle.std.specs.List.{list_all}
use Rattle.std.proofs.lemmas.List.{take_all}
use Rattle.group_sender.specs.declared.member.Member.{Member}
use Rattle.group_sender.specs.Parties.{Party, may_go_by, party_at}
use Rattle.group_sender.specs.Standing.{MemberStands}
use Rattle.group_sender.proofs.Places.{one_more}
use Rattle.group_sender.proofs.members.all_have_it.Goals as goal

pub places-preserved : goal.places-preserved
places-preserved c = λ rules sent parties stand below last.
    let k = c.places.k in
    let one = c.index-members-k.result in
    let here : MemberStands rules one sent (party_at parties k) =
    subst (λ (x : Member). MemberStands rules x sent (party_at parties k)) (sym c.index-members-k.is)
    (stand.each k one c.places-test.true)
    in
    one_more c.args.number k parties (omega (arith, stand.count, c.places-test.true))
    (c.places.invariant rules sent parties stand below last)
    (sym (c.may_go_by.ensures rules sent (party_at parties k) here below last) ∙ c.if-not-may_go_by.false)

pub returns : goal.returns
returns c = λ rules sent parties stand below last.
    sym (ap (λ (l : List Party). list_all (may_go_by c.args.number) l)
    (sym (take_all c.places.k parties (omega (arith, stand.count, c.places-test.false))))
    ∙ c.places.invariant rules sent parties stand below last)
