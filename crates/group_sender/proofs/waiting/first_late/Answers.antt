use Rattle.std.proofs.Common.{◌∙◌, arith, subst, sym}
use Rattle.group_sender.specs.declared.member.Member.{Member}
use Rattle.group_sender.specs.Parties.{party_at}
use Rattle.group_sender.specs.Running.{is_waited_for}
use Rattle.group_sender.specs.Standing.{MemberStands}
use Rattle.group_sender.proofs.FirstLate.{first_is, none_is}
use Rattle.group_sender.proofs.waiting.first_late.Goals as goal

pub returns-then-is_late : goal.returns-then-is_late
returns-then-is_late c = λ rules parties stand is wide.
    let k = c.places.k in
    let one = c.index-members-k.result in
    let here : MemberStands rules one c.args.sent (party_at parties k) =
    subst (λ (x : Member). MemberStands rules x c.args.sent (party_at parties k)) (sym c.index-members-k.is)
    (stand.each k one (omega (arith, c.requires, c.places-test.true)))
    in
    sym (first_is (is_waited_for rules c.args.sent) parties k (omega (
      arith,
      stand.count,
      c.requires,
      c.places-test.true,
    ))
    (λ j low. c.places.invariant rules parties stand is wide j low)
    (sym (c.is_late.ensures rules (party_at parties k) here is wide) ∙ c.if-is_late.true))

pub returns : goal.returns
returns c = λ rules parties stand is wide.
    sym (none_is (is_waited_for rules c.args.sent) parties
    (λ j low. c.places.invariant rules parties stand is wide j (omega (
      arith,
      low,
      stand.count,
      c.requires,
      c.places-test.false,
    ))))
