use Rattle.std.proofs.Common.{◌∙◌, arith}
use Rattle.std.proofs.lemmas.List.{length-set}
use Rattle.group_sender.specs.Parties.{party_at}
use Rattle.group_sender.proofs.Places.{told_all, told_one}
use Rattle.group_sender.proofs.members.tell_coded.Goals as goal

pub places-preserved : goal.places-preserved
places-preserved c =
    let k = c.places.k in
    let members = c.places.members in
    let one = c.index-members-k.result in (
      length-set members k c.coded.new.self ∙ c.places.invariant.0,
      λ rules parties stand.
          let told = c.places.invariant.1 rules parties stand in
          let here = told.left k one (omega arith) (omega (arith, c.places-test.true, c.places.invariant.0)) in
          told_one rules members c.args.number k parties c.coded.new.self (omega (
            arith,
            c.places-test.true,
            c.places.invariant.0,
          )) told (c.coded.ensures rules (party_at parties k) here),
    )

pub returns-clause-stands : goal.returns-clause-stands
returns-clause-stands c = λ rules parties stand.
    told_all rules c.places.members c.args.number c.places.k parties (omega (
      arith,
      c.places-test.false,
      c.places.invariant.0,
    )) (c.places.invariant.1 rules parties stand)
