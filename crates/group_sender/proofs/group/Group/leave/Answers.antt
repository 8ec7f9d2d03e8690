use Rattle.std.proofs.Common.{◌≡◌, List, ap, arith, length, refl, sym}
use Rattle.std.proofs.lemmas.List.{with_items_is}
use Rattle.call_decoding.specs.Rules.{rules_of}
use Rattle.group_sender.specs.declared.member.Member.{Member}
use Rattle.group_sender.specs.Parties.{party_at, party_left, with_party_at}
use Rattle.group_sender.proofs.Grouping.{stand_as}
use Rattle.group_sender.proofs.group.Group.leave.Goals as goal

pub returns-clause-holds : goal.returns-clause-holds
returns-clause-holds g c = λ run held.
    let v = c.args.self.now.members in
    let rules = rules_of c.args.self.now.params in
    let k = c.args.receiver in
    let n = length run.coded in
    let before = stand_as rules v.items c.as_mut_slice.result.now n n run.parties (sym c.as_mut_slice.ensures.value)
    refl held.members in
    let after = c.leave_at.ensures.stands rules n run.parties before in
    let as_long : length c.as_mut_slice.result.now
    ≡ length v.items = ap (λ (l : List Member). length l) c.as_mut_slice.ensures.value in
    let items = with_items_is v c.leave_at.new.members (omega (arith, c.leave_at.ensures.count, as_long, v.ok.0)) in
    record {
      sender = held.sender;
      members = stand_as rules c.leave_at.new.members _ n n
          (with_party_at k (party_left (party_at run.parties k)) run.parties) (sym items) refl after;
    }
