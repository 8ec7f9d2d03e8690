use Rattle.std.proofs.Common.{◌≡◌, ℕ, List, ap, arith, length, refl, subst, sym}
use Rattle.std.specs.Vec.{with_items}
use Rattle.std.proofs.lemmas.List.{with_items_is}
use Rattle.call_decoding.specs.Rules.{rules_of}
use Rattle.group_sender.specs.declared.member.Member.{Member}
use Rattle.group_sender.specs.Parties.{party_joined, with_party_at}
use Rattle.group_sender.specs.Holding.{pictures_alone}
use Rattle.group_sender.specs.Standing.{MembersStand}
use Rattle.group_sender.proofs.Grouping.{stand_as}
use Rattle.group_sender.proofs.group.Group.join.Goals as goal

pub returns-clause-holds : goal.returns-clause-holds
returns-clause-holds g c = λ run held.
    let v = c.args.self.now.members in
    let rules = rules_of c.args.self.now.params in
    let k = c.args.receiver in
    let sent_is : c.sent-sent.result ≡ length run.coded = c.sent-sent.ensures.holds (pictures_alone run) held.sender in
    let before = stand_as rules v.items c.as_mut_slice.result.now (length run.coded) c.sent-sent.result run.parties
    (sym c.as_mut_slice.ensures.value) (sym sent_is) held.members in
    let after = c.join_at.ensures.stands rules run.parties before in
    let as_long : length c.as_mut_slice.result.now
    ≡ length v.items = ap (λ (l : List Member). length l) c.as_mut_slice.ensures.value in
    let items = with_items_is v c.join_at.new.members (omega (arith, c.join_at.ensures.count, as_long, v.ok.0)) in
    record {
      sender = held.sender;
      members =
          subst (λ (n : ℕ). MembersStand rules (with_items v c.join_at.new.members).items n
          (with_party_at k (party_joined n) run.parties)) sent_is
          (stand_as rules c.join_at.new.members _ c.sent-sent.result c.sent-sent.result
          (with_party_at k (party_joined c.sent-sent.result) run.parties) (sym items) refl after);
    }
