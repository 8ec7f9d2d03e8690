use Rattle.std.proofs.Common.{◌<◌, refl, arith}
use Rattle.group_sender.proofs.Saying.{is_false}
use Rattle.group_sender.proofs.member.Member.coded.Goals as goal

pub returns : goal.returns
returns c rules party stands =
    let n = c.args.number in
    record {
      present = stands.present;
      since = stands.since;
      said = stands.said;
      selects = c.coded.ensures rules (λ m. 0) stands.said refl (is_false (stands.said n) (λ t. let below : n < n =
          stands.were_sent n t in omega (arith, below))) stands.selects;
      were_sent = λ m t. omega (arith, stands.were_sent m t);
      same = stands.same;
    }
