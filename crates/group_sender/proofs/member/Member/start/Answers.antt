use Rattle.std.proofs.Common.{◌≡◌, true, false, refl}
use Rattle.group_sender.proofs.member.Member.start.Goals as goal

pub returns : goal.returns
returns c rules slots lead half chain = record {
  present = refl;
  since = refl;
  said = λ m. false;
  selects = c.start.ensures rules (λ m. 0) (λ m. false) slots lead half chain;
  were_sent = λ m t. let e : false ≡ true = t in cc;
  same = λ m late. refl;
}
