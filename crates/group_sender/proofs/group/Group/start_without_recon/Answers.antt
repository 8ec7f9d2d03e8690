use Rattle.std.proofs.Common.{refl}
use Rattle.call_decoding.specs.Rules.{rules_of}
use Rattle.group_sender.proofs.group.Group.start_without_recon.Goals as goal

pub returns-clause-holds : goal.returns-clause-holds
returns-clause-holds g c = record {
  sender = c.in_ok-sender.ensures.holds;
  members = c.in_ok-members.ensures.stands (rules_of c.args.params.now) refl refl refl refl;
}
