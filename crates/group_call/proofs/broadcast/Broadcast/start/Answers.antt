use Rattle.std.proofs.Common.{ℕ, ◌*◌, ap, ◌∙◌, sym}
use Rattle.h263_types.specs.declared.pace.FixedPace.{FixedPace}
use Rattle.group_sender.specs.Running.{no_group}
use Rattle.group_call.proofs.broadcast.Broadcast.start.Goals as goal

pub returns-clause-holds : goal.returns-clause-holds
returns-clause-holds c =
    let ring = c.in_ok-packets.ensures in
    let group = c.in_ok-group.ensures in
    record {
      in_range = c.requires.in_range;
      params = group.params;
      quant = ap (λ (pace : FixedPace). pace.quant) group.pace;
      holds = group.holds;
      packets = (c.ring_laws.ensures c.args.params.now).none _ ring.none;
      references = c.in_ok-references.ensures;
      room = ring.sizes.room_is ∙ ap (λ (n : ℕ). 1200 * n) c.mbs-mbs.ensures;
      most = ring.sizes.most_is ∙ c.mbs-mbs.ensures;
      begun = ring.begun ∙ sym group.sent;
    }

pub returns-clause-ready : goal.returns-clause-ready
returns-clause-ready c = record { params = c.args.params.now; run = no_group; holds = returns-clause-holds c }
