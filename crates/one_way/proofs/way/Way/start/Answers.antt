use Rattle.std.proofs.Common.{ℕ, ◌*◌, [], refl, ap, ◌∙◌}
use Rattle.one_way.specs.declared.tally.Tally.{Tally}
use Rattle.one_way.specs.Counts.{total_of}
use Rattle.one_way.proofs.Sent.{none_sent}
use Rattle.one_way.proofs.way.Way.start.Goals as goal

pub returns : goal.returns
returns c =
    let ring = c.in_ok-start.ensures in
    record {
      period = ring.sizes.period_is;
      room = ring.sizes.room_is ∙ ap (λ (n : ℕ). 1200 * n) c.mbs-mbs.ensures;
      most = ring.sizes.most_is ∙ c.mbs-mbs.ensures;
      begun = ring.begun;
      total = ap total_of c.new.ensures;
      tally = record {
        exact = ap (λ (t : Tally). t.exact) c.new.ensures;
        patched = ap (λ (t : Tally). t.patched) c.new.ensures;
        held = ap (λ (t : Tally). t.held) c.new.ensures;
      };
      packets = record { pictures = []; keeps = ring.none; count = refl; each = none_sent c.args.params.now };
      references = c.in_ok-start-2.ensures;
    }
