use Rattle.std.proofs.Common.{ℕ, ◌-◌, ◌≤◌, List, length, Option, ap, ◌∙◌, arith}
use Rattle.h263_outside.specs.declared.desk.Role.{Role}
use Rattle.h263_outside.proofs.Fronts.{front_on, grown_within}
use Rattle.h263_outside.proofs.Gains.{consumed_at, consumed_more, reads_on}
use Rattle.h263_outside.proofs.whole.read_full.Goals as goal

pub loop-done-preserved : goal.loop-done-preserved
loop-done-preserved g c =
    let left = (g.D.Desk.outside c.args.desk.now).left in
    let done = c.loop-done.done in
    let count = c.in_ok-count.count in
    let buf = c.loop-done.buf in
    let within : count ≤ length c.read.new.buf = omega (arith, c.in_ok-count.ensures.count, c.read.auto.buf) in
    record {
      within = grown_within done (length buf - done) count buf c.read.new.buf c.loop-done.invariant.within within;
      front = front_on (left c.args.role) _ done (length buf - done) count buf c.read.new.buf
          (ap (λ (l : Role → Option (List ℕ)). l c.args.role) c.loop-done.invariant.lost
          ∙ consumed_at left c.args.role done)
          c.loop-done.invariant.within within c.loop-done.invariant.front c.in_ok-count.ensures.bytes;
      lost = consumed_more _ c.args.role _ _ _ _ _ c.loop-done.invariant.lost c.in_ok-count.ensures.left (omega arith);
      faults = c.in_ok-count.ensures.ok_faults ∙ c.loop-done.invariant.faults;
      rest = reads_on _ _ _ c.loop-done.invariant.rest c.read.ensures.rest;
    }
