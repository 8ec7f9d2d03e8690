use Rattle.std.proofs.Common.{◌≡◌, ℕ, ◌+◌, ◌-◌, refl, arith, subst, sym}
use Rattle.playout_times.specs.Ways.{quarter_of}
use Rattle.playout_times.specs.Kept.{RecentStands}
use Rattle.playout_times.proofs.times.Times.arrived.Goals as goal

pub returns-clause-stands : goal.returns-clause-stands
returns-clause-stands c = λ past s.
    let a = c.args.arrival in
    let old = quarter_of c.args.self.now.last in
    let since : old + (quarter_of a.at - old) ≡ quarter_of a.at = omega (arith, c.requires.order) in
    record {
      newest = refl;
      recent = c.with-self.ensures (quarter_of a.at) a past
          (subst (λ (n : ℕ). RecentStands c.after.result n past) since (c.after.ensures old past s.recent))
          (sym c.way-time.ensures) refl;
      runs = c.with-self-2.ensures a past s.runs refl (sym c.way-time.ensures);
      captured = c.add.ensures past s.captured;
      timed = (c.requires.timed, s.timed);
      wait = s.wait;
    }
