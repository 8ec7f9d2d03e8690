use Rattle.std.proofs.Common.{◌≡◌, ℕ, ◌-◌, get_or, subst}
use Rattle.playout_times.proofs.Earliest.{gone_on}
use Rattle.playout_times.proofs.times.Times.played.Goals as goal

pub returns-clause-stands : goal.returns-clause-stands
returns-clause-stands c = λ past s.
    let t = c.args.self.now in
    let new = c.forget.new.captured in
    record {
      newest = s.newest;
      recent = s.recent;
      runs = s.runs;
      captured = gone_on t.captured new t.next past c.forget.ensures.len c.forget.ensures.moved
          (subst (λ (n : ℕ). get_or new (n - 1) 0
          ≡ 18446744073709551615) s.captured.long c.forget.ensures.last) s.captured;
      timed = s.timed;
      wait = s.wait;
    }
