use Rattle.std.proofs.Common.{ℕ, ◌+◌, ◌∷◌, ap, sym, subst, ◌∙◌}
use Rattle.h263_types.specs.declared.params.Params.{Params}
use Rattle.packet_gaps.specs.Kept.{GapsStand, Played}
use Rattle.stream_run.specs.Entries.{Shown}
use Rattle.session_runs.specs.Histories.{Config, next_number_in}
use Rattle.session_runs.proofs.Configs.{same}
use Rattle.session_runs.proofs.kept.KeptRun.play.Goals as goal

pub returns-clause-stands : goal.returns-clause-stands
returns-clause-stands c = λ h s.
    let old = c.args.self.now.run in let new = c.play-played.new.self in
    let e = c.play-played.ensures in let k = c.requires.kept in
    let run = e.stands h.first c.args.now h.past s.run in
    let config = same new.timed.receiver.params old.timed.receiver.params new.numbers.rate old.numbers.rate
    new.lead old.lead new.timed.times.wait old.timed.times.wait e.params e.rate
    (sym e.run.lead ∙ ap (λ (p : Params). p.lead) e.params ∙ k.run.lead) e.wait ∙ k.config in
    record {
      run = run;
      until = s.until;
      unheard = s.unheard;
      gaps = subst (λ (n : ℕ). GapsStand c.played.new.self (Played n ∷ h.gaps))
          (c.next.ensures.run h.first (Shown c.args.now ∷ h.past) run
          ∙ ap (λ (x : Config). next_number_in x h + 1) config)
          (c.played.ensures.stands h.gaps s.gaps);
    }
