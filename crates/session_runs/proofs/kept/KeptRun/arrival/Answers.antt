use Rattle.std.proofs.Common.{◌≤◌, ℕ, Bool, Option, ap, sym, subst, ◌∙◌}
use Rattle.h263_types.specs.declared.params.Params.{Params}
use Rattle.packet_gaps.specs.Kept.{GapsStand}
use Rattle.stream_numbers.specs.declared.packet.Place.{Place}
use Rattle.stream_numbers.specs.Streams.{place_of}
use Rattle.stream_run.specs.Entries.{heard_of, timed_of}
use Rattle.session_runs.specs.Histories.{Config, answer_in, gaps_after, is_heard, until_after}
use Rattle.session_runs.specs.Unheard.{after_heard}
use Rattle.session_runs.specs.Kept.{IsAnswerOf, config_in}
use Rattle.session_runs.proofs.Answering.{answered}
use Rattle.session_runs.proofs.Configs.{same}
use Rattle.session_runs.proofs.kept.KeptRun.arrival.Goals as goal

pub returns-clause-answer : goal.returns-clause-answer
returns-clause-answer c = λ h s.
    let r = c.args.self.now.run in
    subst (λ (k : Config). IsAnswerOf k.params.clock c.arrival-answer.result
    (answer_in k c.args.packet.now c.args.bytes.now c.args.now h))
    c.requires.kept.config
    (answered r.timed.receiver.params h.first r.lead (timed_of r.numbers.rate h.first r.lead h.past)
    (place_of r.numbers.rate (heard_of h.past) c.args.packet.now c.args.now) c.args.bytes.now c.arrival-answer.result
    (c.arrival-answer.ensures.answer h.first h.past s.run))

pub returns-clause-stands : goal.returns-clause-stands
returns-clause-stands c = λ h s.
    let p = c.args.settings.now.params in
    let a = answer_in (config_in c.args.settings.now) c.args.packet.now c.args.bytes.now c.args.now h in
    let is : IsAnswerOf p.clock c.arrival-answer.result a = returns-clause-answer c h s in
    record {
      run = c.arrival-answer.ensures.stands h.first h.past s.run;
      until = c.until_after-self.ensures p.clock a is ∙ ap (λ (n : ℕ). until_after a p.lead n) s.until;
      unheard = c.after-self.ensures
          ∙ ap (λ (b : Bool). after_heard b c.args.now c.args.self.now.unheard) (c.is_heard.ensures p.clock a is)
          ∙ ap (after_heard (is_heard a) c.args.now) s.unheard;
      gaps = subst (λ (o : Option Place). GapsStand c.note.new.gaps (gaps_after a o c.args.packet.now.sequence h.gaps))
          (c.place-place.ensures h.first h.past s.run
          ∙ ap (λ (k : Config). place_of k.rate (heard_of h.past) c.args.packet.now c.args.now) c.requires.kept.config)
          (c.note.ensures p.clock a h.gaps is s.gaps);
    }

pub returns-clause-kept : goal.returns-clause-kept
returns-clause-kept c =
    let old = c.args.self.now.run in let new = c.arrival-answer.new.self in
    let e = c.arrival-answer.ensures in let k = c.requires.kept in
    record {
      run = e.run;
      config = same new.timed.receiver.params old.timed.receiver.params new.numbers.rate old.numbers.rate
          new.lead old.lead new.timed.times.wait old.timed.times.wait e.params e.rate
          (sym e.run.lead ∙ ap (λ (p : Params). p.lead) e.params ∙ k.run.lead) e.wait ∙ k.config;
      last = e.last;
      few = subst (λ (n : ℕ). n ≤ 1048576) (sym e.next) k.few;
    }
