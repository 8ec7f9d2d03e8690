-- A granted packet goes to the stream that the choice names, or to none.
use Rattle.std.proofs.Common.{ℕ, Option, refl, ap, sym, subst, ◌∙◌}
use Rattle.stream_choice.specs.declared.streams.Run.{Run}
use Rattle.session_intake.specs.declared.settings.Settings.{Settings}
use Rattle.session_intake.specs.declared.seen.Cause.TheVariants as causes
use Rattle.session_intake.specs.Counts.{after_drop, after_taken}
use Rattle.session_runs.specs.Lines.{taker_run}
use Rattle.session_runs.specs.Kept.{config_in}
use Rattle.session_runs.specs.Following.{after_taker, source_noted}
use Rattle.session_runs.specs.Followed.{FollowsStand}
use Rattle.call_session.specs.declared.verdict.Verdict.TheVariants as verdicts
use Rattle.call_session.specs.Sessions.{counts_after, outcome_of_run}
use Rattle.call_session.specs.Ruled.{IsVerdict}
use Rattle.call_session.proofs.Judging.{nobody, somebody, verdict}
use Rattle.call_session.proofs.rules.Rules.follow_granted.Goals as goal

pub returns-in-None-clause-answer : goal.returns-in-None-clause-answer
returns-in-None-clause-answer c = λ st s.
    let old = c.args.self.now.settings in let seen = c.args.seen.now in let own = c.args.own.now in
    let r = c.tells-is_rival.new.self in let t = c.tells-is_rival.ensures.stands st s in
    let f = source_noted seen.source r.time st.follows in
    let e = nobody r.settings c.args.taker (taker_run c.args.taker) seen.packet own r.time f
    (c.in-None.ensures.answer f (c.note.ensures.stands st.follows t.follows)) in
    subst (λ (x : Option Run). IsVerdict old.params.clock (verdicts.Dropped causes.OtherStream)
    (outcome_of_run (config_in old) seen c.args.taker x own st)) (sym e) refl

pub returns-in-None-clause-stands : goal.returns-in-None-clause-stands
returns-in-None-clause-stands c = λ st s.
    let old = c.args.self.now.settings in let seen = c.args.seen.now in let own = c.args.own.now in
    let r = c.tells-is_rival.new.self in let t = c.tells-is_rival.ensures.stands st s in
    let f = source_noted seen.source r.time st.follows in let stands = c.note.ensures.stands st.follows t.follows in
    let e = nobody r.settings c.args.taker (taker_run c.args.taker) seen.packet own r.time f
    (c.in-None.ensures.answer f stands) in
    record {
      time = t.time;
      follows = subst (λ (z : Settings). FollowsStand c.take-taken.new.self
          (after_taker (config_in z) c.args.taker seen.packet own st.now (source_noted seen.source st.now st.follows)))
          c.tells-is_rival.ensures.settings
          (subst (λ (n : ℕ). FollowsStand c.take-taken.new.self
          (after_taker (config_in r.settings) c.args.taker seen.packet own n (source_noted seen.source n st.follows)))
          t.time (c.in-None.ensures.stands f stands));
      asked = t.asked;
      rivals = t.rivals;
      counts = c.drop_for.ensures ∙ ap (after_drop causes.OtherStream) t.counts
          ∙ ap (λ (x : Option Run). counts_after x st.counts) (sym e);
    }

pub returns-in-Some-clause-answer : goal.returns-in-Some-clause-answer
returns-in-Some-clause-answer c = λ st s.
    let seen = c.args.seen.now in let own = c.args.own.now in
    let r = c.tells-is_rival.new.self in let t = c.tells-is_rival.ensures.stands st s in
    let f = source_noted seen.source r.time st.follows in
    subst (λ (z : Settings). IsVerdict z.params.clock
    (verdicts.Taken (record { run = c.in-Some.run'; source = seen.source; answer = c.in-Some.answer }))
    (outcome_of_run (config_in z) seen c.args.taker (taker_run c.args.taker) own st))
    c.tells-is_rival.ensures.settings
    (verdict r.settings seen c.args.taker (taker_run c.args.taker) own r.time st c.in-Some.run' c.in-Some.answer t.time
    (c.in-Some.ensures.answer f (c.note.ensures.stands st.follows t.follows)))

pub returns-in-Some-clause-stands : goal.returns-in-Some-clause-stands
returns-in-Some-clause-stands c = λ st s.
    let seen = c.args.seen.now in let own = c.args.own.now in
    let r = c.tells-is_rival.new.self in let t = c.tells-is_rival.ensures.stands st s in
    let f = source_noted seen.source r.time st.follows in let stands = c.note.ensures.stands st.follows t.follows in
    let e = somebody r.settings c.args.taker (taker_run c.args.taker) seen.packet own r.time f c.in-Some.run'
    c.in-Some.answer (c.in-Some.ensures.answer f stands) in
    record {
      time = t.time;
      follows = subst (λ (z : Settings). FollowsStand c.take-taken.new.self
          (after_taker (config_in z) c.args.taker seen.packet own st.now (source_noted seen.source st.now st.follows)))
          c.tells-is_rival.ensures.settings
          (subst (λ (n : ℕ). FollowsStand c.take-taken.new.self
          (after_taker (config_in r.settings) c.args.taker seen.packet own n (source_noted seen.source n st.follows)))
          t.time (c.in-Some.ensures.stands f stands));
      asked = t.asked;
      rivals = t.rivals;
      counts = c.take.ensures ∙ ap after_taken t.counts
          ∙ ap (λ (x : Option Run). counts_after x st.counts) (sym e);
    }
