use Rattle.std.proofs.Common.{Option, Some, None, refl, subst}
use Rattle.stream_choice.specs.declared.streams.Run.{Run}
use Rattle.session_runs.specs.Kept.{config_in}
use Rattle.session_runs.specs.Following.{after_run, made_ready_for}
use Rattle.session_runs.specs.Followed.{AreTaken, FollowsStand}
use Rattle.session_runs.proofs.Taking.{by_none}
use Rattle.session_runs.proofs.following.Following.take.Goals as goal

pub returns-in_default-clause-answer : goal.returns-in_default-clause-answer
returns-in_default-clause-answer c = λ f s.
    subst (λ (x : Option Run). AreTaken c.args.settings.now c.args.taker x c.args.packet.now c.args.bytes.now
    c.args.now f None) c.in_default.ensures refl

pub returns-in_default-clause-stands : goal.returns-in_default-clause-stands
returns-in_default-clause-stands c = λ f s.
    by_none c.args.self.now (config_in c.args.settings.now) c.args.taker c.args.packet.now c.args.bytes.now
    c.args.now f c.in_default.ensures s

pub returns-clause-answer : goal.returns-clause-answer
returns-clause-answer c = λ f s.
    let g = made_ready_for (config_in c.args.settings.now) c.args.taker c.args.packet.now.reference c.args.now f in
    let r = c.hear-answer.result in
    subst (λ (x : Option Run). AreTaken c.args.settings.now c.args.taker x c.args.packet.now c.args.bytes.now
    c.args.now f (Some (c.in-Some.run', r))) c.in-Some.ensures (
      r,
      refl,
      c.hear-answer.ensures.answer g (record {
        streams = s.streams;
        lines = c.make_ready.ensures.stands f.lines s.lines;
      }),
    )

pub returns-clause-stands : goal.returns-clause-stands
returns-clause-stands c = λ f s.
    let k = config_in c.args.settings.now in
    let g = made_ready_for k c.args.taker c.args.packet.now.reference c.args.now f in
    subst (λ (x : Option Run). FollowsStand c.hear-answer.new.self
    (after_run k x c.args.packet.now c.args.bytes.now c.args.now g)) c.in-Some.ensures
    (c.hear-answer.ensures.stands g (record {
      streams = s.streams;
      lines = c.make_ready.ensures.stands f.lines s.lines;
    }))
