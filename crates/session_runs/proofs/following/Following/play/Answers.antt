use Rattle.std.proofs.Common.{Option, None, refl, subst}
use Rattle.stream_choice.specs.declared.streams.Run.{Run}
use Rattle.session_runs.specs.declared.following.Following.{Following}
use Rattle.session_runs.specs.Kept.{config_in}
use Rattle.session_runs.specs.Following.{after_play_of}
use Rattle.session_runs.specs.Followed.{ArePlayed, FollowsStand}
use Rattle.session_runs.proofs.Playing.{after, not_none, played}
use Rattle.session_runs.proofs.following.Following.play.Goals as goal

pub returns-in_default-clause-told : goal.returns-in_default-clause-told
returns-in_default-clause-told c = λ f s.
    subst (λ (x : Option Run). ArePlayed (config_in c.args.settings.now) f x None)
    (c.in_default.ensures c.args.settings.now c.args.now f c.requires.kept s) refl

pub returns-in_default-clause-stands : goal.returns-in_default-clause-stands
returns-in_default-clause-stands c = λ f s.
    subst (λ (x : Option Run). FollowsStand c.args.self.now
    (after_play_of (config_in c.args.settings.now) x c.args.now f))
    (c.in_default.ensures c.args.settings.now c.args.now f c.requires.kept s) s

pub returns-in_default-play_due-clause-told : goal.returns-in_default-play_due-clause-told
returns-in_default-play_due-clause-told c = λ f s.
    absurd (not_none (config_in c.args.settings.now) f c.in-Some.run' c.args.now
    (c.in-Some.ensures c.args.settings.now c.args.now f c.requires.kept s)
    (c.in_default-play_due.ensures.told f.lines s.lines))

pub returns-in_default-play_due-clause-stands : goal.returns-in_default-play_due-clause-stands
returns-in_default-play_due-clause-stands c = λ f s.
    absurd (not_none (config_in c.args.settings.now) f c.in-Some.run' c.args.now
    (c.in-Some.ensures c.args.settings.now c.args.now f c.requires.kept s)
    (c.in_default-play_due.ensures.told f.lines s.lines))

pub returns-clause-told : goal.returns-clause-told
returns-clause-told c = λ f s.
    played (config_in c.args.settings.now) f c.in-Some.run' c.args.now c.in-Some-play_due.played
    (c.in-Some.ensures c.args.settings.now c.args.now f c.requires.kept s)
    (c.in-Some-play_due.ensures.told f.lines s.lines)

pub returns-clause-stands : goal.returns-clause-stands
returns-clause-stands c = λ f s.
    let k = config_in c.args.settings.now in let t = c.play_due.new.self in
    let e = c.in-Some.ensures c.args.settings.now c.args.now f c.requires.kept s in
    let g : Following = record { streams = c.args.self.now.streams; runs = t } in
    subst (λ (x : Option Run). FollowsStand g (after_play_of k x c.args.now f)) e
    (record {
      streams = s.streams;
      lines = after t k f c.in-Some.run' c.args.now e (c.in-Some-play_due.ensures.stands f.lines s.lines);
    })
