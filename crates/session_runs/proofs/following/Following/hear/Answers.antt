use Rattle.std.proofs.Common.{Bool, ap, sym, subst, ◌∙◌}
use Rattle.stream_choice.specs.declared.streams.Streams.{Streams}
use Rattle.stream_choice.specs.declared.streams.Turn.{Turn}
use Rattle.stream_choice.specs.Choice.{after_complete, turn_of}
use Rattle.session_runs.specs.declared.following.Following.{Following}
use Rattle.session_runs.specs.Histories.{history_after_packet, answer_in}
use Rattle.session_runs.specs.Lines.{line_of, turned, lines_with}
use Rattle.session_runs.specs.Kept.{config_in}
use Rattle.session_runs.specs.Three.{LinesStand}
use Rattle.session_runs.specs.Following.{Follows, completed_if}
use Rattle.session_runs.specs.Followed.{FollowsStand}
use Rattle.session_runs.proofs.following.Following.hear.Goals as goal

pub returns-then-is_complete-clause-kept : goal.returns-then-is_complete-clause-kept
returns-then-is_complete-clause-kept c =
    c.turn.ensures.kept c.args.settings.now c.args.now c.arrival-answer.ensures.kept

pub returns-then-is_complete-clause-stands : goal.returns-then-is_complete-clause-stands
returns-then-is_complete-clause-stands c = λ f s.
    let k = config_in c.args.settings.now in
    let h = line_of c.args.run f.lines in
    let a = answer_in k c.args.packet.now c.args.bytes.now c.args.now h in
    let l = lines_with c.args.run (history_after_packet k c.args.packet.now c.args.bytes.now c.args.now h) f.lines in
    let g : Following = record { streams = c.completed.new.self; runs = c.turn.new.self } in
    let m : Follows = record { streams = f.streams; lines = l } in
    let is = c.is_complete.ensures k.params.clock a (c.arrival-answer.ensures.answer f.lines s.lines) in
    subst (λ (b : Bool). FollowsStand g (completed_if b c.args.run c.args.now m))
    (sym c.if-is_complete.true ∙ is)
    (record {
      streams = c.completed.ensures ∙ ap (λ (x : Streams). after_complete x c.args.run c.args.now) s.streams;
      lines = subst (λ (x : Turn). LinesStand c.turn.new.self (turned x l))
          (c.turn-turn.ensures ∙ ap (λ (x : Streams). turn_of x c.args.run c.args.now) s.streams)
          (c.turn.ensures.stands l (c.arrival-answer.ensures.stands f.lines s.lines));
    })
