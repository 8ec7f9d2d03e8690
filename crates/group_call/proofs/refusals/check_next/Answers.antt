use Rattle.std.proofs.Common.{◌≡◌, ◌+◌, ◌<◌, ◌≤◌, length, map, arith}
use Rattle.call_model.specs.JoinedRun.{SaidMessage}
use Rattle.call_model.specs.Refusals.{Far}
use Rattle.call_decoding.specs.Rules.{rules_of}
use Rattle.receiver_end.specs.State.{run_of}
use Rattle.one_way.specs.declared.refusals.EventRefusal.TheVariants as told
use Rattle.group_call.proofs.Counting.{next_far, next_near}
use Rattle.group_call.proofs.refusals.check_next.Goals as goal

pub returns-then-played-half : goal.returns-then-played-half
returns-then-played-half c = λ p run view half cast h.
    let played = (run_of p view.entries).played in
    let abouts = map (λ (told : SaidMessage). told.about) view.told in
    let sent : c.sent-sent.result ≡ length run.coded = c.sent-sent.ensures.run p run cast in
    let plays : c.played-played.result ≡ played = c.played-played.ensures.view p view h in
    let far : played + (rules_of p).half ≤ length run.coded =
    omega (arith, half, c.if-played-half.true, sent, plays) in (
      Far (length run.coded) played,
      next_far (rules_of p) (length run.coded) played abouts far,
      λ i. told.Far (sent i) (plays i),
    )

pub returns : goal.returns
returns c = λ p run view half cast h.
    let played = (run_of p view.entries).played in
    let abouts = map (λ (told : SaidMessage). told.about) view.told in
    let sent : c.sent-sent.result ≡ length run.coded = c.sent-sent.ensures.run p run cast in
    let plays : c.played-played.result ≡ played = c.played-played.ensures.view p view h in
    let near : length run.coded < played + (rules_of p).half = omega (
      arith,
      half,
      c.if-played-half.false,
      sent,
      plays,
    ) in
    next_near (rules_of p) (length run.coded) played abouts (omega arith) near
