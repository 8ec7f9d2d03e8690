use Rattle.std.proofs.Common.{◌≡◌, ◌<◌, ◌≤◌, length, map, refl, arith}
use Rattle.call_model.specs.JoinedRun.{SaidMessage}
use Rattle.call_model.specs.Refusals.{PlayBeforeSend}
use Rattle.call_decoding.specs.Rules.{rules_of}
use Rattle.receiver_end.specs.State.{run_of}
use Rattle.group_call.proofs.Counting.{shown_early, shown_near}
use Rattle.group_call.proofs.refusals.check_shown.Goals as goal

pub returns-then-sent-played-clause-refusal : goal.returns-then-sent-played-clause-refusal
returns-then-sent-played-clause-refusal c = λ p run view cast h.
    let played = (run_of p view.entries).played in
    let abouts = map (λ (told : SaidMessage). told.about) view.told in
    let sent : c.sent-sent.result ≡ length run.coded = c.sent-sent.ensures.run p run cast in
    let plays : c.played-played.result ≡ played = c.played-played.ensures.view p view h in
    let few : length run.coded ≤ played = omega (arith, c.if-sent-played.true, sent, plays) in
    (PlayBeforeSend, shown_early (rules_of p) (length run.coded) played abouts few, refl)

pub returns-clause-refusal : goal.returns-clause-refusal
returns-clause-refusal c = λ p run view cast h.
    let played = (run_of p view.entries).played in
    let abouts = map (λ (told : SaidMessage). told.about) view.told in
    let sent : c.sent-sent.result ≡ length run.coded = c.sent-sent.ensures.run p run cast in
    let plays : c.played-played.result ≡ played = c.played-played.ensures.view p view h in
    let some : played < length run.coded = omega (arith, c.if-sent-played.false, sent, plays) in
    shown_near (rules_of p) (length run.coded) played abouts some
