use Rattle.std.proofs.Common.{◌≡◌, ◌+◌, ◌<◌, ◌≤◌, length, map, refl, arith}
use Rattle.call_model.specs.JoinedRun.{SaidMessage}
use Rattle.call_model.specs.Refusals.{Far, NotSent}
use Rattle.call_decoding.specs.Rules.{rules_of}
use Rattle.receiver_end.specs.State.{run_of}
use Rattle.one_way.specs.declared.refusals.EventRefusal.TheVariants as told
use Rattle.group_call.proofs.Counting.{number_far, number_near, number_unsent}
use Rattle.group_call.proofs.refusals.check_number.Goals as goal

pub returns-then-sent-number-clause-refusal : goal.returns-then-sent-number-clause-refusal
returns-then-sent-number-clause-refusal c = λ p run view place half cast h.
    let played = (run_of p view.entries).played in
    let abouts = map (λ (told : SaidMessage). told.about) view.told in
    let sent : c.sent-sent.result ≡ length run.coded = c.sent-sent.ensures.run p run cast in
    let few : length run.coded ≤ c.args.number = omega (arith, c.if-sent-number.true, sent) in
    (NotSent, number_unsent (rules_of p) (length run.coded) played abouts c.args.number place few, refl)

pub returns-then-number-half-clause-refusal : goal.returns-then-number-half-clause-refusal
returns-then-number-half-clause-refusal c = λ p run view place half cast h.
    let played = (run_of p view.entries).played in
    let abouts = map (λ (told : SaidMessage). told.about) view.told in
    let sent : c.sent-sent.result ≡ length run.coded = c.sent-sent.ensures.run p run cast in
    let plays : c.played-played.result ≡ played = c.played-played.ensures.view p view h in
    let some : c.args.number < length run.coded = omega (arith, c.if-sent-number.false, sent) in
    let far : c.args.number + (rules_of p).half ≤ played = omega (arith, half, c.if-number-half.true, plays) in (
      Far c.args.number played,
      number_far (rules_of p) (length run.coded) played abouts c.args.number place some far,
      λ i. told.Far c.args.number (plays i),
    )

pub returns-clause-refusal : goal.returns-clause-refusal
returns-clause-refusal c = λ p run view place half cast h.
    let played = (run_of p view.entries).played in
    let abouts = map (λ (told : SaidMessage). told.about) view.told in
    let sent : c.sent-sent.result ≡ length run.coded = c.sent-sent.ensures.run p run cast in
    let plays : c.played-played.result ≡ played = c.played-played.ensures.view p view h in
    let some : c.args.number < length run.coded = omega (arith, c.if-sent-number.false, sent) in
    let near : played < c.args.number + (rules_of p).half = omega (arith, half, c.if-number-half.false, plays) in
    number_near (rules_of p) (length run.coded) played abouts c.args.number place some near
