use Rattle.std.proofs.Common.{◌≡◌, ◌+◌, ◌<◌, ◌≤◌, length, refl, ◌∙◌, arith}
use Rattle.call_model.specs.Refusals.{PlayBeforeSend}
use Rattle.call_decoding.specs.Rules.{rules_of}
use Rattle.one_way.specs.Both.{both_after, steady}
use Rattle.one_way.specs.Seen.{in_both}
use Rattle.one_way.proofs.Refusing.{play_early, play_near}
use Rattle.one_way.proofs.refusals.check_play.Goals as goal

pub returns-then-sent-played-clause-refusal : goal.returns-then-sent-played-clause-refusal
returns-then-sent-played-clause-refusal c = λ p before frames past j.
    let seen = in_both (both_after p (steady p) frames before past) in
    let laws = c.way_laws.ensures p in
    let sent : c.sent-sent.result ≡ length seen.coded = c.sent-sent.ensures.value
    ∙ laws.sent c.args.sender.now c.args.receiver.now before frames past j in
    let played : c.played-played.result ≡ seen.played = c.played-played.ensures.count
    ∙ laws.played c.args.sender.now c.args.receiver.now before frames past j in
    let few : length seen.coded ≤ seen.played = omega (arith, c.if-sent-played.true, sent, played) in (
      PlayBeforeSend,
      play_early (rules_of p) (length seen.coded) seen.played seen.abouts (length seen.coded + 1) few,
      refl,
    )

pub returns-clause-refusal : goal.returns-clause-refusal
returns-clause-refusal c = λ p before frames past j.
    let seen = in_both (both_after p (steady p) frames before past) in
    let laws = c.way_laws.ensures p in
    let sent : c.sent-sent.result ≡ length seen.coded = c.sent-sent.ensures.value
    ∙ laws.sent c.args.sender.now c.args.receiver.now before frames past j in
    let played : c.played-played.result ≡ seen.played = c.played-played.ensures.count
    ∙ laws.played c.args.sender.now c.args.receiver.now before frames past j in
    let some : seen.played < length seen.coded = omega (arith, c.if-sent-played.false, sent, played) in
    play_near (rules_of p) (length seen.coded) seen.played seen.abouts (length seen.coded + 1) some
