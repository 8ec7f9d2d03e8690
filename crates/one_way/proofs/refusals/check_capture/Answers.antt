use Rattle.std.proofs.Common.{◌≡◌, ◌+◌, ◌<◌, ◌≤◌, length, ◌∙◌, arith}
use Rattle.call_model.specs.Refusals.{Far}
use Rattle.call_decoding.specs.Rules.{rules_of}
use Rattle.one_way.specs.declared.refusals.EventRefusal.TheVariants as told
use Rattle.one_way.specs.Both.{both_after, steady}
use Rattle.one_way.specs.Seen.{in_both}
use Rattle.one_way.proofs.Refusing.{capture_far, capture_near}
use Rattle.one_way.proofs.refusals.check_capture.Goals as goal

pub returns-then-played-half : goal.returns-then-played-half
returns-then-played-half c = λ p before frames past half j.
    let seen = in_both (both_after p (steady p) frames before past) in
    let laws = c.way_laws.ensures p in
    let sent : c.sent-sent.result ≡ length seen.coded = c.sent-sent.ensures.value
    ∙ laws.sent c.args.sender.now c.args.receiver.now before frames past j in
    let played : c.played-played.result ≡ seen.played = c.played-played.ensures.count
    ∙ laws.played c.args.sender.now c.args.receiver.now before frames past j in
    let far : seen.played + (rules_of p).half ≤ length seen.coded = omega (
      arith,
      half,
      c.if-played-half.true,
      sent,
      played,
    ) in (
      Far (length seen.coded) seen.played,
      capture_far (rules_of p) (length seen.coded) seen.played seen.abouts far,
      λ i. told.Far (sent i) (played i),
    )

pub returns : goal.returns
returns c = λ p before frames past half j.
    let seen = in_both (both_after p (steady p) frames before past) in
    let laws = c.way_laws.ensures p in
    let sent : c.sent-sent.result ≡ length seen.coded = c.sent-sent.ensures.value
    ∙ laws.sent c.args.sender.now c.args.receiver.now before frames past j in
    let played : c.played-played.result ≡ seen.played = c.played-played.ensures.count
    ∙ laws.played c.args.sender.now c.args.receiver.now before frames past j in
    let near : length seen.coded < seen.played + (rules_of p).half = omega (
      arith,
      half,
      c.if-played-half.false,
      sent,
      played,
    ) in
    capture_near (rules_of p) (length seen.coded) seen.played seen.abouts (length seen.coded + 1) (omega arith) near
