use Rattle.std.proofs.Common.{◌≡◌, ◌+◌, ◌<◌, ◌≤◌, length, refl, ◌∙◌, arith}
use Rattle.call_model.specs.Refusals.{Far, NotSent}
use Rattle.call_decoding.specs.Rules.{rules_of}
use Rattle.one_way.specs.declared.refusals.EventRefusal.TheVariants as told
use Rattle.one_way.specs.Both.{both_after, steady}
use Rattle.one_way.specs.Seen.{in_both}
use Rattle.one_way.proofs.Refusing.{packet_far, packet_near, packet_unsent}
use Rattle.one_way.proofs.refusals.check_packet.Goals as goal

pub returns-then-sent-number : goal.returns-then-sent-number
returns-then-sent-number c = λ p before frames past place half j.
    let seen = in_both (both_after p (steady p) frames before past) in
    let sent : c.sent-sent.result ≡ length seen.coded = c.sent-sent.ensures.value
    ∙ (c.way_laws.ensures p).sent c.args.sender.now c.args.receiver.now before frames past j in
    let few : length seen.coded ≤ c.args.number = omega (arith, c.if-sent-number.true, sent) in (
      NotSent,
      packet_unsent (rules_of p) (length seen.coded) seen.played seen.abouts
          (length seen.coded + 1) c.args.number place few,
      refl,
    )

pub returns-then-number-half : goal.returns-then-number-half
returns-then-number-half c = λ p before frames past place half j.
    let seen = in_both (both_after p (steady p) frames before past) in
    let laws = c.way_laws.ensures p in
    let sent : c.sent-sent.result ≡ length seen.coded = c.sent-sent.ensures.value
    ∙ laws.sent c.args.sender.now c.args.receiver.now before frames past j in
    let played : c.played-played.result ≡ seen.played = c.played-played.ensures.count
    ∙ laws.played c.args.sender.now c.args.receiver.now before frames past j in
    let some : c.args.number < length seen.coded = omega (arith, c.if-sent-number.false, sent) in
    let far : c.args.number + (rules_of p).half ≤ seen.played = omega (arith, half, c.if-number-half.true, played) in (
      Far c.args.number seen.played,
      packet_far (rules_of p) (length seen.coded) seen.played seen.abouts
          (length seen.coded + 1) c.args.number place some far,
      λ i. told.Far c.args.number (played i),
    )

pub returns : goal.returns
returns c = λ p before frames past place half j.
    let seen = in_both (both_after p (steady p) frames before past) in
    let laws = c.way_laws.ensures p in
    let sent : c.sent-sent.result ≡ length seen.coded = c.sent-sent.ensures.value
    ∙ laws.sent c.args.sender.now c.args.receiver.now before frames past j in
    let played : c.played-played.result ≡ seen.played = c.played-played.ensures.count
    ∙ laws.played c.args.sender.now c.args.receiver.now before frames past j in
    let some : c.args.number < length seen.coded = omega (arith, c.if-sent-number.false, sent) in
    let near : seen.played < c.args.number + (rules_of p).half = omega (arith, half, c.if-number-half.false, played) in
    packet_near (rules_of p) (length seen.coded) seen.played seen.abouts (length seen.coded + 1) c.args.number place
    some near
