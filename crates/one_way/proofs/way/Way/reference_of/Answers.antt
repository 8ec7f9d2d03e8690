use Rattle.std.proofs.Common.{◌≡◌, length, map, ◌∙◌, arith}
use Rattle.h263_types.specs.declared.blocks.Mb.{Mb}
use Rattle.h263_planes.specs.Picture.{Picture}
use Rattle.call_model.specs.CodedPictures.{Coded}
use Rattle.call_decoding.specs.Rules.{rules_of}
use Rattle.call_decoding.specs.Styles.{Style}
use Rattle.coded_call.specs.Coding.{coding}
use Rattle.receiver_end.specs.State as receiver_end
use Rattle.one_way.specs.Both.{both_after, steady}
use Rattle.one_way.proofs.BothAfter.{counts_near}
use Rattle.one_way.proofs.Holding.{as_many}
use Rattle.one_way.proofs.OneMore.{played_is, sent_is}
use Rattle.one_way.proofs.Passing.{half_few}
use Rattle.one_way.proofs.Sent.{noted_is}
use Rattle.one_way.proofs.way.Way.reference_of.Goals as goal

pub returns : goal.returns
returns c = λ p sender receiver before frames past begun h is ahead.
    let runs = c.ends_run.ensures p in
    let coded = (both_after p (steady p) frames before past).sender.coded in
    let references_of = λ (x : Coded Style Mb Picture). x.reference in
    let long : length (map references_of coded) ≡ length coded = as_many references_of coded in
    let sent = sent_is p runs (steady p) sender receiver frames before past h.joined in
    let played = played_is p runs (steady p) sender receiver frames before past h.joined in
    let counts = counts_near (coding p) (rules_of p) (receiver_end.run_of p before) (steady p) frames begun past h.near
    in
    c.get.ensures (map references_of coded) h.references (omega (arith, is, ahead, sent, long))
    (omega (arith, is, played, long, counts.1, half_few p.clock))
    ∙ noted_is coded c.args.number
