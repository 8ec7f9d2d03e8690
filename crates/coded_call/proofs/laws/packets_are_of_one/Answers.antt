use Rattle.call_decoding.specs.Rules.{rules_of}
use Rattle.coded_call.specs.Coding.{coding}
use Rattle.coded_call.proofs.OfOnePicture.{sent_are_of_one}
use Rattle.coded_call.proofs.laws.packets_are_of_one.Goals as goal

pub returns : goal.returns
returns c p in_range =
    let lawful = c.is_coding.ensures p in_range in
    let ruled = c.are_rules.ensures p in_range in
    sent_are_of_one (coding p) (rules_of p) (record {
      rules_fit = ruled;
      nearest = c.nearest.ensures.in_period;
      sound = c.encoder_is_sound.ensures (coding p) (rules_of p) lawful ruled;
      follow = λ pace frames past. c.two_stores.ensures (coding p) (rules_of p) pace frames past lawful ruled;
    })
