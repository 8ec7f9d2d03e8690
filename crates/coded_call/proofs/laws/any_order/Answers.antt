use Rattle.call_decoding.specs.Rules.{rules_of}
use Rattle.coded_call.specs.Coding.{coding}
use Rattle.receiver_end.specs.Decoding.{decoding}
use Rattle.coded_call.proofs.OfOnePicture.{sent_in_any_order}
use Rattle.coded_call.proofs.laws.any_order.Goals as goal

pub returns : goal.returns
returns c p in_range =
    let lawful = c.is_coding.ensures p in_range in
    let ruled = c.are_rules.ensures p in_range in
    sent_in_any_order (coding p) (rules_of p) (record {
      of_one = c.packets_are_of_one.ensures p in_range;
      any_order = c.order.ensures p in_range;
      stays = c.receiver_stands.ensures.complete (decoding p.format) (rules_of p) lawful.decodes ruled;
      each_end = c.each_end_runs.ensures (coding p) (rules_of p);
      call = record {
        rules_fit = ruled;
        nearest = c.nearest.ensures.in_period;
        sound = c.encoder_is_sound.ensures (coding p) (rules_of p) lawful ruled;
        follow = λ pace frames past. c.two_stores.ensures (coding p) (rules_of p) pace frames past lawful ruled;
      };
    })
