use Rattle.std.proofs.Common.{◌+◌, length, ◌∙◌}
use Rattle.call_model.specs.IdealCall.{Back, Deliver, Play}
use Rattle.call_decoding.specs.Rules.{rules_of}
use Rattle.coded_call.specs.Coding.{coding}
use Rattle.one_way.specs.Both.{both_after, steady}
use Rattle.one_way.specs.Seen.{in_both}
use Rattle.one_way.proofs.Refusing.{any_back, any_packet, any_play, capture_not_far}
use Rattle.one_way.proofs.laws.near_event_laws.Goals as goal

pub returns : goal.returns
returns c = λ p in_range.
    let lawful = c.is_coding.ensures p in_range in
    let ruled = c.are_rules.ensures p in_range in
    let both = c.refusals.ensures.both (coding p) (rules_of p) in
    record {
      near = c.in_a_call.ensures.all_near (coding p) (rules_of p) lawful ruled;
      packets = c.rings.ensures.packets (coding p) (rules_of p);
      messages = c.rings.ensures.messages (coding p) (rules_of p) lawful ruled;
      capture = λ before frames past none some.
          let seen = in_both (both_after p (steady p) frames before past) in
          (some, capture_not_far (rules_of p) (length seen.coded) seen.played seen.abouts none);
      deliver = λ before frames past n j none.
          let w = both_after p (steady p) frames before past in
          let seen = in_both w in
          (both frames w (Deliver n j)).0 (any_packet (rules_of p) (length seen.coded) seen.played seen.abouts
          (length frames) (length seen.coded + 1) n j ∙ none);
      play = λ before frames past none.
          let w = both_after p (steady p) frames before past in
          let seen = in_both w in
          (both frames w Play).0 (any_play (rules_of p) (length seen.coded) seen.played seen.abouts (length frames)
          (length seen.coded + 1) ∙ none);
      back = λ before frames past k none.
          let w = both_after p (steady p) frames before past in
          let seen = in_both w in
          (both frames w (Back k)).0 (any_back (rules_of p) (length seen.coded) seen.played seen.abouts (length frames)
          (length seen.coded + 1) k ∙ none);
    }
