use Rattle.call_decoding.specs.Rules.{rules_of}
use Rattle.coded_call.specs.Coding.{coding}
use Rattle.one_way.proofs.laws.call_laws.Goals as goal

pub returns : goal.returns
returns c = λ p in_range. record {
  runs = c.ends_run.ensures p;
  counts = λ pace frames. c.frames_by_events.ensures.counts (coding p) (rules_of p) pace frames;
  arrived = λ pace frames. c.frames_by_events.ensures.arrived (coding p) (rules_of p) pace frames;
  follow = λ pace frames past paced near. c.two_stores.ensures p pace frames past in_range paced near;
}
