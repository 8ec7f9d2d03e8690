use Rattle.std.proofs.Common.{ℕ, [], subst}
use Rattle.make_input.specs.Trace.{made_trace}
use Rattle.call_model.specs.IdealCall.{AllMayHappen}
use Rattle.call_decoding.specs.Rules.{rules_of}
use Rattle.coded_call.specs.Coding.{coding}
use Rattle.one_way.specs.Both.{steady}
use Rattle.demo_command.specs.Demo.{made_events, made_video}
use Rattle.demo_command.proofs.Made.{half_enough, some_slices, steady_is, video_is}
use Rattle.demo_command.proofs.laws.made_laws.Goals as goal

pub returns : goal.returns
returns c = λ t in_range.
    let p = t.params in
    let lawful = c.is_coding.ensures p in_range in
    let ruled = c.are_rules.ensures p in_range in
    let paced = steady_is p in_range in
    record {
      near =
          subst (λ (k : ℕ). AllMayHappen (coding p) (rules_of p) (steady p) (made_video t)
          (made_events t [] (made_trace t.seed k))) (video_is t)
          (c.made_calls_are_near.ensures (coding p) (rules_of p) (steady p) (made_video t) t.seed lawful ruled paced
          (half_enough p.clock));
      slices = some_slices t (c.encoder_is_sound.ensures (coding p) (rules_of p) lawful ruled) ruled paced;
    }
