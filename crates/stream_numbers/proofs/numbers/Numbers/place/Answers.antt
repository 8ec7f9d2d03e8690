use Rattle.std.proofs.Common.{Option, ap, ◌∙◌}
use Rattle.std.specs.Option.{option_map}
use Rattle.stream_numbers.specs.declared.newest.Newest.{Newest}
use Rattle.stream_numbers.specs.declared.stepping.Step.{Step}
use Rattle.stream_numbers.specs.Placing.{step_of}
use Rattle.stream_numbers.specs.Streams.{newest_kept}
use Rattle.stream_numbers.proofs.numbers.Numbers.place.Goals as goal

pub returns-in-Some-clause-place : goal.returns-in-Some-clause-place
returns-in-Some-clause-place c = λ past s.
    ap (option_map (λ (x : Step). x.place)) c.in-Some.ensures.exact
    ∙ ap (λ (o : Option Newest). option_map (λ (x : Step). x.place)
    (step_of c.args.self.now.rate o c.args.packet.now c.args.now)) s

pub returns-in-Some-clause-stands : goal.returns-in-Some-clause-stands
returns-in-Some-clause-stands c = λ past s.
    ap (λ (o : Option Step). newest_kept o c.args.self.now.newest) c.in-Some.ensures.exact
    ∙ ap (λ (o : Option Newest). newest_kept (step_of c.args.self.now.rate o c.args.packet.now c.args.now) o) s

pub returns-in-None-clause-place : goal.returns-in-None-clause-place
returns-in-None-clause-place c = λ past s.
    ap (option_map (λ (x : Step). x.place)) c.in-None.ensures.exact
    ∙ ap (λ (o : Option Newest). option_map (λ (x : Step). x.place)
    (step_of c.args.self.now.rate o c.args.packet.now c.args.now)) s

pub returns-in-None-clause-stands : goal.returns-in-None-clause-stands
returns-in-None-clause-stands c = λ past s.
    ap (λ (o : Option Step). newest_kept o c.args.self.now.newest) c.in-None.ensures.exact
    ∙ ap (λ (o : Option Newest). newest_kept (step_of c.args.self.now.rate o c.args.packet.now c.args.now) o) s
