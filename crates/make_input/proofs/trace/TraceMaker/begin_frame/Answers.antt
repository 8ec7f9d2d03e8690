use Rattle.std.proofs.Common.{◌≡◌, ◌∙◌, ◌++◌, Option, ap}
use Rattle.loss_trace.specs.declared.event.Event.{Event}
use Rattle.make_input.specs.Trace.{after_plays, deliveries, next_state, one_or_none, plays}
use Rattle.make_input.specs.declared.trace.TraceMaker.{TraceMaker}
use Rattle.make_input.proofs.Lines.{begun}
use Rattle.make_input.proofs.trace.TraceMaker.begin_frame.Goals as goal

pub returns : goal.returns
returns c =
    let m = c.args.self.now in
    let new = c.begin_play.new.self in
    let p = c.begin_play.ensures in
    let state : c.draw.new.self.state ≡ next_state m.state = ap (λ (x : TraceMaker). x.state) c.draw.ensures.state in
    let arrive : one_or_none new.first ++ one_or_none new.second ≡ deliveries m.number c.draw.result =
    ap (λ (o : Option Event). one_or_none o ++ one_or_none new.second) p.rest.2
    ∙ ap (λ (o : Option Event). one_or_none c.deliveries-first.result.0 ++ one_or_none o) p.rest.3
    ∙ c.deliveries-first.ensures in
    begun m.first m.second m.play m.back m.last new.first new.second new.play new.back new.last m.frames m.number
    m.state new.frames new.state c.draw.result
    c.requires.some c.requires.first c.requires.second c.requires.play c.requires.back c.draw.ensures.drawn arrive
    (p.plays ∙ ap (plays m.number) state) (p.state ∙ ap (after_plays m.number) state)
    (p.rest.1 ∙ ap (λ (x : TraceMaker). x.frames) c.draw.ensures.state) (p.rest.4
    ∙ ap (λ (x : TraceMaker). x.last) c.draw.ensures.state)
