-- The lines that a maker has still to give.
use Rattle.std.specs.Prelude.{List, ◌++◌}
use Rattle.loss_trace.specs.declared.event.Event.{Event}
use Rattle.make_input.specs.declared.trace.TraceMaker.{TraceMaker}
use Rattle.make_input.specs.Trace.{frames_from, one_or_none}

abbrev pub lines_left : TraceMaker → List Event
lines_left m = one_or_none m.first ++ (one_or_none m.second ++ (one_or_none m.play ++ (one_or_none m.back
    ++ (frames_from m.frames m.number m.state ++ one_or_none m.last))))
