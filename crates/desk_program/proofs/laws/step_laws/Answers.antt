use Rattle.desk_program.proofs.Steps.{cause_since, keeps_then, reads_keep, roles_same, trace_cause, trace_halts, video_cause, video_stops, writes_keep}
use Rattle.desk_program.proofs.laws.step_laws.Goals as goal

pub returns : goal.returns
returns c = record {
  reads = reads_keep;
  writes = writes_keep;
  both = keeps_then;
  none = roles_same;
  since = λ r old mid new still stop cause. cause_since r old mid new still c.calls.ensures.rose_since stop cause;
  video_stops = video_stops;
  video_cause = video_cause;
  trace_stops = trace_halts;
  trace_cause = trace_cause;
}
