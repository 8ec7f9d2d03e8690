use Rattle.std.proofs.Common.{take, drop, take-append-drop, ◌∙◌}
use Rattle.h263_outside.proofs.Fronts.{rest_within, next_piece}
use Rattle.h263_outside.proofs.Gains.{gained_more, writes_on, on_err_always}
use Rattle.h263_outside.proofs.whole.write_all.Goals as goal

pub loop-done-preserved : goal.loop-done-preserved
loop-done-preserved g c = record {
  within = rest_within c.args.bytes.now c.loop-done.done c.in_ok-done.field-0 c.loop-done.invariant.within
      c.in_ok-done.ensures.count;
  gained = gained_more _ c.args.role _ _ _ _ _ c.loop-done.invariant.gained c.in_ok-done.ensures.written
      (next_piece c.args.bytes.now c.loop-done.done c.in_ok-done.field-0);
  faults = c.in_ok-done.ensures.ok_faults ∙ c.loop-done.invariant.faults;
  rest = writes_on _ _ _ c.loop-done.invariant.rest c.write.ensures.rest;
}

pub returns-in_err-done-clause-err : goal.returns-in_err-done-clause-err
returns-in_err-done-clause-err g c =
    let done = c.loop-done.done in
    on_err_always c.from_residual.result (record {
      front = take done c.args.bytes.now;
      rest = drop done c.args.bytes.now;
      whole = take-append-drop done c.args.bytes.now;
      gained = c.in_err-done.ensures.err ∙ c.loop-done.invariant.gained;
    })
