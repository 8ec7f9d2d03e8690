use Rattle.std.proofs.Common.{Result, ap}
use Rattle.h263_outside.specs.declared.desk.Role.TheVariants.{Video}
use Rattle.h263_types.specs.declared.format.Format.{Format}
use Rattle.y4m.specs.declared.fault.Y4mFault.{Y4mFault}
use Rattle.call_decoding.specs.Rules.{rules_of}
use Rattle.call_decoding.specs.Samples.{pictures}
use Rattle.call_encoding.specs.Encoding.{encoding}
use Rattle.desk_program.specs.Run.{left_after, follow, machine_run}
use Rattle.group_command.specs.Group.{group_step, group_head_step}
use Rattle.group_command.proofs.Followed.{follows}
use Rattle.group_command.proofs.Starting.{in_format}
use Rattle.group_command.proofs.laws.a_group_follows_its_trace.Goals as goal

pub returns-clause-trace : goal.returns-clause-trace
returns-clause-trace c = λ t inputs f in_range some few head.
    let p = record t.params { format = f } in
    let ranged = in_format t.params f in_range in
    follows t f inputs
    (record {
      groups = record {
        views = record {
          in_range = ranged;
          follow = c.viewers_follow.ensures p ranged;
          hear = c.viewers_are_heard.ensures p ranged;
        };
        references = record {
          reference = c.newest_of_all.ensures.reference (pictures p.format) (encoding p) (rules_of p);
          all = c.newest_of_all.ensures.all;
        };
        messages = c.message_laws.ensures p;
      };
      none = c.refusals.ensures.ideal (rules_of p);
      gone = c.line_laws.ensures.gone;
    })
    (c.what_arrived_is_shown.ensures.any p)
    c.frame_by_frame.ensures some few head

pub returns-clause-no_head : goal.returns-clause-no_head
returns-clause-no_head c = λ t inputs fault is.
    ap
    (λ (r : Result Format Y4mFault). follow (group_head_step t (inputs Video) r)
    (λ next taken. machine_run group_step 16777216 next (left_after inputs taken)))
    is
