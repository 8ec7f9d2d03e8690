use Rattle.std.proofs.Common.{Result, Ok, refl, subst, sym}
use Rattle.h263_outside.specs.declared.desk.Role.TheVariants.{Video, Video2}
use Rattle.h263_types.specs.declared.format.Format.{Format}
use Rattle.y4m.specs.declared.fault.Y4mFault.{Y4mFault}
use Rattle.y4m.specs.Head.{head_of, head_size}
use Rattle.call_report.specs.declared.status.Status.TheVariants.{VideoRefused, Video2Refused}
use Rattle.call_decoding.specs.Rules.{rules_of}
use Rattle.coded_call.specs.Coding.{coding}
use Rattle.desk_program.specs.Run.{left_after, follow, machine_run}
use Rattle.duplex_call.specs.Duplex.{way}
use Rattle.duplex_ends.specs.Ways.{sides}
use Rattle.one_way.specs.Both.{steady}
use Rattle.duplex_command.specs.Begin.{heads_step, in_formats}
use Rattle.duplex_command.specs.Duplex.{duplex_step}
use Rattle.duplex_command.specs.Recorded.{IsRefusedAtOnce, party_film, ways_of}
use Rattle.duplex_command.proofs.Followed.{follows}
use Rattle.duplex_command.proofs.laws.both_follow_their_trace.Goals as goal

pub returns-clause-trace : goal.returns-clause-trace
returns-clause-trace c = λ p inputs f g first second.
    let q = in_formats p f g in
    let captures = party_film q inputs in
    follows p f g inputs
    (record {
      later = λ x. c.later_frames.ensures.ideal (coding x) (rules_of x);
      none = c.refused_exactly.ensures q;
      counts = λ x frames. c.frames_by_events.ensures.counts (coding x) (rules_of x) (steady x) frames;
      each = c.each_way_is_near.ensures (sides q) captures;
      left = c.frames_left.ensures;
      gone = c.line_laws.ensures.gone;
    })
    c.frame_by_frame.ensures
    (λ past near x. c.what_arrived_is_shown.ensures.frames (q x) (way x (ways_of q captures past)).frames
    (way x (ways_of q captures past)).past (c.each_way_is_near.ensures (sides q) captures past near x))
    first second

pub returns-clause-no_first_head : goal.returns-clause-no_first_head
returns-clause-no_first_head c = λ p inputs fault first.
    subst
    (λ (a : Result Format Y4mFault). IsRefusedAtOnce (VideoRefused fault) Video2 0
    (follow (heads_step p inputs a (head_of (inputs Video2))) (λ next taken. machine_run duplex_step 16777216 next
    (left_after inputs taken))))
    (sym first)
    (record { turns = refl; because = refl; silent = λ role. refl; left = refl })

pub returns-clause-no_second_head : goal.returns-clause-no_second_head
returns-clause-no_second_head c = λ p inputs f fault first second.
    subst
    (λ (a : Result Format Y4mFault). IsRefusedAtOnce (Video2Refused fault) Video (head_size (inputs Video))
    (follow (heads_step p inputs a (head_of (inputs Video2))) (λ next taken. machine_run duplex_step 16777216 next
    (left_after inputs taken))))
    (sym first)
    (subst
    (λ (b : Result Format Y4mFault). IsRefusedAtOnce (Video2Refused fault) Video (head_size (inputs Video))
    (follow (heads_step p inputs (Ok f) b) (λ next taken. machine_run duplex_step 16777216 next
    (left_after inputs taken))))
    (sym second)
    (record { turns = refl; because = refl; silent = λ role. refl; left = refl }))
