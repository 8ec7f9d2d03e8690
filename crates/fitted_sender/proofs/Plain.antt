-- The run of a sender whose pictures fit no size.
use Rattle.std.proofs.Common.{ℕ, refl, ap, ◌∙◌, List, [], ◌∷◌, ◌++◌, Option}
use Rattle.h263_types.specs.declared.params.Params.{Params}
use Rattle.call_model.specs.Sending as call
use Rattle.call_model.specs.Sending.{SenderEntry}
use Rattle.call_model.specs.Steering.{NoFloor}
use Rattle.call_decoding.specs.Rules.{rules_of}
use Rattle.call_decoding.specs.Samples.{pictures}
use Rattle.call_encoding.specs.Encoding.{encoding}
use Rattle.call_encoding.specs.Frames.{Frame}
use Rattle.sender_end.specs.Stands as senders
use Rattle.rate_control.specs.Pace.{pace_of}
use Rattle.fitted_sender.specs.Aiming.{PlainIsSenderRun, Sent, sent_after_heard, after_sent, plain_aim}

-- after one more frame, with these pictures known
abbrev with_known : Params → Option ℕ → Frame → List (SenderEntry Frame) → List ℕ → Sent
with_known p target frame entries known =
    let run = senders.entries_run p (pace_of target p) entries in
    record {
      run = record {
        run = record run {
          coded = run.coded ++ call.next_coded (pictures p.format) (encoding p) (rules_of p)
              (pace_of target p) frame run.coded known ∷ [];
        };
        since = 0;
      };
      aim = plain_aim p target;
    }

pub plain_is_run : NoFloor → PlainIsSenderRun
plain_is_run nothing p target [] = refl
plain_is_run nothing p target (call.Capture frame ∷ entries) =
    ap (after_sent p frame) (plain_is_run nothing p target entries)
    ∙ ap (λ (known : List ℕ). with_known p target frame entries known)
    (nothing (senders.entries_run p (pace_of target p) entries).known)
plain_is_run nothing p target (call.Feedback bytes ∷ entries) = ap (sent_after_heard p bytes)
    (plain_is_run nothing p target entries)
