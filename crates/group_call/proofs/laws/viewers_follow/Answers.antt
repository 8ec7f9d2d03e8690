use Rattle.std.proofs.Common.{ℕ, List, [], length, None, ap, subst, ◌∙◌, sym, arith}
use Rattle.h263_types.specs.declared.blocks.Mb.{Mb}
use Rattle.h263_planes.specs.Picture.{Picture}
use Rattle.call_model.specs.Coding.{pictures_of}
use Rattle.call_model.specs.CodedPictures.{Coded, capture}
use Rattle.call_model.specs.IdealCall.{AllMayHappenFrom, call_from}
use Rattle.call_model.specs.Receiving.{ReceiverRun, played_shown}
use Rattle.call_model.specs.Sound.{ReceiverIsAt}
use Rattle.call_decoding.specs.Rules.{rules_of}
use Rattle.call_decoding.specs.Styles.{Style}
use Rattle.call_encoding.specs.Encoding.{encoding}
use Rattle.coded_call.specs.Coding.{coding}
use Rattle.receiver_end.specs.Decoding.{decoding}
use Rattle.group_sender.specs.InACall.{AreLived, FollowsTheGroup, group_entries, lived_events, lived_source}
use Rattle.group_sender.specs.Running.{group_run}
use Rattle.group_call.proofs.Living.{received_is}
use Rattle.group_call.proofs.laws.viewers_follow.Goals as goal

pub returns : goal.returns
returns c = λ p in_range k before lived frame quant count there new ranged are near.
    let coding_of = coding p in
    let rules = rules_of p in
    let coded = (group_run (pictures_of coding_of) (encoding p) rules (group_entries k before lived)).coded in
    let blank = capture (pictures_of coding_of) (encoding p) quant frame [] None in
    let source = lived_source 0 blank coded in
    let law = c.group.ensures coding_of rules (c.is_coding.ensures p in_range) (c.are_rules.ensures p in_range) k before
    lived frame quant count there ranged in
    let follows : FollowsTheGroup coding_of rules 0 count source coded (lived_events 0 lived) =
    subst (λ (j : ℕ). AreLived coding_of rules k j (lived_source j blank coded) lived
    → AllMayHappenFrom (pictures_of coding_of) rules (lived_source j blank coded) count (lived_events j lived)
    → FollowsTheGroup coding_of rules j count (lived_source j blank coded) coded (lived_events j lived))
    (ap (λ (l : List (Coded Style Mb Picture)). length l) new) law are near
    in
    let is = received_is p source coded lived in
    record {
      own = λ n. follows.own n (omega arith);
      state = subst (λ (run : ReceiverRun Style Mb Picture). ReceiverIsAt (decoding p.format) rules
          (call_from (pictures_of coding_of) rules source (lived_events 0 lived)) run) (sym is) follows.follows.state;
      shows = λ some. ap (λ (run : ReceiverRun Style Mb Picture). played_shown (decoding p.format) rules run) is
          ∙ (follows.follows.plays some).0;
    }
