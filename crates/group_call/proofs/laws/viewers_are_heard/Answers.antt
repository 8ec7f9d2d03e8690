use Rattle.std.proofs.Common.{ℕ, List, [], length, None, ap, subst, ◌∙◌}
use Rattle.h263_types.specs.declared.blocks.Mb.{Mb}
use Rattle.h263_planes.specs.Picture.{Picture}
use Rattle.call_model.specs.Coding.{pictures_of}
use Rattle.call_model.specs.CodedPictures.{Coded, capture}
use Rattle.call_model.specs.IdealCall.{AllMayHappenFrom}
use Rattle.call_decoding.specs.Rules.{rules_of}
use Rattle.call_decoding.specs.Styles.{Style}
use Rattle.call_encoding.specs.Encoding.{encoding}
use Rattle.coded_call.specs.Coding.{coding}
use Rattle.group_sender.specs.Hearing.{HearsReceiver}
use Rattle.group_sender.specs.InACall.{AreLived, group_entries, lived_events, lived_source}
use Rattle.group_sender.specs.Running.{group_run}
use Rattle.group_call.proofs.Living.{told_is}
use Rattle.group_call.proofs.laws.viewers_are_heard.Goals as goal

pub returns : goal.returns
returns c = λ p in_range k before lived frame quant count there new ranged are near.
    let coding_of = coding p in
    let rules = rules_of p in
    let run = group_run (pictures_of coding_of) (encoding p) rules (group_entries k before lived) in
    let blank = capture (pictures_of coding_of) (encoding p) quant frame [] None in
    let source = lived_source 0 blank run.coded in
    let law = c.each_is_heard.ensures coding_of rules (c.is_coding.ensures p in_range) (c.are_rules.ensures p in_range)
    k before lived frame quant count there ranged in
    let heard : HearsReceiver coding_of rules k source run (lived_events 0 lived) =
    subst (λ (j : ℕ). AreLived coding_of rules k j (lived_source j blank run.coded) lived
    → AllMayHappenFrom (pictures_of coding_of) rules (lived_source j blank run.coded) count (lived_events j lived)
    → HearsReceiver coding_of rules k (lived_source j blank run.coded) run (lived_events j lived))
    (ap (λ (l : List (Coded Style Mb Picture)). length l) new) law are near
    in
    record {
      told = told_is p source run.coded lived ∙ heard.says;
      knows = heard.knows;
    }
