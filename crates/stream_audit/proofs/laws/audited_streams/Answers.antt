use Rattle.std.proofs.Common.{◌∙◌}
use Rattle.h263_types.specs.declared.params.Params.{Params}
use Rattle.h263_types.specs.Params.{IsParams}
use Rattle.call_decoding.specs.Rules.{flags_in_version, rules_of}
use Rattle.receiver_end.specs.Decoding.{decoding}
use Rattle.call_encoding.specs.Messages.{read_message}
use Rattle.stream_audit.specs.Logs.{of_version}
use Rattle.stream_audit.proofs.Periods.{reads_in_period}
use Rattle.stream_audit.proofs.laws.audited_streams.Goals as goal

pub returns-clause-verdict : goal.returns-clause-verdict
returns-clause-verdict c p version past =
    c.flags_are_not_judged.ensures (decoding p.format) (read_message p.clock) (rules_of p) (flags_in_version version)
    past

pub returns-clause-audited : goal.returns-clause-audited
returns-clause-audited c p in_range version low high log count approved =
    let q : Params = of_version version p in
    let fits : IsParams q = record {
      quant_low = in_range.quant_low;
      quant_high = in_range.quant_high;
      keep_low = in_range.keep_low;
      keep_high = in_range.keep_high;
      radius = in_range.radius;
      limit_low = in_range.limit_low;
      limit_high = in_range.limit_high;
      slots_low = in_range.slots_low;
      slots_high = in_range.slots_high;
      lead = in_range.lead;
      messages_low = low;
      messages_high = high;
    } in
    c.audited.ensures (decoding p.format) (read_message p.clock) (rules_of q) (c.is_decoding.ensures q)
    (c.are_rules.ensures q fits)
    (reads_in_period q (λ s bytes. c.exact_text.ensures.read p.format s bytes))
    log count (c.flags_are_not_judged.ensures (decoding p.format) (read_message p.clock) (rules_of p)
    (flags_in_version version) log ∙ approved)
