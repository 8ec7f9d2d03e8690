use Rattle.std.proofs.Common.{ℕ, ◌^◌, ◌<◌, ◌≤◌, arith}
use Rattle.call_decoding.specs.Rules.{rules_of}
use Rattle.call_encoding.specs.Messages.{read_message}
use Rattle.receiver_end.specs.Decoding.{decoding}
use Rattle.stream_audit.specs.Logs.{verdict_on}
use Rattle.stream_audit.proofs.Lines.{few_in_verdict, lines_tell}
use Rattle.stream_audit.proofs.laws.lines_tell_verdicts.Goals as goal

below : (n most : ℕ) → n ≤ most → most ≤ 16777216 → n < 2 ^ 64
below n most few short = omega (arith, few, short)

wider : (n : ℕ) → n < 2 ^ 32 → n < 2 ^ 64
wider n small = omega (arith, small)

pub returns : goal.returns
returns c p log v short small same =
    lines_tell (verdict_on p log) v
    (below _ _ (few_in_verdict (decoding p.format) (read_message p.clock) (rules_of p) log) short)
    (wider _ small) same
