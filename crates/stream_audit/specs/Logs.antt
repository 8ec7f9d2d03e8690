-- The logs of the program's streams: packets and messages by their bytes.
use Rattle.std.specs.Prelude.{◌≡◌, ℕ, ◌≤◌, List, Option, Result}
use Rattle.h263_bits.specs.declared.fault.Fault.{Fault}
use Rattle.h263_types.specs.declared.blocks.Mb.{Mb}
use Rattle.h263_types.specs.declared.params.Params.{Params}
use Rattle.call_model.specs.Coding.{Piece}
use Rattle.call_decoding.specs.Rules.{rules_of}
use Rattle.call_decoding.specs.Styles.{Style}
use Rattle.call_encoding.specs.Messages.{read_message}
use Rattle.receiver_end.specs.Decoding.{decoding}
use Rattle.stream_audit.specs.declared.verdict.Broken.{Broken}
use Rattle.stream_audit.specs.declared.verdict.Verdict.{Verdict}
use Rattle.stream_audit.specs.declared.verdict.Verdict.TheVariants.{Yes}
use Rattle.stream_audit.specs.Stream.{LogEntry, Item, stream_of}
use Rattle.stream_audit.specs.Verdict.{broken_by, broken_in, first_broken, verdict_of}
use Rattle.stream_audit.specs.Replay.{NoneIsRefused, ExactWhereAllCame}

-- a stream of the program's pictures
abbrev pub Stream : Type 0
Stream = List (Item Style Mb)

-- what the definitions say of a log with these parameters, the newest first
module _ (p : Params) where
  abbrev pub stream_on : List LogEntry → Stream
  stream_on past = stream_of (decoding p.format) past

  abbrev pub broken_by_on : Stream → Result (Piece Style Mb) Fault → Option Broken
  broken_by_on items read = broken_by (decoding p.format) (read_message p.clock) (rules_of p) items read

  abbrev pub broken_in_on : Stream → LogEntry → Option Broken
  broken_in_on items e = broken_in (decoding p.format) (read_message p.clock) (rules_of p) items e

  abbrev pub first_broken_on : List LogEntry → Option Broken
  first_broken_on past = first_broken (decoding p.format) (read_message p.clock) (rules_of p) past

  abbrev pub verdict_on : List LogEntry → Verdict
  verdict_on past = verdict_of (decoding p.format) (read_message p.clock) (rules_of p) past

-- the parameters, with messages of this version
abbrev pub of_version : ℕ → Params → Params
of_version version p = record p { messages = version }

-- The law of audits for the program's streams. It is of receivers whose messages are of version 1,
-- and of those whose messages have flags.
abbrev pub StreamsAreAudited : Params → Type 0
StreamsAreAudited p = (version : ℕ) → 1 ≤ version → version ≤ 2 → (log : List LogEntry) (count : ℕ) →
    let rules = rules_of (of_version version p) in
    verdict_on p log ≡ Yes count
    → NoneIsRefused (decoding p.format) (read_message p.clock) rules (stream_on p log)
    × ExactWhereAllCame (decoding p.format) (read_message p.clock) rules (stream_on p log)

-- the verdict on a log with these parameters is that with messages of any version
abbrev pub VerdictOfEachVersion : Params → Type 0
VerdictOfEachVersion p = (version : ℕ) (past : List LogEntry) →
    verdict_on (of_version version p) past ≡ verdict_on p past
