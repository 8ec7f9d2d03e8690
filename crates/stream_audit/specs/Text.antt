-- The line of a verdict.
use Rattle.std.specs.Prelude.{◌≡◌, ℕ, ◌^◌, ◌<◌, ◌≤◌, List, [], ◌∷◌, ◌++◌, length, codes, decimal}
use Rattle.h263_types.specs.declared.params.Params.{Params}
use Rattle.stream_audit.specs.declared.text.Text.{Text}
use Rattle.stream_audit.specs.declared.verdict.Rule.{Rule}
use Rattle.stream_audit.specs.declared.verdict.Rule.TheVariants as rule
use Rattle.stream_audit.specs.declared.verdict.Verdict.{Verdict}
use Rattle.stream_audit.specs.declared.verdict.Verdict.TheVariants.{Yes, No}
use Rattle.stream_audit.specs.Logs.{verdict_on}
use Rattle.stream_audit.specs.Stream.{LogEntry}
use Rattle.h263_types.specs.Texts.{newline}

-- its bytes
abbrev pub audit_text : Text → List ℕ
audit_text text = text.line.bytes

-- the word of a rule
abbrev pub rule_word : Rule → List ℕ
rule_word rule.Packet = codes "packet"
rule_word rule.Number = codes "number"
rule_word rule.Header = codes "header"
rule_word rule.Overlap = codes "overlap"
rule_word rule.Gap = codes "gap"
rule_word rule.Reference = codes "reference"

-- the count of a sound stream, or the picture and the rule that it breaks
abbrev pub verdict_line : Verdict → List ℕ
verdict_line (Yes pictures) = codes "yes pictures " ++ decimal pictures ++ newline
verdict_line (No number rule) = codes "no " ++ decimal number ++ codes " " ++ rule_word rule ++ newline

-- the number that a verdict tells
abbrev pub number_told : Verdict → ℕ
number_told (Yes pictures) = pictures
number_told (No number rule) = number

-- Of a log as long as one can be, a line is that of the verdict on it only where it tells this verdict.
abbrev pub LineTells : Params → Type 0
LineTells p = (log : List LogEntry) (v : Verdict) → length log ≤ 16777216 → number_told v < 2 ^ 32
    → verdict_line (verdict_on p log) ≡ verdict_line v → verdict_on p log ≡ v
