-- What a line holds.
use Rattle.std.specs.Prelude.{ℕ, List}
use Rattle.call_report.specs.declared.line.Line.{Line}

-- its bytes
abbrev pub line_text : Line → List ℕ
line_text line = line.text.bytes
