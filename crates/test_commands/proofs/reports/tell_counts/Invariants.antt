use denote.Shadow.{shadow}
use denote.Text.{Utf8}
use Rattle.test_commands.proofs.reports.tell_counts.Given as goal

-- the last word is a text
abbrev pub invariant-loop-part : goal.invariant-loop-part
invariant-loop-part l = record { text : shadow (Utf8 l.word) }
