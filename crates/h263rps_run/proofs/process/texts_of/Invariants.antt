use Rattle.std.proofs.Common.{◌≡◌, map}
use Rattle.std.proofs.Common.{take}
use Rattle.std.specs.String.{string_bytes}
use Rattle.command_words.specs.Clap.{texts}
use Rattle.h263rps_run.proofs.process.texts_of.Given as goal

abbrev pub invariant-loop-word : goal.invariant-loop-word
invariant-loop-word l = texts l.texts.items ≡ map string_bytes (take l.word-index l.words)
