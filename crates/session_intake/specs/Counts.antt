-- What is counted, up to 2^64 - 1.
use Rattle.std.specs.Prelude.{ℕ, ◌+◌, min}
use Rattle.h263_types.specs.declared.Mark.{Mark}
use Rattle.h263_types.specs.declared.Mark.TheVariants as marks
use Rattle.stream_choice.specs.declared.streams.Run.{Run}
use Rattle.stream_choice.specs.declared.streams.Run.TheVariants as runs
use Rattle.session_intake.specs.declared.seen.Cause.{Cause}
use Rattle.session_intake.specs.declared.seen.Cause.TheVariants as causes
use Rattle.session_intake.specs.declared.counts.Counts.{Counts}

abbrev pub one_more : ℕ → ℕ
one_more n = min (n + 1) 18446744073709551615

abbrev pub nothing_counted : Counts
nothing_counted = record {
  taken = 0;
  long = 0;
  malformed = 0;
  other_pictures = 0;
  too_fast = 0;
  other_stream = 0;
  exact = 0;
  patched = 0;
  held = 0;
}

abbrev pub after_taken : Counts → Counts
after_taken c = record c { taken = one_more c.taken }

abbrev pub after_drop : Cause → Counts → Counts
after_drop causes.Long c = record c { long = one_more c.long }
after_drop causes.Malformed c = record c { malformed = one_more c.malformed }
after_drop causes.OtherPictures c = record c { other_pictures = one_more c.other_pictures }
after_drop causes.TooFast c = record c { too_fast = one_more c.too_fast }
after_drop causes.OtherStream c = record c { other_stream = one_more c.other_stream }

abbrev pub after_mark : Mark → Counts → Counts
after_mark marks.Exact c = record c { exact = one_more c.exact }
after_mark marks.Patched c = record c { patched = one_more c.patched }
after_mark marks.Held c = record c { held = one_more c.held }

-- Of the stream that is followed plays are counted.
abbrev pub counts_after_play : Run → Mark → Counts → Counts
counts_after_play runs.Followed mark c = after_mark mark c
counts_after_play runs.Former mark c = c
counts_after_play runs.Tried mark c = c
