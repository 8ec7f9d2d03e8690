-- How many pictures a sender knows to be complete at the other end, of those to which its next
-- picture may refer.
use Rattle.std.specs.Prelude.{ℕ, zero, suc, ◌+◌, Bool, ◌&&◌, nat_le, length, if◌then◌else◌}
use Rattle.h263_types.specs.declared.params.Params.{Params}
use Rattle.call_model.specs.Coding.{window}
use Rattle.call_model.specs.CodedPictures.{is_among}
use Rattle.call_decoding.specs.Rules.{rules_of}
use Rattle.sender_end.specs.Stands.{SentRun}

-- how many numbers below the bound pass the test
abbrev pub count_below : ℕ → (ℕ → Bool) → ℕ
count_below zero test = 0
count_below (suc n) test = if test n then count_below n test + 1 else count_below n test

-- picture m is in the window of the next picture, wasn't forgotten, and is known to be complete
abbrev pub may_serve : Params → SentRun → ℕ → Bool
may_serve p run m =
    nat_le (length run.run.coded) (m + window (rules_of p))
    && (nat_le run.since m && is_among run.run.known m)

-- how many of the pictures that were coded are so
abbrev pub known_in : Params → SentRun → ℕ
known_in p run = count_below (length run.run.coded) (may_serve p run)
