-- How many pictures were shown with each mark.
use Rattle.std.specs.Prelude.{◌≡◌, ℕ, ◌+◌, List, [], ◌∷◌}
use Rattle.h263_types.specs.declared.Mark.{Mark}
use Rattle.h263_types.specs.declared.Mark.TheVariants as marks
use Rattle.call_model.specs.Coding.{Shown, Mark as CallMark, Exact, Patched, Held}
use Rattle.one_way.specs.declared.tally.Tally.{Tally}

-- ---- by the plays of a call

-- one more where this is the mark
abbrev pub one_exact : CallMark → ℕ
one_exact Exact = 1
one_exact Patched = 0
one_exact Held = 0

abbrev pub one_patched : CallMark → ℕ
one_patched Exact = 0
one_patched Patched = 1
one_patched Held = 0

abbrev pub one_held : CallMark → ℕ
one_held Exact = 0
one_held Patched = 0
one_held Held = 1

-- how many plays have a mark, by whether one has it
abbrev pub plays_marked : {Picture : Type 0} → (CallMark → ℕ) → List (Shown Picture) → ℕ
plays_marked one [] = 0
plays_marked one (shown ∷ plays) = plays_marked one plays + one shown.mark

-- ---- as they are counted

abbrev pub no_marks : Tally
no_marks = record { exact = 0; patched = 0; held = 0 }

-- with one more of a mark
abbrev pub tally_counted : Mark → Tally → Tally
tally_counted marks.Exact tally = record tally { exact = tally.exact + 1 }
tally_counted marks.Patched tally = record tally { patched = tally.patched + 1 }
tally_counted marks.Held tally = record tally { held = tally.held + 1 }

abbrev pub total_of : Tally → ℕ
total_of tally = tally.exact + tally.patched + tally.held

-- these are the marks of the plays
pub record AreCounted {Picture : Type 0} (tally : Tally) (plays : List (Shown Picture)) : Type 0 where
  pub exact : tally.exact ≡ plays_marked one_exact plays
  pub patched : tally.patched ≡ plays_marked one_patched plays
  pub held : tally.held ≡ plays_marked one_held plays
