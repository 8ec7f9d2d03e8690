-- The line of a call's counts.
use Rattle.std.specs.Prelude.{ℕ, [], ◌∷◌, length, codes}
use Rattle.h263_types.specs.Texts.{Text}
use Rattle.call_report.specs.Text.{counts}
use Rattle.one_way.specs.declared.tally.Tally.{Tally}
use Rattle.one_way.specs.Counts.{plays_marked, one_exact, one_held, one_patched}
use Rattle.one_way.specs.Seen.{Seen}

-- the line of these counts, with this word for the pictures that were played
abbrev pub counts_text_of : Text → ℕ → ℕ → ℕ → ℕ → ℕ → Text
counts_text_of word played sent exact patched held =
    counts
    ((word, played)
    ∷ (codes "sent", sent)
    ∷ (codes "exact", exact)
    ∷ (codes "patched", patched)
    ∷ (codes "held", held)
    ∷ [])

abbrev pub counts_text : ℕ → ℕ → ℕ → ℕ → ℕ → Text
counts_text = counts_text_of (codes "played")

-- the line of a call: how many pictures were played and sent, and how the plays were marked
abbrev pub call_text_of : Text → Seen → Text
call_text_of word seen =
    counts_text_of word seen.played (length seen.coded) (plays_marked one_exact seen.plays)
    (plays_marked one_patched seen.plays) (plays_marked one_held seen.plays)

abbrev pub call_text : Seen → Text
call_text = call_text_of (codes "played")

-- the line of these counts, with those of the pictures that were played and sent
abbrev pub counts_with : Text → Tally → ℕ → ℕ → Text
counts_with word tally played sent =
    counts_text_of word played sent tally.exact tally.patched tally.held

abbrev pub counts_of : Tally → ℕ → ℕ → Text
counts_of = counts_with (codes "played")
