-- What is counted of a receiver's run.
use Rattle.std.specs.Prelude.{ℕ, ◌+◌, List, [], ◌∷◌, codes}
use Rattle.h263_bits.specs.declared.fault.Fault.{Fault}
use Rattle.h263_types.specs.declared.Mark.{Mark}
use Rattle.h263_types.specs.declared.Mark.TheVariants as marks
use Rattle.call_report.specs.Text.{counts}
use Rattle.call_model.specs.Receiving as runs
use Rattle.receiver_end.specs.declared.answers.Heard.{Heard}
use Rattle.receiver_end.specs.declared.answers.Heard.TheVariants as heards
use Rattle.recv_command.specs.declared.tally.Tally.{Tally}

-- nothing was counted
abbrev pub nothing_heard_counted : Tally
nothing_heard_counted =
    record {
      exact = 0;
      patched = 0;
      held = 0;
      taken = 0;
      late = 0;
      early = 0;
      repeat = 0;
      refused = 0;
    }

-- how much was counted: each entry of a log counts once
abbrev pub total_counted : Tally → ℕ
total_counted t = t.exact + t.patched + t.held + t.taken + t.late + t.early + t.repeat + t.refused

-- a picture more was shown with this mark
abbrev pub with_mark : Mark → Tally → Tally
with_mark marks.Exact t = record t { exact = t.exact + 1 }
with_mark marks.Patched t = record t { patched = t.patched + 1 }
with_mark marks.Held t = record t { held = t.held + 1 }

-- a packet more had this answer
abbrev pub with_heard : Heard → Tally → Tally
with_heard heards.Taken t = record t { taken = t.taken + 1 }
with_heard (heards.Completed said) t = record t { taken = t.taken + 1 }
with_heard heards.Late t = record t { late = t.late + 1 }
with_heard heards.Early t = record t { early = t.early + 1 }
with_heard heards.Repeat t = record t { repeat = t.repeat + 1 }
with_heard (heards.Refused fault) t = record t { refused = t.refused + 1 }

-- the same, by the answer of a run: one that is none of the others is a refusal
abbrev pub with_answer : runs.Heard Fault → Tally → Tally
with_answer runs.Taken t = record t { taken = t.taken + 1 }
with_answer (runs.Completed message) t = record t { taken = t.taken + 1 }
with_answer runs.Late t = record t { late = t.late + 1 }
with_answer runs.Early t = record t { early = t.early + 1 }
with_answer runs.Repeat t = record t { repeat = t.repeat + 1 }
with_answer _ t = record t { refused = t.refused + 1 }

-- the line of what was played and counted
abbrev pub receiver_counts : ℕ → Tally → List ℕ
receiver_counts played t =
    counts
    ((codes "played", played)
    ∷ (codes "exact", t.exact)
    ∷ (codes "patched", t.patched)
    ∷ (codes "held", t.held)
    ∷ (codes "taken", t.taken)
    ∷ (codes "late", t.late)
    ∷ (codes "early", t.early)
    ∷ (codes "repeat", t.repeat)
    ∷ (codes "refused", t.refused)
    ∷ [])
