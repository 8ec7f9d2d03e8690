-- What is counted of a run, and the line of its counts.
use Rattle.std.specs.Prelude.{ℕ, ◌+◌, ◌*◌, ◌^◌, ◌≤◌, List, [], ◌∷◌, codes}
use Rattle.back_messages.specs.declared.message.MessageFault.{MessageFault}
use Rattle.call_model.specs.Sending.{Reply, RefusedMessage, Old, Noted}
use Rattle.call_report.specs.Text.{counts}
use Rattle.send_command.specs.declared.tally.Tally.{Tally}

-- nothing was counted
abbrev pub nothing_sent_counted : Tally
nothing_sent_counted = record { sent = 0; packets = 0; noted = 0; outdated = 0; refused = 0 }

-- one picture more was sent, in this many packets
abbrev pub with_sent_picture : ℕ → Tally → Tally
with_sent_picture count t = record t { sent = t.sent + 1; packets = t.packets + count }

-- one answer more to feedback
abbrev pub with_reply : Reply MessageFault → Tally → Tally
with_reply Noted t = record t { noted = t.noted + 1 }
with_reply Old t = record t { outdated = t.outdated + 1 }
with_reply (RefusedMessage fault) t = record t { refused = t.refused + 1 }

-- the line of the counts
abbrev pub sender_counts : Tally → List ℕ
sender_counts t =
    counts
    ((codes "sent", t.sent)
    ∷ (codes "packets", t.packets)
    ∷ (codes "noted", t.noted)
    ∷ (codes "old", t.outdated)
    ∷ (codes "refused", t.refused)
    ∷ [])

-- what was counted comes from this many entries
pub record IsOf (n : ℕ) (t : Tally) : Type 0 where
  pub sent : t.sent ≤ n
  pub packets : t.packets ≤ n * 2 ^ 32
  pub noted : t.noted ≤ n
  pub outdated : t.outdated ≤ n
  pub refused : t.refused ≤ n
