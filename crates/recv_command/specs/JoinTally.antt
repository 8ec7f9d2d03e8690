-- What is counted of a joiner.
use Rattle.std.specs.Prelude.{ℕ, ◌+◌, List, [], ◌∷◌, codes}
use Rattle.call_report.specs.Text.{counts}
use Rattle.payload_join.specs.declared.took.Took.{Took}
use Rattle.payload_join.specs.declared.took.Took.TheVariants as tooks
use Rattle.recv_command.specs.declared.join_tally.JoinTally.{JoinTally}

-- nothing was counted
abbrev pub nothing_taken : JoinTally
nothing_taken =
    record {
      held = 0;
      too_old = 0;
      again = 0;
      refused = 0;
      joined = 0;
    }

-- how many packets were taken: each counts once
abbrev pub packets_taken : JoinTally → ℕ
packets_taken t = t.held + t.too_old + t.again + t.refused

-- this became of one packet more
abbrev pub with_took : Took → JoinTally → JoinTally
with_took tooks.Held t = record t { held = t.held + 1 }
with_took tooks.Old t = record t { too_old = t.too_old + 1 }
with_took tooks.Again t = record t { again = t.again + 1 }
with_took (tooks.Refused fault) t = record t { refused = t.refused + 1 }

-- so many packets more went out
abbrev pub with_joined : ℕ → JoinTally → JoinTally
with_joined count t = record t { joined = t.joined + count }

-- the line of what was taken and went out
abbrev pub join_text : JoinTally → List ℕ
join_text t =
    counts
    ((codes "held", t.held)
    ∷ (codes "old", t.too_old)
    ∷ (codes "again", t.again)
    ∷ (codes "refused", t.refused)
    ∷ (codes "joined", t.joined)
    ∷ [])
