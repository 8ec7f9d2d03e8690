use Rattle.std.proofs.Common.{◌≡◌, ◌+◌, ◌-◌, ◌^◌, ◌<◌}
use Rattle.call_model.specs.Numbers.{flags_of}
use Rattle.reference_selector.specs.Messages.{is_flagged}
use Rattle.receiver_end.specs.State.{slot_holds}
use Rattle.receiver_end.proofs.kept.Kept.flags.Given as goal

-- the flags of the last j numbers
abbrev pub invariant-loop-j : goal.invariant-loop-j
invariant-loop-j l =
    (l.flags < 2 ^ l.j)
    × (flags_of l.j (is_flagged l.flags) 0 ≡ flags_of l.j (slot_holds l.self.params l.self.store) (l.number + 14 - l.j))
