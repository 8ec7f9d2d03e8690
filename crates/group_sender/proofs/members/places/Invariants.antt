use Rattle.std.proofs.Common.{◌≡◌, ◌<◌, ℕ, length, get_or}
use Rattle.std.specs.Vec.{vec_capacity, vec_len}
use Rattle.h263_types.specs.Clocks.{half_of}
use Rattle.call_model.specs.Coding.{Rules}
use Rattle.group_sender.specs.declared.member.Member.{Member}
use Rattle.group_sender.specs.Parties.{nobody}
use Rattle.group_sender.specs.Standing.{MemberStands}
use Rattle.group_sender.proofs.members.places.Given as goal

-- each place so far has nobody
abbrev pub invariant-places : goal.invariant-places
invariant-places l = (length l.members.items ≡ l.k) × (vec_len l.members ≡ l.k) × (vec_capacity l.members ≡ 16)
    × ((rules : Rules) → rules.slots ≡ l.params.slots → rules.lead ≡ l.params.lead → rules.half ≡ half_of l.params.clock
    → rules.chain ≡ 131
    → (j : ℕ) (other : Member) → j < length l.members.items
    → MemberStands rules (get_or l.members.items j other) 0 nobody)
