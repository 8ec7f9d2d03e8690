use Rattle.std.proofs.Common.{◌≡◌, List, length}
use Rattle.call_model.specs.Coding.{Rules}
use Rattle.group_sender.specs.Parties.{Party}
use Rattle.group_sender.specs.Standing.{MembersStand}
use Rattle.group_sender.proofs.Places.{AreTold}
use Rattle.group_sender.proofs.members.tell_coded.Given as goal

-- the places below k were told
abbrev pub invariant-places : goal.invariant-places
invariant-places l = (length l.members ≡ length l.initial.members) × ((rules : Rules) (parties : List Party)
    → MembersStand rules l.initial.members l.number parties
    → AreTold rules l.members l.number l.k parties)
