-- The receivers of a group, as its sender sees them.
use Rattle.std.specs.Prelude.{ℕ, Bool, true, false, not, ◌||◌, ◌&&◌, nat_le, List, [], ◌++◌, slice_index_or, slice_set, replicate, if◌then◌else◌}
use Rattle.std.specs.List.{list_all}
use Rattle.call_model.specs.CodedPictures.{is_among}

-- What the sender has of one receiver: whether it is there, how many pictures were coded when it
-- joined last, and the numbers that its messages have called complete since then.
pub record Party : Type 0 where
  pub present : Bool
  pub since : ℕ
  pub told : List ℕ

-- no receiver was there yet
abbrev pub nobody : Party
nobody = record { present = false; since = 0; told = [] }

-- It is known to have picture m: it has said so, and it was there when m was coded. What it says of
-- earlier pictures isn't believed.
abbrev pub party_has : Party → ℕ → Bool
party_has party m = nat_le party.since m && is_among party.told m

-- it is known to have picture m, or isn't there
abbrev pub may_go_by : ℕ → Party → Bool
may_go_by m party = not party.present || party_has party m

-- each receiver that is there is known to have picture m
abbrev pub all_have : List Party → ℕ → Bool
all_have parties m = list_all (may_go_by m) parties

-- a receiver joins where this many pictures were coded: it is known to have none of them
abbrev pub party_joined : ℕ → Party
party_joined sent = record { present = true; since = sent; told = [] }

abbrev pub party_left : Party → Party
party_left party = record party { present = false }

-- it says that it has these pictures. Who isn't there isn't listened to
abbrev pub party_after_saying : List ℕ → Party → Party
party_after_saying numbers party =
    if party.present then record party { told = numbers ++ party.told } else party

-- the receiver at place k
abbrev pub party_at : List Party → ℕ → Party
party_at parties k = slice_index_or parties k nobody

-- the receivers with another one at place k
abbrev pub with_party_at : ℕ → Party → List Party → List Party
with_party_at k party parties = slice_set parties k party

-- 16 places, and nobody is there
abbrev pub nobodies : List Party
nobodies = replicate 16 nobody
