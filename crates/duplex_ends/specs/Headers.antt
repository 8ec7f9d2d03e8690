-- Which messages are kept of the last pictures: those that their headers carry.
use Rattle.std.specs.Prelude.{◌≡◌, ℕ, ◌-◌, ◌≤◌, ⊤, List, [], ◌∷◌, length, map, slice_get, slice_index_or, Some}
use Rattle.circular_buffer.specs.Buffer.{keep_last}
use Rattle.duplex_call.specs.declared.queue.Carried.{Carried}
use Rattle.duplex_call.specs.Waiting.{in_four_places}
use Rattle.duplex_ends.specs.declared.headers.CarriedRing.{CarriedRing}

-- how many pictures a ring keeps
abbrev pub kept_by : CarriedRing → ℕ
kept_by ring = ring.kept.capacity

-- these are the messages of all headers so far, and those of the last ones are kept, in places
pub record HoldsHeaders (ring : CarriedRing) (headers : List (List Carried)) : Type 0 where
  pub newest : ring.newest ≡ length headers - 1
  pub last : ring.kept.items ≡ keep_last (kept_by ring) (map in_four_places headers)

-- the messages of one header have these numbers among those that were said
abbrev pub AreNumbered : List Carried → List ℕ → List Carried → Type 0
AreNumbered said [] [] = ⊤
AreNumbered said (k ∷ ks) (m ∷ messages) =
    (slice_get said k ≡ Some m) × AreNumbered said ks messages
AreNumbered said [] (m ∷ messages) = ⊥
AreNumbered said (k ∷ ks) [] = ⊥

-- The ring keeps the messages of the last headers, which have these numbers among those that were
-- said.
pub record HasHeaders (ring : CarriedRing) (said : List Carried)
    (carried : List (List ℕ)) : Type 0 where
  pub headers : List (List Carried)
  pub holds : HoldsHeaders ring headers
  pub count : length headers ≡ length carried
  pub each : (n : ℕ) → AreNumbered said (slice_index_or carried n []) (slice_index_or headers n [])
  pub few : (n : ℕ) → length (slice_index_or headers n []) ≤ 4
