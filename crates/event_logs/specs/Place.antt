-- Where a reader is in a log: all that a caller may know of it.
use Rattle.std.specs.Prelude.{ℕ, ◌*◌, ◌≤◌}
use Rattle.event_logs.specs.declared.entry.Side.{Side}

-- whose log it is, how many of its entries were read, and the byte where the next one begins
pub record LogPlace : Type 0 where
  pub side : Side
  pub entries : ℕ
  pub at : ℕ

-- a log has 16,777,216 entries at most, and an entry 65,538 bytes at most
pub record IsInLog (place : LogPlace) : Type 0 where
  pub few : place.entries ≤ 16777216
  pub near : place.at ≤ 65538 * place.entries
