-- What stands around a packet's macroblocks.
use Rattle.std.specs.Prelude.{◌≡◌, ◌+◌, ◌*◌, ◌≤◌, Bool, List, ◌++◌, length}

-- bits are those of macroblocks with others before and after, of which there are 51 bytes at most
pub record HasShortParts (mbs bits : List Bool) : Type 0 where
  pub before : List Bool
  pub after : List Bool
  pub parts : bits ≡ before ++ (mbs ++ after)
  pub short : length before + length after ≤ 8 * 51
