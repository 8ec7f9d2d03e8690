-- Bits that wait to be written, as the code keeps them.
use Rattle.std.specs.Prelude.{◌<◌, ◌^◌, List, Bool}
use Rattle.h263_bits.specs.Bits.{spelled}
use Rattle.block_layer.specs.declared.writing.Waiting.{Waiting}

-- fewer than 32 bits wait, and their number has no others
pub record DoWait (w : Waiting) : Type 0 where
  pub few : w.count < 32
  pub fits : w.bits < 2 ^ w.count

abbrev pub waiting_text : Waiting → List Bool
waiting_text w = spelled w.count w.bits
