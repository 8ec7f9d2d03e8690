use Rattle.std.proofs.Common.{◌∙◌}
use Rattle.std.proofs.Math.Nat.{mod-eq_of_lt}
use Rattle.h263_bits.proofs.BitLists.{number-spelled, spelled-number, length-spelled, length-bits_of}
use Rattle.h263_bits.proofs.laws.spelling.Goals as goal

pub returns : goal.returns
returns c = record {
  number_of_bits = λ n value fits. number-spelled n value ∙ mod-eq_of_lt fits;
  bits_of_number = spelled-number;
  many = length-spelled;
  whole = length-bits_of;
}
