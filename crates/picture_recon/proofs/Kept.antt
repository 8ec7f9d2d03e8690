-- Numbers that are kept as they are, and a block's first value.
use Rattle.std.proofs.Common.{◌≡◌, ℕ, ◌≤◌, ◌<◌, min, ℤ, pos, ◌+ℤ◌, cond, nat_eq, ap, ◌∙◌, arith, to_z, of_z, w16}
use Rattle.std.proofs.lemmas.Int.{ints}
use Rattle.std.proofs.lemmas.Bool.Decides.{nat_tests}
use Rattle.h263_types.specs.declared.blocks.Block.{Block}
use Rattle.h263_types.specs.Blocks.{IsDc, IsLevel, IsValue}
use Rattle.idct8.specs.Ranges.{Within}
use Rattle.picture_recon.specs.Samples.{inter_value, intra_value, limited}

-- a value of a level comes back from 16 bits
pub kept : (z : ℤ) → IsValue z → to_z w16 (of_z w16 z) ≡ z
kept z h = omega (arith, ints)

pub kept_number : (z : ℤ) → Within 32000 z → to_z w16 (of_z w16 z) ≡ z
kept_number z h = omega (arith, ints)

-- so does a level
pub kept_level : (z : ℤ) → IsLevel z → to_z w16 (of_z w16 z) ≡ z
kept_level z h = omega (arith, ints)

-- so does INTRADC
pub same_dc : (z : ℤ) → IsDc z → to_z w16 (of_z w16 z) ≡ z
same_dc z h = omega (arith, ints)

-- but for the first, values of intra and inter blocks are alike
later : (k : ℕ) (first other : ℤ) → 1 ≤ k → other ≡ cond (nat_eq k 0) first other
later k first other h = grind (arith, nat_tests)

-- but for the first one the values of intra and inter blocks are the same
pub other_value : (quant : ℕ) (b : Block) (k : ℕ) → 1 ≤ k → inter_value quant b k ≡ intra_value quant b k
other_value quant b k h = later k _ (inter_value quant b k) h

-- a sample to which nothing is added stays
pub sample_kept : (n : ℕ) (z : ℤ) → n < 256 → z ≡ pos 0 → n ≡ limited (pos n +ℤ z)
sample_kept n z h e =
    let small : n ≡ min n 255 = omega arith in
    let sum : pos n ≡ pos n +ℤ z = omega (arith, ints) in
    small ∙ ap limited sum
