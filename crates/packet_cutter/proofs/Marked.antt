-- Macroblocks with their marks, and the same without.
use Rattle.std.proofs.Common.{◌≡◌, ℕ, zero, suc, List, [], ◌∷◌, length, map, refl, ap, take}
use lib.ListN.{length-map}
use Rattle.h263_types.specs.declared.blocks.MarkedMb.{MarkedMb}
use Rattle.packet_cutter.specs.Taken.{unmarked}

pub length-unmarked : (mbs : List MarkedMb) → length (unmarked mbs) ≡ length mbs
length-unmarked mbs = length-map mbs (λ m. m.mb)

pub first_unmarked : (n : ℕ) (mbs : List MarkedMb) → unmarked (take n mbs) ≡ take n (unmarked mbs)
first_unmarked zero mbs = refl
first_unmarked (suc n) [] = refl
first_unmarked (suc n) (m ∷ mbs) = ap (λ l. m.mb ∷ l) (first_unmarked n mbs)
