-- Bits that are all 0 spell 0, and no others do.
use Rattle.std.proofs.Common.{◌≡◌, ℕ, ◌<◌, ◌≤◌, ◌*◌, ◌+◌, ◌^◌, Bool, true, false, not, nat_eq, nat_lt, List, [], ◌∷◌, length, take, refl, arith}
use Rattle.std.specs.List.{list_all}
use Rattle.std.proofs.lemmas.Bool.{ne_eqb, lt-ltb, le-ltb}
use Rattle.std.proofs.lemmas.List.{take_all}
use Rattle.std.proofs.lemmas.Nat.{pow_pos}
use Rattle.h263_bits.specs.Bits.{number}
use Rattle.slice_layer.specs.Text.{is_padding}

zeros : (bits : List Bool) → nat_eq (number bits) 0 ≡ list_all not bits
unfolding number
zeros [] = refl
zeros (false ∷ bits) = let e : 0 * 2 ^ length bits + number bits ≡ number bits = omega arith in rw e (zeros bits)
zeros (true ∷ bits) = ne_eqb (1 * 2 ^ length bits + number bits) 0 (λ e. absurd (omega (arith, pow_pos (length bits))))

-- few bits that spell 0
pub few_zeros : (n : ℕ) (bits : List Bool) → n ≡ length bits → n < 8 → nat_eq (number (take n bits)) 0 ≡ is_padding bits
few_zeros n bits e lt =
    let few : nat_lt (length bits) 8 ≡ true = lt-ltb (length bits) 8 (omega arith) in
    let whole : take n bits ≡ bits = take_all n bits (omega arith) in
    rw (whole, few) (zeros bits)

pub many : (n : ℕ) (bits : List Bool) → n ≡ length bits → 8 ≤ n → false ≡ is_padding bits
many n bits e le =
    let some : nat_lt (length bits) 8 ≡ false = le-ltb (length bits) 8 (omega arith) in
    rw some refl
