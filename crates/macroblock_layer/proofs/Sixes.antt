-- Six blocks that are read one after the other, each into its place.
use Rattle.std.proofs.Common.{◌≡◌, ℕ, ◌/◌, ◌%◌, ◌^◌, Bool, List, [], ◌∷◌, length, set, Ok, refl, sym, ap, subst, arith}
use Rattle.std.specs.Prelude.{◌==◌}
use Rattle.h263_bits.specs.Bits.{is_set}
use Rattle.h263_bits.specs.Reading.{Bits}
use Rattle.h263_bits.specs.Syntax.{Syntax, reading}
use Rattle.h263_types.specs.declared.blocks.Block.{Block}
use Rattle.macroblock_layer.specs.Text.{blocks}

-- all six places are written
pub six_set : (xs : List Block) (a b c d e f : Block) → length xs ≡ 6
    → set (set (set (set (set (set xs 0 a) 1 b) 2 c) 3 d) 4 e) 5 f ≡ a ∷ b ∷ c ∷ d ∷ e ∷ f ∷ []
six_set [] a b c d e f h = absurd (omega arith)
six_set (x0 ∷ []) a b c d e f h = absurd (omega arith)
six_set (x0 ∷ x1 ∷ []) a b c d e f h = absurd (omega arith)
six_set (x0 ∷ x1 ∷ x2 ∷ []) a b c d e f h = absurd (omega arith)
six_set (x0 ∷ x1 ∷ x2 ∷ x3 ∷ []) a b c d e f h = absurd (omega arith)
six_set (x0 ∷ x1 ∷ x2 ∷ x3 ∷ x4 ∷ []) a b c d e f h = absurd (omega arith)
six_set (x0 ∷ x1 ∷ x2 ∷ x3 ∷ x4 ∷ x5 ∷ []) a b c d e f h = refl
six_set (x0 ∷ x1 ∷ x2 ∷ x3 ∷ x4 ∷ x5 ∷ x6 ∷ xs) a b c d e f h = absurd (omega arith)

-- the last bit of a pattern
pub last_bit : (n : ℕ) → is_set n 0 ≡ (n % 2 == 1)
last_bit n = let e : n / 2 ^ 0 ≡ n = omega arith in ap (λ (k : ℕ). k % 2 == 1) e

-- what six readings give is what the reading of six blocks gives
pub six_read : (block : Bool → Syntax Block) (cbpy cbpc : ℕ) (xs : List Block) (r0 r1 r2 r3 r4 r5 r6 : Bits)
    (a b c d e f : Block) → length xs ≡ 6 →
    reading (block (is_set cbpy 3)) r0 ≡ Ok (a, r1) → reading (block (is_set cbpy 2)) r1 ≡ Ok (b, r2)
    → reading (block (is_set cbpy 1)) r2 ≡ Ok (c, r3) → reading (block (cbpy % 2 == 1)) r3 ≡ Ok (d, r4) →
    reading (block (is_set cbpc 1)) r4 ≡ Ok (e, r5) → reading (block (cbpc % 2 == 1)) r5 ≡ Ok (f, r6) →
    reading (blocks block cbpy cbpc) r0 ≡ Ok (set (set (set (set (set (set xs 0 a) 1 b) 2 c) 3 d) 4 e) 5 f, r6)
unfolding blocks reading
six_read block cbpy cbpc xs r0 r1 r2 r3 r4 r5 r6 a b c d e f long ha hb hc hd he hf =
    let hd' : reading (block (is_set cbpy 0)) r3 ≡ Ok (d, r4) = subst (λ (t : Bool). reading (block t) r3 ≡ Ok (d, r4))
    (sym (last_bit cbpy)) hd in
    let hf' : reading (block (is_set cbpc 0)) r5 ≡ Ok (f, r6) = subst (λ (t : Bool). reading (block t) r5 ≡ Ok (f, r6))
    (sym (last_bit cbpc)) hf in
    rw (ha, hb, hc, hd', he, hf', six_set xs a b c d e f long) refl
