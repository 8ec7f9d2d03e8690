-- A macroblock that isn't coded is read by one bit, whatever is in force where it stands.
use Rattle.std.proofs.Common.{◌≡◌, ◌<◌, ℕ, Bool, true, false, eqb, List, [], ◌∷◌, length, take, Ok, refl, arith}
use Rattle.std.proofs.lemmas.Bool.{le-ltb}
use Rattle.h263_types.specs.declared.Kind.{Kind}
use Rattle.h263_types.specs.declared.Kind.TheVariants as kinds
use Rattle.h263_types.specs.declared.vector.Vector.{Vector}
use Rattle.h263_types.specs.declared.vector.Reach.{Reach}
use Rattle.h263_types.specs.declared.blocks.Mb.TheVariants.{Skip}
use Rattle.h263_bits.specs.Bits.{number}
use Rattle.h263_bits.specs.Reading.{Bits, skip, number_at}
use Rattle.h263_bits.specs.Syntax.{finally, reading}
use Rattle.h263_bits.proofs.SyntaxLaws.{repeat-finally}
use Rattle.macroblock_layer.specs.declared.reading.Lead.TheVariants.{Skipped}
use Rattle.macroblock_layer.specs.Text.{begins_skipped, lead_turn, lead, after_lead, mb}

-- the first bit, by its number
pub first_skipped : (bits : List Bool) → 0 < length bits → eqb (number (take 1 bits)) 1 ≡ begins_skipped kinds.P bits
unfolding number
first_skipped [] some = absurd (omega arith)
first_skipped (true ∷ bits) some = refl
first_skipped (false ∷ bits) some = refl

one_bit : (at : ℕ) (rest : List Bool) → reading (lead_turn kinds.P tt) (record { at = at; bits = true ∷ rest })
    ≡ Ok (finally Skipped, skip 1 (record { at = at; bits = true ∷ rest }))
unfolding reading lead_turn number_at number
one_bit at rest = rw (le-ltb (length (true ∷ rest)) 1 (omega arith)) refl

lead_skipped : (at : ℕ) (rest : List Bool) → reading (lead kinds.P) (record { at = at; bits = true ∷ rest })
    ≡ Ok (Skipped, skip 1 (record { at = at; bits = true ∷ rest }))
unfolding lead
lead_skipped at rest = repeat-finally tt Skipped (lead_turn kinds.P) _ _ (one_bit at rest)

read_skipped : (quant : ℕ) (reach : Reach) (predictor : Vector) (at : ℕ) (rest : List Bool)
    → reading (mb kinds.P quant reach predictor) (record { at = at; bits = true ∷ rest })
    ≡ Ok (Skip, skip 1 (record { at = at; bits = true ∷ rest }))
unfolding reading mb after_lead
read_skipped quant reach predictor at rest = rw (lead_skipped at rest) refl

pub skipped_is_read : (kind : Kind) (quant : ℕ) (reach : Reach) (predictor : Vector) (b : Bits)
    → begins_skipped kind b.bits
    ≡ true → reading (mb kind quant reach predictor) b ≡ Ok (Skip, skip 1 b)
skipped_is_read kind quant reach predictor b e = each kind b.at b.bits e
  where
    each : (kind : Kind) (at : ℕ) (bits : List Bool) → begins_skipped kind bits ≡ true
        → reading (mb kind quant reach predictor) (record { at = at; bits = bits })
        ≡ Ok (Skip, skip 1 (record { at = at; bits = bits }))
    each kinds.I at bits e = absurd cc
    each kinds.P at [] e = absurd cc
    each kinds.P at (true ∷ rest) e = read_skipped quant reach predictor at rest
    each kinds.P at (false ∷ rest) e = absurd cc
