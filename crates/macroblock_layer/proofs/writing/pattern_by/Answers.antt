use Rattle.std.proofs.Common.{◌≡◌, ◌+◌, ◌*◌, Bool, refl, ◌∙◌, arith}
use Rattle.code_tables.specs.Tables.{bit_of}
use Rattle.macroblock_layer.specs.Written.{levels_at}
use Rattle.macroblock_layer.proofs.writing.pattern_by.Goals as goal

four_bits : (a b c d s t u v : Bool) → a ≡ s → b ≡ t → c ≡ u → d ≡ v
    → 8 * bit_of a + 4 * bit_of b + 2 * bit_of c + bit_of d ≡ 8 * bit_of s + 4 * bit_of t + 2 * bit_of u + bit_of v
four_bits a b c d s t u v p q r o = rw (p, q, r, o) refl

two_bits : (a b s t : Bool) → a ≡ s → b ≡ t → 2 * bit_of a + bit_of b ≡ 2 * bit_of s + bit_of t
two_bits a b s t p q = rw (p, q) refl

pub returns-clause-cbpy : goal.returns-clause-cbpy
returns-clause-cbpy c blocks marks =
    c.cbpy.ensures.value ∙ four_bits _ _ _ _ _ _ _ _
    (c.is_coded_by-a.ensures (levels_at blocks 0) (marks 0 (omega arith)))
    (c.is_coded_by-b.ensures (levels_at blocks 1) (marks 1 (omega arith)))
    (c.is_coded_by-c.ensures (levels_at blocks 2) (marks 2 (omega arith)))
    (c.is_coded_by-d.ensures (levels_at blocks 3) (marks 3 (omega arith)))

pub returns-clause-cbpc : goal.returns-clause-cbpc
returns-clause-cbpc c blocks marks =
    c.cbpc.ensures.value ∙ two_bits _ _ _ _
    (c.is_coded_by-e.ensures (levels_at blocks 4) (marks 4 (omega arith)))
    (c.is_coded_by-f.ensures (levels_at blocks 5) (marks 5 (omega arith)))
