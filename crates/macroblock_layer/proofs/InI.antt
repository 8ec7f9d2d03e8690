-- A macroblock of an I picture has no vector: its reach and its predictor are never asked for.
use Rattle.std.proofs.Common.{◌≡◌, ℕ, Result, Ok, Err, refl}
use Rattle.h263_types.specs.declared.Kind.TheVariants as kinds
use Rattle.h263_types.specs.declared.vector.Vector.{Vector}
use Rattle.h263_types.specs.declared.vector.Reach.{Reach}
use Rattle.h263_bits.specs.declared.fault.Fault.{Fault}
use Rattle.h263_bits.specs.Reading.{Bits}
use Rattle.h263_bits.specs.Syntax.{reading}
use Rattle.h263_bits.proofs.SyntaxLaws.{reads_within}
use Rattle.code_tables.specs.declared.macroblock.MbClass.TheVariants as classes
use Rattle.macroblock_layer.specs.declared.reading.Lead.{Lead}
use Rattle.macroblock_layer.specs.declared.reading.Lead.TheVariants.{Skipped, Coded}
use Rattle.macroblock_layer.specs.Text.{lead, coded_mb, after_lead, mb}
use Rattle.macroblock_layer.proofs.Within.{LeadOfKind, lead_within}

after_same : (quant : ℕ) (r s : Reach) (p q : Vector) (l : Lead) (b : Bits) → LeadOfKind kinds.I l
    → reading (after_lead quant r p l) b ≡ reading (after_lead quant s q l) b
unfolding reading LeadOfKind after_lead coded_mb
after_same quant r s p q Skipped b is = absurd is
after_same quant r s p q (Coded classes.Intra cbpc) b is = refl
after_same quant r s p q (Coded classes.IntraQ cbpc) b is = refl
after_same quant r s p q (Coded classes.Inter cbpc) b is = absurd cc
after_same quant r s p q (Coded classes.InterQ cbpc) b is = absurd cc
after_same quant r s p q (Coded classes.Inter4 cbpc) b is = absurd cc

pub same_in_i : (quant : ℕ) (r s : Reach) (p q : Vector) (b : Bits) → reading (mb kinds.I quant r p) b
    ≡ reading (mb kinds.I quant s q) b
unfolding reading mb
same_in_i quant r s p q b = at (reading (lead kinds.I) b) refl
  where
    at : (x : Result (Lead × Bits) Fault) → reading (lead kinds.I) b ≡ x → reading (mb kinds.I quant r p) b
        ≡ reading (mb kinds.I quant s q) b
    at (Err e) is = rw is refl
    at (Ok x) is = rw is (after_same quant r s p q x.0 x.1 (reads_within (λ (l : Lead). l) (lead kinds.I) (Ok x.0) b x.1
        (λ (l : Lead). LeadOfKind kinds.I l) is (lead_within kinds.I)))
