use Rattle.std.proofs.Common.{◌≡◌, ◌++◌, ℕ, Bool, List, Result, rules}
use Rattle.std.specs.Prelude.{IfOk, IsOkAnd}
use Rattle.h263_bits.specs.declared.fault.Fault.{Fault}
use Rattle.h263_bits.specs.Reading.{Bits, Gives, Takes, first_fault}
use Rattle.h263_bits.specs.Syntax.{reading, IsProductive}
use Rattle.h263_bits.proofs.SyntaxLaws.{reads_texts, texts_read, reads_within, reads_fault}
use Rattle.h263_types.specs.declared.Kind.{Kind}
use Rattle.h263_types.specs.declared.vector.Reach.{Reach}
use Rattle.h263_types.specs.declared.vector.Vector.{Vector}
use Rattle.h263_types.specs.declared.blocks.Mb.{Mb}
use Rattle.h263_types.specs.Blocks.{IsMb, IsOfKind, IsQuant}
use Rattle.block_layer.specs.Laws.{BlockLaws}
use Rattle.macroblock_layer.specs.Text.{mb, IsMbText, macroblock_fault}
use Rattle.macroblock_layer.proofs.Within.{mb_within}
use Rattle.macroblock_layer.proofs.reading.read_mb.Goals as goal

-- what is said of each return
every : BlockLaws → (kind : Kind) (quant : ℕ) (reach : Reach) (predictor : Vector) (r : Result (Unit {0}) Fault)
    (out : Mb) (old new : Bits)
    → IsProductive (mb kind quant reach predictor)
    → Gives (λ u. out) r new (reading (mb kind quant reach predictor) old) → record {
      found : IfOk r (λ u. Takes old new (IsMbText kind quant reach predictor out));
      only : (m : Mb) (text rest : List Bool) → IsMbText kind quant reach predictor m text → old.bits ≡ text ++ rest
          → IsOkAnd r (λ u. (out ≡ m) × (new.bits ≡ rest));
      fault : first_fault r ≡ macroblock_fault kind quant reach predictor old;
      exact : Gives (λ u. out) r new (reading (mb kind quant reach predictor) old);
      range : IsQuant quant → IfOk r (λ u. IsMb out × IsOfKind kind out);
    }
every laws kind quant reach predictor r out old new productive e =
    let s = mb kind quant reach predictor in
    record {
      found = reads_texts (λ u. out) s r old new e;
      only = texts_read (λ u. out) s r old new productive e;
      fault = reads_fault (λ u. out) r new (reading s old) e;
      exact = e;
      range = λ is. reads_within (λ u. out) s r old new (λ (m : Mb). IsMb m × IsOfKind kind m) e
          (mb_within laws kind quant reach predictor is);
    }

pub returns-in_err-lead : goal.returns-in_err-lead
unfolding mb reading
returns-in_err-lead c =
    let a = c.args in
    every c.in_a_syntax.ensures a.kind a.quant a.reach a.predictor c.from_residual.result a.out.now a.reader.now
    c.read_lead.new.reader (c.in_a_syntax-2.ensures.productive a.kind a.quant a.reach a.predictor) (search rules)

pub returns : goal.returns
unfolding mb reading
returns c =
    let a = c.args in
    every c.in_a_syntax.ensures a.kind a.quant a.reach a.predictor c.read_after_lead.result c.read_after_lead.new.out
    a.reader.now c.read_after_lead.new.reader
    (c.in_a_syntax-2.ensures.productive a.kind a.quant a.reach a.predictor) (search rules)
