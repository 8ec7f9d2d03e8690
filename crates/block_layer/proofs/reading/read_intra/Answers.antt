use Rattle.std.proofs.Common.{◌≡◌, ◌++◌, Bool, List, Result, Ok, rules}
use Rattle.std.specs.Prelude.{ℤ, IfOk, IsOkAnd}
use Rattle.h263_bits.specs.declared.fault.Fault.{Fault}
use Rattle.h263_bits.specs.Reading.{Bits, Gives, Takes, first_fault}
use Rattle.h263_bits.specs.Syntax.{reading}
use Rattle.h263_bits.proofs.SyntaxLaws.{reads_texts, texts_read, reads_within, reads_fault}
use Rattle.h263_types.specs.Blocks.{IsIntraBlock}
use Rattle.code_tables.specs.Laws.{TableLaws}
use Rattle.block_layer.specs.Text.{intra_block, intra_block_fault, IsIntraText}
use Rattle.block_layer.proofs.Productive.{intra_productive}
use Rattle.block_layer.proofs.Ranges.{intra_within}
use Rattle.block_layer.proofs.reading.read_intra.Goals as goal

-- what is said of each return
every : TableLaws → (coded : Bool) (r : Result (Unit {0}) Fault) (out : List ℤ) (old new : Bits)
    → Gives (λ u. out) r new (reading (intra_block coded) old) → record {
      found : IfOk r (λ u. Takes old new (IsIntraText coded out));
      only : (levels : List ℤ) (text rest : List Bool) → IsIntraText coded levels text → old.bits ≡ text ++ rest
          → IsOkAnd r (λ u. (out ≡ levels) × (new.bits ≡ rest));
      fault : first_fault r ≡ intra_block_fault coded old;
      exact : Gives (λ u. out) r new (reading (intra_block coded) old);
      range : IfOk r (λ u. IsIntraBlock (record { levels = out }));
    }
every laws coded r out old new e =
    let s = intra_block coded in
    record {
      found = reads_texts (λ u. out) s r old new e;
      only = texts_read (λ u. out) s r old new (intra_productive laws coded) e;
      fault = reads_fault (λ u. out) r new (reading s old) e;
      exact = e;
      range = reads_within (λ u. out) s r old new (λ (levels : List ℤ). IsIntraBlock (record { levels = levels })) e
          (intra_within coded);
    }

pub returns-in_err-read_dc : goal.returns-in_err-read_dc
unfolding intra_block reading
returns-in_err-read_dc c = every c.in_a_syntax.ensures c.args.coded c.from_residual.result c.read_dc.new.levels
    c.args.reader.now c.read_dc.new.reader (search rules)

pub returns-then-not-coded : goal.returns-then-not-coded
unfolding intra_block reading
returns-then-not-coded c = every c.in_a_syntax.ensures c.args.coded (Ok tt) c.read_dc.new.levels c.args.reader.now
    c.read_dc.new.reader (search rules)

pub returns : goal.returns
unfolding intra_block reading
returns c = every c.in_a_syntax.ensures c.args.coded c.read_events.result c.read_events.new.levels c.args.reader.now
    c.read_events.new.reader (search rules)
