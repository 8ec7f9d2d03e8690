use Rattle.std.proofs.Common.{◌≡◌, ◌++◌, Bool, List, Result, rules}
use Rattle.std.specs.Prelude.{IfOk, IfErr, IsOkAnd}
use Rattle.h263_bits.specs.declared.fault.Fault.{Fault}
use Rattle.h263_bits.specs.Reading.{Bits, Gives, Takes}
use Rattle.h263_bits.specs.Syntax.{reading, Spells}
use Rattle.h263_bits.specs.Elements.{IsWordOf, IsWordFault}
use Rattle.h263_types.specs.declared.Kind.{Kind}
use Rattle.code_tables.specs.declared.macroblock.Mcbpc.{Mcbpc}
use Rattle.code_tables.specs.Mcbpc.{mcbpc, mcbpc_table, mcbpc_words, IsInTable}
use Rattle.code_tables.proofs.Productive.{mcbpc_productive}
use Rattle.code_tables.proofs.FaultRows.{mcbpc_are}
use Rattle.code_tables.proofs.InRange.{mcbpc_within}
use Rattle.h263_bits.proofs.SyntaxLaws.{reads_texts, texts_read, reads_within, reads_err}
use Rattle.code_tables.proofs.macroblock.read_mcbpc.Goals as goal

-- what is said of each return
every : (kind : Kind) (r : Result Mcbpc Fault) (old new : Bits)
    → Gives (λ (m : Mcbpc). m) r new (reading (mcbpc kind) old) → record {
      found : IfOk r (λ m. Takes old new (Spells (mcbpc kind) m));
      only : (m : Mcbpc) (text rest : List Bool) → Spells (mcbpc kind) m text → old.bits ≡ text ++ rest
          → IsOkAnd r (λ found. (found ≡ m) × (new.bits ≡ rest));
      fault : IfErr r (λ d. (d.at ≡ old.at) × IsWordFault (λ w. IsWordOf (mcbpc_words kind) w) old.bits d.kind);
      exact : Gives (λ (m : Mcbpc). m) r new (reading (mcbpc kind) old);
      range : IfOk r (IsInTable kind);
    }
every kind r old new e =
    let view = λ (m : Mcbpc). m in
    let s = mcbpc kind in
    record {
      found = reads_texts view s r old new e;
      only = texts_read view s r old new (mcbpc_productive kind) e;
      fault = reads_err view s r old new (λ (d : Fault). (d.at ≡ old.at)
          × IsWordFault (λ w. IsWordOf (mcbpc_words kind) w) old.bits d.kind) e (λ d f. (mcbpc_are kind old d).0 f);
      exact = e;
      range = reads_within view s r old new (λ (m : Mcbpc). IsInTable kind m) e (mcbpc_within kind);
    }

pub returns-in-I : goal.returns-in-I
unfolding mcbpc mcbpc_table reading
returns-in-I c = every c.args.kind c.read_intra_mcbpc.result c.args.reader.now c.read_intra_mcbpc.new.reader
    (search rules)

pub returns-in-P : goal.returns-in-P
unfolding mcbpc mcbpc_table reading
returns-in-P c = every c.args.kind c.read_inter_mcbpc.result c.args.reader.now c.read_inter_mcbpc.new.reader
    (search rules)
