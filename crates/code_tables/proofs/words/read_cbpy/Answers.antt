use Rattle.std.proofs.Common.{◌≡◌, ◌<◌, ◌++◌, ℕ, Bool, List, Result, Ok, rules}
use Rattle.std.specs.Prelude.{IfOk, IfErr, IsOkAnd}
use Rattle.h263_bits.specs.declared.fault.Fault.{Fault}
use Rattle.h263_bits.specs.Reading.{Bits, Gives, Takes}
use Rattle.h263_bits.specs.Syntax.{reading, Spells}
use Rattle.h263_bits.specs.Elements.{IsWordOf, IsWordFault}
use Rattle.code_tables.specs.Tables.{cbpy, cbpy_table, cbpy_words}
use Rattle.code_tables.proofs.Productive.{cbpy_productive}
use Rattle.code_tables.proofs.FaultRows.{cbpy_are}
use Rattle.code_tables.proofs.InRange.{cbpy_within}
use Rattle.h263_bits.proofs.SyntaxLaws.{reads_texts, texts_read, reads_within, reads_err}
use Rattle.code_tables.proofs.words.read_cbpy.Goals as goal

-- what is said of each return
every : (intra : Bool) (r : Result ℕ Fault) (old new : Bits) → Gives (λ (i : ℕ). i) r new (reading (cbpy intra) old)
    → record {
      found : IfOk r (λ pattern. Takes old new (Spells (cbpy intra) pattern));
      only : (pattern : ℕ) (text rest : List Bool) → Spells (cbpy intra) pattern text → old.bits ≡ text ++ rest
          → IsOkAnd r (λ found. (found ≡ pattern) × (new.bits ≡ rest));
      fault : IfErr r (λ d. (d.at ≡ old.at) × IsWordFault (λ w. IsWordOf cbpy_words w) old.bits d.kind);
      exact : Gives (λ (i : ℕ). i) r new (reading (cbpy intra) old);
      range : IfOk r (λ pattern. pattern < 16);
    }
every intra r old new e =
    let view = λ (i : ℕ). i in
    let s = cbpy intra in
    record {
      found = reads_texts view s r old new e;
      only = texts_read view s r old new (cbpy_productive intra) e;
      fault = reads_err view s r old new (λ (d : Fault). (d.at ≡ old.at)
          × IsWordFault (λ w. IsWordOf cbpy_words w) old.bits d.kind) e (λ d f. (cbpy_are intra old d).0 f);
      exact = e;
      range = reads_within view s r old new (λ (i : ℕ). i < 16) e (cbpy_within intra);
    }

pub returns-in_err-place : goal.returns-in_err-place
unfolding cbpy cbpy_table reading
returns-in_err-place c = every c.args.intra c.from_residual.result c.args.reader.now c.read_pattern.new.reader
    (search rules)

pub returns-then-intra : goal.returns-then-intra
unfolding cbpy cbpy_table reading
returns-then-intra c = every c.args.intra (Ok _) c.args.reader.now c.read_pattern.new.reader (search rules)

pub returns : goal.returns
unfolding cbpy cbpy_table reading
returns c = every c.args.intra (Ok _) c.args.reader.now c.read_pattern.new.reader (search rules)
