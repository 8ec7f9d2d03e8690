use Rattle.std.proofs.Common.{◌≡◌, rules}
use Rattle.std.specs.Prelude.{ℤ}
use Rattle.h263_bits.specs.declared.fault.Fault.{Fault}
use Rattle.h263_bits.specs.Elements.{IsWordOf, IsWordFault}
use Rattle.h263_bits.specs.Syntax.{reading}
use Rattle.code_tables.specs.Mcbpc.{dquant, dquant_table, dquant_words, IsStep}
use Rattle.code_tables.proofs.Productive.{dquant_productive}
use Rattle.code_tables.proofs.FaultRows.{dquant_are}
use Rattle.code_tables.proofs.Steps.{only_ended}
use Rattle.code_tables.proofs.InRange.{dquant_within}
use Rattle.h263_bits.proofs.SyntaxLaws.{reads_texts, texts_read, reads_within, reads_err}
use Rattle.code_tables.proofs.macroblock.read_dquant.Goals as goal

pub returns-clause-exact : goal.returns-clause-exact
unfolding dquant dquant_table reading
returns-clause-exact c = search rules

pub returns-clause-found : goal.returns-clause-found
returns-clause-found c = reads_texts (λ (s : ℤ). s) (dquant) c.read_step.result c.args.reader.now c.read_step.new.reader
    (returns-clause-exact c)

pub returns-clause-only : goal.returns-clause-only
returns-clause-only c = texts_read (λ (s : ℤ). s) (dquant) c.read_step.result c.args.reader.now c.read_step.new.reader
    dquant_productive (returns-clause-exact c)

pub returns-clause-fault : goal.returns-clause-fault
returns-clause-fault c = reads_err (λ (s : ℤ). s) (dquant) c.read_step.result c.args.reader.now c.read_step.new.reader
    (λ (d : Fault). (d.at ≡ c.args.reader.now.at)
    × IsWordFault (λ w. IsWordOf dquant_words w) c.args.reader.now.bits d.kind) (returns-clause-exact c)
    (λ d e. (dquant_are c.args.reader.now d).0 e)

pub returns-clause-range : goal.returns-clause-range
returns-clause-range c = reads_within (λ (s : ℤ). s) dquant c.read_step.result c.args.reader.now c.read_step.new.reader
    (λ (s : ℤ). IsStep s) (returns-clause-exact c) dquant_within

pub returns-clause-ended : goal.returns-clause-ended
returns-clause-ended c = only_ended c.read_step.result c.args.reader.now c.read_step.new.reader c.read_step.ensures
