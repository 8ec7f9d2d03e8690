use Rattle.std.proofs.Common.{arith}
use Rattle.code_tables.specs.declared.code.Code.{Code}
use Rattle.code_tables.proofs.SignedTexts.{code_fits}
use Rattle.code_tables.proofs.code.code_number.Goals as goal

-- a code that stands for none
abbrev none : Code
none = record { bits = 0; len = 0 }

pub returns-clause-fits : goal.returns-clause-fits
returns-clause-fits c = (code_fits c.args.codes.now c.args.place none c.requires.codes c.requires.there).1

pub returns-clause-few : goal.returns-clause-few
returns-clause-few c = omega (arith, (code_fits c.args.codes.now c.args.place none c.requires.codes c.requires.there).0)
