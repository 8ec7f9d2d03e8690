use Rattle.std.proofs.Common.{arith}
use Rattle.code_tables.specs.declared.code.Code.{Code}
use Rattle.code_tables.specs.Words.{code_at}
use Rattle.code_tables.proofs.SignedTexts.{signed_word, signed_fits, code_fits}
use Rattle.code_tables.proofs.code.signed_number.Goals as goal

-- a code that stands for none
abbrev none : Code
none = record { bits = 0; len = 0 }

pub returns-clause-text : goal.returns-clause-text
returns-clause-text c =
    let code = code_at c.args.codes.now c.args.place in
    signed_word code.len code.bits c.args.minus

pub returns-clause-fits : goal.returns-clause-fits
returns-clause-fits c =
    let code = code_at c.args.codes.now c.args.place in
    signed_fits code.len code.bits c.args.minus (code_fits c.args.codes.now c.args.place none c.requires.codes
    c.requires.there).1

pub returns-clause-few : goal.returns-clause-few
returns-clause-few c = omega (arith, (code_fits c.args.codes.now c.args.place none c.requires.codes c.requires.there).0)
