use Rattle.std.proofs.Common.{◌≡◌, Bool, List, length, subst, arith}
use Rattle.h263_bits.specs.Written.{Appends}
use Rattle.h263_bits.proofs.SyntaxLaws.{length-spelled}
use Rattle.code_tables.specs.declared.code.Code.{Code}
use Rattle.code_tables.specs.Words.{code_at, word_of}
use Rattle.code_tables.proofs.SignedTexts.{signed_word, signed_fits, code_fits}
use Rattle.code_tables.proofs.code.write_signed_code.Goals as goal

-- a code that stands for none
abbrev none : Code
none = record { bits = 0; len = 0 }

pub put-requires-clause-few : goal.put-requires-clause-few
put-requires-clause-few c = omega (
  arith,
  (code_fits c.args.codes.now c.args.place none c.requires.codes c.requires.there).0,
)

pub put-requires-clause-fits : goal.put-requires-clause-fits
put-requires-clause-fits c =
    let code = code_at c.args.codes.now c.args.place in
    signed_fits code.len code.bits c.args.minus (code_fits c.args.codes.now c.args.place none c.requires.codes
    c.requires.there).1

pub put-requires-clause-room : goal.put-requires-clause-room
put-requires-clause-room c =
    let many : length (word_of (code_at c.args.codes.now c.args.place)) ≡ (code_at c.args.codes.now c.args.place).len =
    length-spelled _ _ in
    omega (arith, c.requires.room)

pub returns-clause-bits : goal.returns-clause-bits
returns-clause-bits c =
    let code = code_at c.args.codes.now c.args.place in
    subst (λ (t : List Bool). Appends c.args.writer.now c.put.new.self t) (signed_word code.len code.bits c.args.minus)
    c.put.ensures.bits

pub returns-clause-len : goal.returns-clause-len
returns-clause-len c =
    let many : length (word_of (code_at c.args.codes.now c.args.place)) ≡ (code_at c.args.codes.now c.args.place).len =
    length-spelled _ _ in
    omega (arith, c.put.ensures.len)
