use Rattle.std.proofs.Common.{◌≡◌, length, arith}
use Rattle.h263_bits.proofs.SyntaxLaws.{length-spelled}
use Rattle.code_tables.specs.Words.{code_at, word_of}
use Rattle.code_tables.proofs.code.write_code.Goals as goal

pub put-requires-clause-room : goal.put-requires-clause-room
put-requires-clause-room c =
    let many : length (word_of (code_at c.args.codes.now c.args.place)) ≡ (code_at c.args.codes.now c.args.place).len =
    length-spelled _ _ in
    omega (arith, c.requires.room)

pub returns-clause-len : goal.returns-clause-len
returns-clause-len c =
    let many : length (word_of (code_at c.args.codes.now c.args.place)) ≡ (code_at c.args.codes.now c.args.place).len =
    length-spelled _ _ in
    omega (arith, c.put.ensures.len)
