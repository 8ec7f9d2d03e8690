use Rattle.std.proofs.Common.{◌/◌, get_or, arith}
use Rattle.code_tables.specs.Words.{code_at}
use Rattle.code_tables.proofs.Search.{starts_there, starts_more}
use Rattle.code_tables.proofs.code.named_place.Goals as goal

pub returns-then-place-codes-clause-begins : goal.returns-then-place-codes-clause-begins
returns-then-place-codes-clause-begins c =
    let place = get_or c.args.fast.now (c.args.seen / 16) 0 in
    starts_more (code_at c.args.codes.now place) c.args.seen 8 4
    (starts_there c.args.codes.now 8 (c.args.seen / 16) c.args.fast.now c.requires.fast
    (omega (arith, c.requires.seen, c.requires.prefixes)) c.if-place-codes.true)

pub returns-then-place-codes-2-clause-begins : goal.returns-then-place-codes-2-clause-begins
returns-then-place-codes-2-clause-begins c = starts_there c.args.codes.now 12 c.args.seen c.args.long.now
    c.requires.long c.if-seen-long.true c.if-place-codes-2.true
