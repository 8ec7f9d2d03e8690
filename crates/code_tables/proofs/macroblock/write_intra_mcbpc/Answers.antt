use Rattle.std.proofs.Common.{◌≡◌, ◌+◌, ◌≤◌, Bool, List, length, subst, sym}
use Rattle.h263_bits.specs.Written.{Appends, len_of, room_of}
use Rattle.h263_types.specs.declared.Kind.TheVariants as kinds
use Rattle.code_tables.specs.declared.tables.TheConstants.{INTRA_MCBPC}
use Rattle.code_tables.specs.Words.{code_at, word_of}
use Rattle.code_tables.specs.Mcbpc.{mcbpc_text}
use Rattle.code_tables.proofs.Texts.{intra_text}
use Rattle.code_tables.proofs.macroblock.write_intra_mcbpc.Goals as goal

pub write_code-requires-clause-room : goal.write_code-requires-clause-room
write_code-requires-clause-room c =
    let same : word_of (code_at INTRA_MCBPC c.intra_place.result) ≡ mcbpc_text kinds.I c.args.word =
    rw c.intra_place.ensures (intra_text c.args.word c.requires.table) in
    subst (λ (t : List Bool). len_of c.args.writer.now + length t ≤ room_of c.args.writer.now)
    (sym same) c.requires.room

pub returns-clause-bits : goal.returns-clause-bits
returns-clause-bits c =
    let same : word_of (code_at INTRA_MCBPC c.intra_place.result) ≡ mcbpc_text kinds.I c.args.word =
    rw c.intra_place.ensures (intra_text c.args.word c.requires.table) in
    subst (λ (t : List Bool). Appends c.args.writer.now c.write_code.new.writer t) same c.write_code.ensures.bits

pub returns-clause-len : goal.returns-clause-len
returns-clause-len c =
    let same : word_of (code_at INTRA_MCBPC c.intra_place.result) ≡ mcbpc_text kinds.I c.args.word =
    rw c.intra_place.ensures (intra_text c.args.word c.requires.table) in
    subst (λ (t : List Bool). len_of c.write_code.new.writer ≡ len_of c.args.writer.now + length t) same
    c.write_code.ensures.len
