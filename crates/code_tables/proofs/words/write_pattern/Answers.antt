use Rattle.std.proofs.Common.{◌≡◌, ◌+◌, ◌≤◌, Bool, List, length, subst, sym}
use Rattle.h263_bits.specs.Written.{Appends, len_of, room_of}
use Rattle.code_tables.proofs.Texts.{pattern_text}
use Rattle.code_tables.proofs.words.write_pattern.Goals as goal

pub write_code-requires-clause-room : goal.write_code-requires-clause-room
write_code-requires-clause-room c =
    subst (λ (t : List Bool). len_of c.args.writer.now + length t ≤ room_of c.args.writer.now)
    (sym (pattern_text c.args.pattern c.requires.pattern)) c.requires.room

pub returns-clause-bits : goal.returns-clause-bits
returns-clause-bits c = subst (λ (t : List Bool). Appends c.args.writer.now c.write_code.new.writer t)
    (pattern_text c.args.pattern c.requires.pattern) c.write_code.ensures.bits

pub returns-clause-len : goal.returns-clause-len
returns-clause-len c = subst (λ (t : List Bool). len_of c.write_code.new.writer ≡ len_of c.args.writer.now + length t)
    (pattern_text c.args.pattern c.requires.pattern) c.write_code.ensures.len
