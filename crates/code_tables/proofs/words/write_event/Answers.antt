use Rattle.std.proofs.Common.{◌≡◌, Bool, List, length, subst, sym, ap, ◌∙◌, arith}
use Rattle.h263_bits.specs.Written.{Appends}
use Rattle.h263_bits.proofs.SyntaxLaws.{length-spelled}
use Rattle.code_tables.specs.Tables.{event_text}
use Rattle.code_tables.specs.Events.{coefficient_of}
use Rattle.code_tables.proofs.words.write_event.Goals as goal

pub put-requires-clause-room : goal.put-requires-clause-room
put-requires-clause-room c =
    let long : c.event_number-number.result.1 ≡ length (event_text (coefficient_of c.args.event.now)) =
    sym (length-spelled _ _) ∙ ap length c.event_number-number.ensures.text in
    omega (arith, c.requires.room, long)

pub returns-clause-bits : goal.returns-clause-bits
returns-clause-bits c = subst (λ (t : List Bool). Appends c.args.writer.now c.put.new.self t)
    c.event_number-number.ensures.text c.put.ensures.bits

pub returns-clause-len : goal.returns-clause-len
returns-clause-len c =
    let long : c.event_number-number.result.1 ≡ length (event_text (coefficient_of c.args.event.now)) =
    sym (length-spelled _ _) ∙ ap length c.event_number-number.ensures.text in
    omega (arith, c.put.ensures.len, long)
