use mir.Val.{SFits}
use Rattle.std.proofs.lemmas.Int.{to_z-of_z, ints}
use Rattle.std.proofs.Common.{w8, arith, ◌≡◌, ◌+◌, ◌≤◌, Bool, List, length, subst, sym}
use Rattle.h263_bits.specs.Written.{Appends, len_of, room_of}
use Rattle.code_tables.specs.declared.tables.TheConstants.{STEPS}
use Rattle.code_tables.specs.Words.{code_at, word_of}
use Rattle.code_tables.specs.Mcbpc.{dquant_text}
use Rattle.code_tables.proofs.Texts.{step_text}
use Rattle.code_tables.proofs.macroblock.write_dquant.Goals as goal

pub write_code-requires-clause-room : goal.write_code-requires-clause-room
write_code-requires-clause-room c =
    let fits : SFits w8 c.args.step = omega (arith, ints) in
    let same : word_of (code_at STEPS c.step_place.result) ≡ dquant_text c.args.step = rw (
      c.step_place.ensures,
      to_z-of_z w8 c.args.step fits,
    ) (step_text c.args.step c.requires.step) in
    subst (λ (t : List Bool). len_of c.args.writer.now + length t ≤ room_of c.args.writer.now)
    (sym same) c.requires.room

pub returns-clause-bits : goal.returns-clause-bits
returns-clause-bits c =
    let fits : SFits w8 c.args.step = omega (arith, ints) in
    let same : word_of (code_at STEPS c.step_place.result) ≡ dquant_text c.args.step = rw (
      c.step_place.ensures,
      to_z-of_z w8 c.args.step fits,
    ) (step_text c.args.step c.requires.step) in
    subst (λ (t : List Bool). Appends c.args.writer.now c.write_code.new.writer t) same c.write_code.ensures.bits

pub returns-clause-len : goal.returns-clause-len
returns-clause-len c =
    let fits : SFits w8 c.args.step = omega (arith, ints) in
    let same : word_of (code_at STEPS c.step_place.result) ≡ dquant_text c.args.step = rw (
      c.step_place.ensures,
      to_z-of_z w8 c.args.step fits,
    ) (step_text c.args.step c.requires.step) in
    subst (λ (t : List Bool). len_of c.write_code.new.writer ≡ len_of c.args.writer.now + length t) same
    c.write_code.ensures.len
