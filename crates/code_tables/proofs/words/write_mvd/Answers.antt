-- The word of a difference's size, and its sign unless that is 0, spell the difference.
use Rattle.std.proofs.Common.{◌≡◌, ◌<◌, ◌+◌, ◌≤◌, ◌++◌, ◌∷◌, [], Bool, List, length, length-append, subst, sym, ap, ◌∙◌, w8, arith}
use Rattle.std.specs.Prelude.{ℤ, pos, int_lt}
use Rattle.std.proofs.lemmas.Int.{to_z-of_z}
use Rattle.h263_bits.specs.Written.{Appends, len_of, room_of}
use Rattle.code_tables.specs.declared.tables.TheConstants.{MAGNITUDES}
use Rattle.code_tables.specs.Words.{code_at, word_of}
use Rattle.code_tables.specs.Tables.{size_of, mvd_text}
use Rattle.code_tables.proofs.SignedTexts.{no_difference, signed_difference, size_below}
use Rattle.code_tables.proofs.words.write_mvd.Goals as goal

pub write_code-requires-clause-room : goal.write_code-requires-clause-room
write_code-requires-clause-room c =
    let v = c.args.value in
    let none : c.size-size.result ≡ 0 = omega (arith, c.if-size-eq0.true) in
    let text = no_difference v c.size-size.result (c.size-size.ensures
    ∙ ap size_of (to_z-of_z w8 v c.ranges.value)) none in
    subst (λ (t : List Bool). len_of c.args.writer.now + length t ≤ room_of c.args.writer.now)
    (sym text) c.requires.room

pub write_signed_code-requires-clause-room : goal.write_signed_code-requires-clause-room
write_signed_code-requires-clause-room c =
    let v = c.args.value in
    let n = c.size-size.result in
    let same : n ≡ size_of v = c.size-size.ensures ∙ ap size_of (to_z-of_z w8 v c.ranges.value) in
    let some : 0 < n = omega (arith, c.if-size-eq0.false) in
    let text = signed_difference v n same some (omega (arith, same, size_below v c.requires.low c.requires.high)) in
    let long : length (mvd_text v) ≡ length (word_of (code_at MAGNITUDES n)) + 1 = ap length (sym text)
    ∙ length-append _ _ in
    omega (arith, c.requires.room, long)

pub returns-then-size-eq0-clause-bits : goal.returns-then-size-eq0-clause-bits
returns-then-size-eq0-clause-bits c =
    let v = c.args.value in
    let none : c.size-size.result ≡ 0 = omega (arith, c.if-size-eq0.true) in
    let text = no_difference v c.size-size.result (c.size-size.ensures
    ∙ ap size_of (to_z-of_z w8 v c.ranges.value)) none in
    subst (λ (t : List Bool). Appends c.args.writer.now c.write_code.new.writer t) text c.write_code.ensures.bits

pub returns-then-size-eq0-clause-len : goal.returns-then-size-eq0-clause-len
returns-then-size-eq0-clause-len c =
    let v = c.args.value in
    let none : c.size-size.result ≡ 0 = omega (arith, c.if-size-eq0.true) in
    let text = no_difference v c.size-size.result (c.size-size.ensures
    ∙ ap size_of (to_z-of_z w8 v c.ranges.value)) none in
    subst (λ (t : List Bool). len_of c.write_code.new.writer ≡ len_of c.args.writer.now + length t) text
    c.write_code.ensures.len

pub returns-else-size-eq0-clause-bits : goal.returns-else-size-eq0-clause-bits
returns-else-size-eq0-clause-bits c =
    let v = c.args.value in
    let n = c.size-size.result in
    let back = to_z-of_z w8 v c.ranges.value in
    let same : n ≡ size_of v = c.size-size.ensures ∙ ap size_of back in
    let some : 0 < n = omega (arith, c.if-size-eq0.false) in
    let text = signed_difference v n same some (omega (arith, same, size_below v c.requires.low c.requires.high)) in
    let bits : Appends c.args.writer.now c.write_signed_code.new.writer (word_of (code_at MAGNITUDES n)
    ++ int_lt v (pos 0) ∷ []) =
    subst (λ (z : ℤ). Appends c.args.writer.now c.write_signed_code.new.writer (word_of (code_at MAGNITUDES n)
    ++ int_lt z (pos 0) ∷ [])) back c.write_signed_code.ensures.bits in
    subst (λ (t : List Bool). Appends c.args.writer.now c.write_signed_code.new.writer t) text bits

pub returns-else-size-eq0-clause-len : goal.returns-else-size-eq0-clause-len
returns-else-size-eq0-clause-len c =
    let v = c.args.value in
    let n = c.size-size.result in
    let same : n ≡ size_of v = c.size-size.ensures ∙ ap size_of (to_z-of_z w8 v c.ranges.value) in
    let some : 0 < n = omega (arith, c.if-size-eq0.false) in
    let text = signed_difference v n same some (omega (arith, same, size_below v c.requires.low c.requires.high)) in
    let long : length (mvd_text v) ≡ length (word_of (code_at MAGNITUDES n)) + 1 = ap length (sym text)
    ∙ length-append _ _ in
    omega (arith, c.write_signed_code.ensures.len, long)
