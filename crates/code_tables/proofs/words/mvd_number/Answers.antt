use Rattle.std.proofs.Common.{◌≡◌, ◌<◌, ◌++◌, ◌∷◌, [], subst, ap, ◌∙◌, w8, arith}
use Rattle.std.specs.Prelude.{ℤ, pos, int_lt}
use Rattle.std.proofs.lemmas.Int.{to_z-of_z}
use Rattle.h263_bits.specs.Bits.{spelled}
use Rattle.code_tables.specs.declared.tables.TheConstants.{MAGNITUDES}
use Rattle.code_tables.specs.Words.{code_at, word_of}
use Rattle.code_tables.specs.Tables.{size_of}
use Rattle.code_tables.proofs.SignedTexts.{no_difference, signed_difference, size_below}
use Rattle.code_tables.proofs.words.mvd_number.Goals as goal

pub returns-then-size-eq0-clause-text : goal.returns-then-size-eq0-clause-text
returns-then-size-eq0-clause-text c =
    let v = c.args.value in
    let none : c.size-size.result ≡ 0 = omega (arith, c.if-size-eq0.true) in
    c.code_number.ensures.text ∙ no_difference v c.size-size.result (c.size-size.ensures
    ∙ ap size_of (to_z-of_z w8 v c.ranges.value)) none

pub returns-else-size-eq0-clause-text : goal.returns-else-size-eq0-clause-text
returns-else-size-eq0-clause-text c =
    let v = c.args.value in
    let n = c.size-size.result in
    let back = to_z-of_z w8 v c.ranges.value in
    let same : n ≡ size_of v = c.size-size.ensures ∙ ap size_of back in
    let some : 0 < n = omega (arith, c.if-size-eq0.false) in
    let text = signed_difference v n same some (omega (arith, same, size_below v c.requires.low c.requires.high)) in
    let r = c.signed_number.result in
    subst (λ (z : ℤ). spelled r.1 r.0 ≡ word_of (code_at MAGNITUDES n)
    ++ int_lt z (pos 0) ∷ []) back c.signed_number.ensures.text ∙ text
