use Rattle.std.proofs.Common.{◌≡◌, ◌∷◌, [], ℕ, ap, ◌∙◌, w8}
use Rattle.std.proofs.lemmas.Int.{to_z-of_z}
use Rattle.h263_bits.specs.Bits.{fields}
use Rattle.code_tables.specs.Tables.{byte_of, bit_of}
use Rattle.code_tables.specs.Events.{coefficient_of}
use Rattle.code_tables.proofs.Rows.{level_fits}
use Rattle.code_tables.proofs.SignedTexts.{escape_is, escape_fits}
use Rattle.code_tables.proofs.words.escape_number.Goals as goal

pub returns-clause-text : goal.returns-clause-text
returns-clause-text c =
    let e = coefficient_of c.args.event.now in
    let byte : c.level_byte.result ≡ byte_of e.level = c.level_byte.ensures.byte
    ∙ ap byte_of (to_z-of_z w8 e.level (level_fits e.level c.requires.level)) in
    escape_is e.last e.run c.level_byte.result c.requires.run c.level_byte.ensures.below
    ∙ ap (λ (n : ℕ). fields ((7, 3) ∷ (1, bit_of e.last) ∷ (6, e.run) ∷ (8, n) ∷ [])) byte

pub returns-clause-fits : goal.returns-clause-fits
returns-clause-fits c =
    let e = coefficient_of c.args.event.now in
    escape_fits e.last e.run c.level_byte.result c.requires.run c.level_byte.ensures.below
