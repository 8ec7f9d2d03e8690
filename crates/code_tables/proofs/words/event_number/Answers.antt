use Rattle.std.proofs.Common.{◌≡◌, ◌∷◌, [], ◌++◌, subst, sym, ap, ◌∙◌, w8, None}
use Rattle.std.specs.Prelude.{ℤ, pos, int_lt}
use Rattle.std.proofs.lemmas.Int.{to_z-of_z}
use Rattle.h263_bits.specs.Bits.{fields, spelled}
use Rattle.code_tables.specs.declared.event_tables.TheConstants.{EVENTS}
use Rattle.code_tables.specs.Words.{code_at, word_of, place_in}
use Rattle.code_tables.specs.Starts.{starts_of}
use Rattle.code_tables.specs.Tables.{size_of, event_text, escape_fields}
use Rattle.code_tables.specs.Events.{coefficient_of}
use Rattle.code_tables.proofs.Rows.{triple_below, event_escape, level_fits}
use Rattle.code_tables.proofs.SignedTexts.{signed_event}
use Rattle.code_tables.proofs.words.event_number.Goals as goal

pub signed_number-requires-clause-there : goal.signed_number-requires-clause-there
signed_number-requires-clause-there c = triple_below c.args.event.now.last c.args.event.now.run c.size.result
    c.in-Some.place (sym c.in-Some.ensures)

pub returns-in-Some-clause-text : goal.returns-in-Some-clause-text
returns-in-Some-clause-text c =
    let e = coefficient_of c.args.event.now in
    let back = to_z-of_z w8 e.level (level_fits e.level c.requires.level) in
    let text = signed_event e c.size.result c.in-Some.place (c.size.ensures
    ∙ ap size_of back) c.requires.some (sym c.in-Some.ensures) in
    let word : spelled c.signed_number.result.1 c.signed_number.result.0 ≡ word_of (code_at EVENTS c.in-Some.place)
    ++ int_lt e.level (pos 0) ∷ [] =
    subst (λ (z : ℤ). spelled c.signed_number.result.1 c.signed_number.result.0
    ≡ word_of (code_at EVENTS c.in-Some.place) ++ int_lt z (pos 0) ∷ []) back c.signed_number.ensures.text in
    word ∙ text

pub returns-in-None-clause-text : goal.returns-in-None-clause-text
returns-in-None-clause-text c =
    let e = coefficient_of c.args.event.now in
    let back = to_z-of_z w8 e.level (level_fits e.level c.requires.level) in
    let size : c.size.result ≡ size_of e.level = c.size.ensures ∙ ap size_of back in
    let at : place_in (starts_of e.last) e.run c.size.result ≡ None = sym c.in-None.ensures in
    let text : fields (escape_fields e) ≡ event_text e = event_escape e c.size.result size c.requires.some at in
    c.escape_number.ensures.text ∙ text
