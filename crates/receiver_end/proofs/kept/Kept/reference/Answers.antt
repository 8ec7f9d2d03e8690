use Rattle.std.proofs.Common.{ℕ, Option, refl, ap, sym, ◌∙◌}
use Rattle.std.specs.Prelude.{option_and_then}
use Rattle.std.specs.Option.{option_map}
use Rattle.picture_header.specs.declared.header.Header.{Header}
use Rattle.call_model.specs.Receiving.{header_reference}
use Rattle.call_decoding.specs.Rules.{rules_of}
use Rattle.call_decoding.specs.Styles.{call_header_of}
use Rattle.receiver_end.specs.Decoding.{decoding}
use Rattle.receiver_end.specs.declared.kept.Kept.{Kept}
use Rattle.receiver_end.proofs.kept.Kept.reference.Goals as goal

-- the reference that a header names, if there is one
abbrev named_in : Kept → Option Header → Option ℕ
named_in r o = option_and_then (header_reference (decoding r.params.format) (rules_of r.params) r.played)
    (option_map call_header_of o)

pub returns-in-None : goal.returns-in-None
returns-in-None c = ap (named_in c.args.self.now) (sym c.in-None.is ∙ c.header.ensures)

pub returns-in-Some : goal.returns-in-Some
returns-in-Some c = c.named.ensures c.args.self.now.params refl ∙ ap (named_in c.args.self.now) (sym c.in-Some.is
    ∙ c.header.ensures)
