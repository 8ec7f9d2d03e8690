use Rattle.std.proofs.Common.{◌∙◌, ℕ, true, Option, ap, sym, refl, arith}
use Rattle.std.specs.Option.{option_map_or}
use Rattle.call_model.specs.CodedPictures.{is_among}
use Rattle.call_model.specs.Sending.{nearest_below}
use Rattle.call_decoding.specs.Rules.{rules_of}
use Rattle.call_encoding.specs.Messages.{read_message}
use Rattle.stream_audit.specs.Stream.{known_of, pictures_in}
use Rattle.stream_audit.proofs.Keeping.{near_named, referred}
use Rattle.stream_audit.proofs.kept.Kept.has_reference.Goals as goal

pub returns : goal.returns
returns c = λ items keeps.
    let k = c.args.self.now in
    let rest = c.in-Some.rest in
    let m = c.in-Some-nearest_below.m in
    let near = c.if-self-m.false in
    let below = c.in-Some-nearest_below.ensures.below in
    let room = c.requires.params.lead in
    c.knows.ensures (rules_of k.params) k.pictures (λ (i : ℕ). 0)
    (is_among (known_of (read_message k.params.clock) (rules_of k.params) items)) below (omega (arith, near, room))
    keeps.known
    ∙ sym (near_named k items keeps rest m (sym (c.in-Some-nearest_below.ensures.value (rules_of k.params) refl)) near)
    ∙ ap (λ (o : Option ℕ). option_map_or (λ rest. referred (rules_of k.params) (known_of (read_message k.params.clock)
    (rules_of k.params) items) (pictures_in items) (nearest_below (rules_of k.params) (pictures_in items) rest)) o
    true) (sym c.in-Some.is)
