-- A slice of an open picture is judged by its header, its reference and what was taken before.
use Rattle.std.proofs.Common.{◌≡◌, None, is_some, refl, ap, sym, ◌∙◌, subst}
use Rattle.packet_collector.specs.declared.piece.Place.TheVariants as places
use Rattle.packet_collector.specs.Taken.{IsPlace}
use Rattle.call_model.specs.Stands.{judged}
use Rattle.call_decoding.specs.Rules.{rules_of}
use Rattle.receiver_end.specs.Answers.{IsHeard}
use Rattle.receiver_end.specs.Decoding.{decoding}
use Rattle.receiver_end.specs.State.{seen}
use Rattle.receiver_end.proofs.Judged.{other_header, missing, repeats, overlaps, is_fresh}
use Rattle.receiver_end.proofs.kept.Kept.judge_open.Goals.{in_default-None-via-in-Repeat+in-None, in_default-None-via-in-Overlap+in-None, in_default-None-via-in-Fresh+in-None}
use Rattle.receiver_end.proofs.kept.Kept.judge_open.Goals as goal

pub returns-in-HeaderDiffers-default-clause-answer : goal.returns-in-HeaderDiffers-default-clause-answer
returns-in-HeaderDiffers-default-clause-answer c p spells =
    let r = c.args.self.now in let ok = c.requires.fits in
    subst (IsHeard r.params.clock c.refused.result)
    (sym (other_header c.whole_header.ensures r c.args.number c.args.piece.now p ok c.requires.low c.requires.high
    c.requires.head spells
    (subst (IsPlace ok.taken c.args.number c.args.piece.now) c.in-HeaderDiffers-default.is-0
    (c.place-place.ensures.place r.played ok.taken ok.collects))))
    c.refused.ensures

pub returns-in-Repeat-Some-clause-answer : goal.returns-in-Repeat-Some-clause-answer
returns-in-Repeat-Some-clause-answer c p spells =
    let r = c.args.self.now in let ok = c.requires.fits in
    rw (repeats c.whole_header.ensures r c.args.number c.args.piece.now p ok c.requires.low c.requires.high
    c.requires.head spells (ap is_some (sym c.in-Repeat-Some.is-1) ∙ c.reference_of-reference.ensures.there)
    (subst (IsPlace ok.taken c.args.number c.args.piece.now) c.in-Repeat-Some.is-0
    (c.place-place.ensures.place r.played ok.taken ok.collects))) refl

pub returns-in-Overlap-Some-clause-answer : goal.returns-in-Overlap-Some-clause-answer
returns-in-Overlap-Some-clause-answer c p spells =
    let r = c.args.self.now in let ok = c.requires.fits in
    subst (IsHeard r.params.clock c.refused-in-Overlap-Some.result)
    (sym (overlaps c.whole_header.ensures r c.args.number c.args.piece.now p ok c.requires.low c.requires.high
    c.requires.head spells (ap is_some (sym c.in-Overlap-Some.is-1) ∙ c.reference_of-reference.ensures.there)
    (subst (IsPlace ok.taken c.args.number c.args.piece.now) c.in-Overlap-Some.is-0
    (c.place-place.ensures.place r.played ok.taken ok.collects))))
    c.refused-in-Overlap-Some.ensures

pub returns-in-Fresh-Some-clause-answer : goal.returns-in-Fresh-Some-clause-answer
returns-in-Fresh-Some-clause-answer c p spells =
    let r = c.args.self.now in let ok = c.requires.fits in
    is_fresh c.whole_header.ensures r c.args.number c.args.piece.now p ok c.requires.low c.requires.high
    c.requires.head spells (ap is_some (sym c.in-Fresh-Some.is-1) ∙ c.reference_of-reference.ensures.there)
    (subst (IsPlace ok.taken c.args.number c.args.piece.now) c.in-Fresh-Some.is-0
    (c.place-place.ensures.place r.played ok.taken ok.collects))

pub returns-in_default-None-clause-answer : goal.returns-in_default-None-clause-answer
returns-in_default-None-clause-answer c p spells =
    let r = c.args.self.now in let ok = c.requires.fits in
    let without : (c.place-place.result ≡ places.HeaderDiffers → ⊥) → c.reference_of-reference.result ≡ None
    → IsHeard r.params.clock c.refused-in_default-None.result
    (judged (decoding r.params.format) (rules_of r.params) (seen r) c.args.number p) =
    λ other none. subst (IsHeard r.params.clock c.refused-in_default-None.result)
    (sym (missing c.whole_header.ensures r c.args.number c.args.piece.now p ok c.requires.low c.requires.high
    c.requires.head spells c.place-place.result (c.place-place.ensures.place r.played ok.taken ok.collects) other
    (ap is_some (sym none) ∙ c.reference_of-reference.ensures.there)))
    c.refused-in_default-None.ensures in
    elim c.in_default-None.branch [
      | in_default-None-via-in-Repeat+in-None w ↦ without w.in_default-None.not-HeaderDiffers-0 w.in_default-None.is-1
      | in_default-None-via-in-Overlap+in-None w ↦ without w.in_default-None.not-HeaderDiffers-0 w.in_default-None.is-1
      | in_default-None-via-in-Fresh+in-None w ↦ without w.in_default-None.not-HeaderDiffers-0 w.in_default-None.is-1
    ]
