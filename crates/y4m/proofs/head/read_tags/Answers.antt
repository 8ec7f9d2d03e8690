-- The tags before the place are accepted, or the first one that isn't ends the head.
use Rattle.std.proofs.Common.{◌≡◌, ℕ, ◌+◌, List, ◌∷◌, Option, sym, ◌∙◌, ap}
use Rattle.y4m.specs.declared.head.Sizes.{Sizes}
use Rattle.y4m.specs.declared.fault.Y4mFault.{Y4mFault}
use Rattle.y4m.specs.Line.{Tag}
use Rattle.y4m.specs.Head.{width_tagged, height_tagged, tags_fault, last_in, or_else}
use Rattle.y4m.proofs.Results.{err_gives}
use Rattle.y4m.proofs.Tags.{tags_at, tags_none, tags_some, or_else-or_else}
use Rattle.y4m.proofs.head.read_tags.Goals as goal
use Rattle.y4m.proofs.head.read_tags.Goals.{in-Some+in_ok-check_tag, in_default}

pub returns-in_err-check_tag-clause-ok : goal.returns-in_err-check_tag-clause-ok
returns-in_err-check_tag-clause-ok c =
    let line = c.args.line.now in
    let at = c.loop-at.at in
    let e : tags_at line at ≡ record { at = at; text = c.in-Some.tag.now } ∷ tags_at line (at + 1) =
    tags_some line c.in-Some.tag.now at c.loop-at-test.true c.in-Some.ensures in
    err_gives c.from_residual.result c.in_err-check_tag.field-0.0 _ _ c.from_residual.ensures.1
    (sym c.loop-at.invariant.fault ∙ ap tags_fault e
    ∙ ap (λ (o : Option Y4mFault). or_else o (tags_fault (tags_at line (at + 1)))) c.in_err-check_tag.ensures)

pub loop-at-preserved : goal.loop-at-preserved
loop-at-preserved c =
    let line = c.args.line.now in
    let at = c.loop-at.at in
    let inv = c.loop-at.invariant in
    elim c.match-tag_at.branch [
      | in-Some+in_ok-check_tag w ↦
          (let text = w.in-Some.tag.now in
          let rest = tags_at line (at + 1) in
          let e : tags_at line at ≡ record { at = at; text = text } ∷ rest =
          tags_some line text at c.loop-at-test.true w.in-Some.ensures in
          record {
            fault = ap (λ (o : Option Y4mFault). or_else o (tags_fault rest)) (sym w.in_ok-check_tag.ensures)
                ∙ ap tags_fault (sym e) ∙ inv.fault;
            width = ap (λ (o : Option ℕ). or_else (last_in width_tagged rest) o) (ap (λ (s : Sizes). s.width) w.sizes-is
                ∙ w.note.ensures.width)
                ∙ sym (or_else-or_else (last_in width_tagged rest) (width_tagged text) c.loop-at.sizes.width)
                ∙ ap (λ (tags : List Tag). or_else (last_in width_tagged tags) c.loop-at.sizes.width) (sym e)
                ∙ inv.width;
            height = ap (λ (o : Option ℕ). or_else (last_in height_tagged rest) o)
                (ap (λ (s : Sizes). s.height) w.sizes-is
                ∙ w.note.ensures.height)
                ∙ sym (or_else-or_else (last_in height_tagged rest) (height_tagged text) c.loop-at.sizes.height)
                ∙ ap (λ (tags : List Tag). or_else (last_in height_tagged tags) c.loop-at.sizes.height) (sym e)
                ∙ inv.height;
          })
      | in_default w ↦
          (let e : tags_at line at ≡ tags_at line (at + 1) = tags_none line at c.loop-at-test.true w.in_default.ensures
          in
          record {
            fault = ap tags_fault (sym e) ∙ inv.fault;
            width = (λ j. or_else (last_in width_tagged (sym e j)) ((w.sizes-is j).width)) ∙ inv.width;
            height = (λ j. or_else (last_in height_tagged (sym e j)) ((w.sizes-is j).height)) ∙ inv.height;
          })
    ]
