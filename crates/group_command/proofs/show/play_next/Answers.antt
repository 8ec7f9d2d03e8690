use Rattle.std.proofs.Common.{ℕ, List, sym, ◌∙◌, subst}
use Rattle.std.proofs.lemmas.Result.{on_err_weaker, on_ok_weaker}
use Rattle.h263_outside.specs.declared.desk.Role.{Role}
use Rattle.h263_planes.specs.Lent.{picture}
use Rattle.desk_program.specs.Ends.{Gains, GainsFronts}
use Rattle.group_call.specs.Viewing.{view_play}
use Rattle.group_command.proofs.Writing.{reference_next, row_is}
use Rattle.group_command.proofs.show.play_next.Goals as goal

pub returns-clause-ok : goal.returns-clause-ok
returns-clause-ok g c = λ p run view cast h some near.
    let outside = g.D.Desk.outside in
    let next = (c.played.ensures.view p view h) in
    let after = c.play-played.ensures.holds p view h in
    let row = row_is p c.args.place run view c.pictures_at.result c.digit_of.result c.play-played.result.number
    c.play-played.result.mark
    c.reference_of-reference.result (picture c.shown.result) c.pictures_at.ensures.value c.digit_of.ensures.value
    (c.play-played.ensures.number ∙ sym c.played.ensures.count ∙ next) (c.play-played.ensures.mark p view h)
    (reference_next run c.played.result _ next (c.reference_of-reference.ensures p run cast) some near)
    (c.shown.ensures.view p (view_play p view) after)
    in
    on_ok_weaker c.show_row.result (λ gains. subst (λ (t : Role → List ℕ). Gains t (outside c.args.desk.now).written
    (outside c.show_row.new.desk).written) row gains) c.show_row.ensures.ok

pub returns-clause-err : goal.returns-clause-err
returns-clause-err g c = λ p run view cast h some near.
    let outside = g.D.Desk.outside in
    let next = (c.played.ensures.view p view h) in
    let after = c.play-played.ensures.holds p view h in
    let row = row_is p c.args.place run view c.pictures_at.result c.digit_of.result c.play-played.result.number
    c.play-played.result.mark
    c.reference_of-reference.result (picture c.shown.result) c.pictures_at.ensures.value c.digit_of.ensures.value
    (c.play-played.ensures.number ∙ sym c.played.ensures.count ∙ next) (c.play-played.ensures.mark p view h)
    (reference_next run c.played.result _ next (c.reference_of-reference.ensures p run cast) some near)
    (c.shown.ensures.view p (view_play p view) after)
    in
    on_err_weaker c.show_row.result (λ gains. subst (λ (t : Role → List ℕ). GainsFronts t
    (outside c.args.desk.now).written
    (outside c.show_row.new.desk).written) row gains) c.show_row.ensures.err
