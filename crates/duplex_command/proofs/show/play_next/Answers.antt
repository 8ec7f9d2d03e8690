use Rattle.std.proofs.Common.{ℕ, List, ◌∙◌, subst}
use Rattle.std.proofs.lemmas.Result.{on_err_weaker, on_ok_weaker}
use Rattle.h263_outside.specs.declared.desk.Role.{Role}
use Rattle.h263_planes.specs.Lent.{picture}
use Rattle.desk_program.specs.Ends.{Gains, GainsFronts}
use Rattle.duplex_call.specs.Duplex.{with_play}
use Rattle.duplex_ends.specs.Ways.{sides}
use Rattle.duplex_command.proofs.Writing.{row_is}
use Rattle.duplex_command.proofs.show.play_next.Goals as goal

pub returns-clause-ok : goal.returns-clause-ok
returns-clause-ok g c = λ p ways left holds may.
    let outside = g.D.Desk.outside in
    let x = c.args.party in
    let own = c.args.own.now in
    let far = c.args.far.now in
    let after = c.play-played.ensures.holds p x ways left holds may in
    let row = row_is p x ways (c.after_a_play.ensures p x ways) c.letter.result c.play-played.result.number
    c.play-played.result.mark
    c.reference_of_next-reference.result (picture c.shown.result) c.letter.ensures.value
    (c.play-played.ensures.number ∙ (c.pair_laws.ensures p).played x own far ways holds)
    (c.play-played.ensures.mark p x ways left holds may)
    (c.reference_of_next-reference.ensures p x far ways left holds may)
    (c.shown.ensures.holds p x c.play-played.new.far (with_play (sides p) x ways) after)
    in
    on_ok_weaker c.show_row.result (λ gains. subst (λ (t : Role → List ℕ). Gains t (outside c.args.desk.now).written
    (outside c.show_row.new.desk).written) row gains) c.show_row.ensures.ok

pub returns-clause-err : goal.returns-clause-err
returns-clause-err g c = λ p ways left holds may.
    let outside = g.D.Desk.outside in
    let x = c.args.party in
    let own = c.args.own.now in
    let far = c.args.far.now in
    let after = c.play-played.ensures.holds p x ways left holds may in
    let row = row_is p x ways (c.after_a_play.ensures p x ways) c.letter.result c.play-played.result.number
    c.play-played.result.mark
    c.reference_of_next-reference.result (picture c.shown.result) c.letter.ensures.value
    (c.play-played.ensures.number ∙ (c.pair_laws.ensures p).played x own far ways holds)
    (c.play-played.ensures.mark p x ways left holds may)
    (c.reference_of_next-reference.ensures p x far ways left holds may)
    (c.shown.ensures.holds p x c.play-played.new.far (with_play (sides p) x ways) after)
    in
    on_err_weaker c.show_row.result (λ gains. subst (λ (t : Role → List ℕ). GainsFronts t
    (outside c.args.desk.now).written
    (outside c.show_row.new.desk).written) row gains) c.show_row.ensures.err
