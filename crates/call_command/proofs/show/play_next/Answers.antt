-- What is written of a play is the row of the picture that the ends have come to.
use Rattle.std.proofs.Common.{ℕ, ◌<◌, List, ◌∷◌, sym, ap, subst, ◌∙◌, arith}
use Rattle.std.proofs.lemmas.Result.{on_err_weaker, on_ok_weaker}
use Rattle.h263_outside.specs.declared.desk.Role.{Role}
use Rattle.h263_planes.specs.Lent.{picture}
use Rattle.desk_program.specs.Ends.{Gains, GainsFronts}
use Rattle.call_model.specs.IdealCall.{Play}
use Rattle.one_way.specs.Both.{both_after, steady}
use Rattle.one_way.specs.Seen.{reference_in}
use Rattle.call_command.proofs.Writing.{row_is}
use Rattle.call_command.proofs.show.play_next.Goals as goal

pub returns-clause-ok : goal.returns-clause-ok
returns-clause-ok g c = λ p sender before frames past begun h may.
    let outside = g.D.Desk.outside in
    let laws = c.way_laws.ensures p in
    let was = c.args.receiver.now in
    let played = laws.played sender was before frames past h.way_holds.joined in
    let sent = laws.sent sender was before frames past h.way_holds.joined in
    let after = c.play-played.ensures.holds p sender before frames past h may in
    let ahead : was.played < sender.sent = omega (arith, may, played, sent) in
    let row = row_is p before frames past c.play-played.result.number c.play-played.result.mark
    c.reference_of-reference.result (picture c.shown.result)
    c.play-played.ensures.number played (c.play-played.ensures.mark p sender before frames past h)
    (c.reference_of-reference.ensures p sender before frames past begun h ahead
    ∙ ap (λ (n : ℕ). reference_in (both_after p (steady p) frames before past).sender.coded n)
    (sym c.play-played.ensures.number))
    (laws.shown sender c.play-played.new.receiver before frames (Play ∷ past) (picture c.shown.result)
    after.way_holds.joined c.shown.ensures.run)
    in
    on_ok_weaker c.show_row.result (λ gains. subst (λ (t : Role → List ℕ). Gains t (outside c.args.desk.now).written
    (outside c.show_row.new.desk).written) row gains) c.show_row.ensures.ok

pub returns-clause-err : goal.returns-clause-err
returns-clause-err g c = λ p sender before frames past begun h may.
    let outside = g.D.Desk.outside in
    let laws = c.way_laws.ensures p in
    let was = c.args.receiver.now in
    let played = laws.played sender was before frames past h.way_holds.joined in
    let sent = laws.sent sender was before frames past h.way_holds.joined in
    let after = c.play-played.ensures.holds p sender before frames past h may in
    let ahead : was.played < sender.sent = omega (arith, may, played, sent) in
    let row = row_is p before frames past c.play-played.result.number c.play-played.result.mark
    c.reference_of-reference.result (picture c.shown.result)
    c.play-played.ensures.number played (c.play-played.ensures.mark p sender before frames past h)
    (c.reference_of-reference.ensures p sender before frames past begun h ahead
    ∙ ap (λ (n : ℕ). reference_in (both_after p (steady p) frames before past).sender.coded n)
    (sym c.play-played.ensures.number))
    (laws.shown sender c.play-played.new.receiver before frames (Play ∷ past) (picture c.shown.result)
    after.way_holds.joined c.shown.ensures.run)
    in
    on_err_weaker c.show_row.result (λ gains. subst (λ (t : Role → List ℕ). GainsFronts t
    (outside c.args.desk.now).written
    (outside c.show_row.new.desk).written) row gains) c.show_row.ensures.err
