use Rattle.std.proofs.Common.{◌≡◌, length, rules, sym, subst}
use Rattle.h263_outside.specs.declared.desk.Role.TheVariants.{Video2, Pictures2}
use Rattle.call_report.specs.declared.status.Status.TheVariants.{Video2Refused}
use Rattle.duplex_command.specs.Exchange.{second_result}
use Rattle.duplex_command.specs.Standing.{PartyOpens}
use Rattle.duplex_command.specs.Turning.{TakesEvent}
use Rattle.duplex_command.proofs.AtParty.{event_taken}
use Rattle.duplex_command.proofs.event.second_turn.Goals as goal

pub returns : goal.returns
returns g c =
    let outside = g.D.Desk.outside in
    let own = c.args.own.now in
    let far = c.args.far.now in
    let said = c.args.said in
    let room = length c.args.frame.now in
    let t = c.party_turn in
    let now : t.new.desk.desk.now ≡ c.desk-1.given.0 = search rules in
    subst (λ r. TakesEvent Video2 Pictures2 Video2Refused own far t.new.own t.new.far said r (outside c.args.desk.now)
    (outside c.desk-1.given.0) room) (sym c.second_result.ensures)
    (subst (λ d. TakesEvent Video2 Pictures2 Video2Refused own far t.new.own t.new.far said (second_result t.result)
    (outside c.args.desk.now) (outside d) room) now
    (subst (λ d. TakesEvent Video2 Pictures2 Video2Refused own far t.new.own t.new.far said (second_result t.result)
    (outside d) (outside t.new.desk.desk.now) room) c.new-second.ensures.lent
    (event_taken own far t.new.own t.new.far said room c.new-second.result.desk.ghost_name t.new.desk.desk.ghost_name
    (outside c.new-second.result.desk.now) (outside t.new.desk.desk.now) t.result t.ensures)))

pub party_turn-requires-clause-opens : goal.party_turn-requires-clause-opens
party_turn-requires-clause-opens g c =
    let opens = subst (λ d. PartyOpens Video2 Pictures2 (g.D.Desk.outside d).attached) (sym c.new-second.ensures.lent)
    c.requires.opens in
    record { video_opens = opens.video_opens; pictures_opens = opens.pictures_opens; report_opens = opens.report_opens }
