use Rattle.std.proofs.Common.{length}
use Rattle.duplex_command.proofs.AtParty.{line_of_a, line_of_b, stations_too}
use Rattle.duplex_command.proofs.event.event_turn.Goals as goal

pub party_turn-requires-clause-opens : goal.party_turn-requires-clause-opens
party_turn-requires-clause-opens g c =
    let opens = c.requires.opens in
    record { video_opens = opens.video; pictures_opens = opens.pictures; report_opens = opens.report }

pub second_turn-requires-clause-opens : goal.second_turn-requires-clause-opens
second_turn-requires-clause-opens g c =
    let opens = c.requires.opens in
    record { video_opens = opens.video2; pictures_opens = opens.pictures2; report_opens = opens.report }

pub second_turn-requires-clause-ready : goal.second_turn-requires-clause-ready
second_turn-requires-clause-ready g c = stations_too c.pair_laws.ensures c.args.a.now c.args.b.now
    (length c.args.frame.now) c.requires.ready

pub returns-in-A : goal.returns-in-A
returns-in-A g c =
    let outside = g.D.Desk.outside in
    line_of_a c.pair_laws.ensures c.args.a.now c.args.b.now c.party_turn.new.own c.party_turn.new.far c.args.said
    c.party_turn.result (outside c.args.desk.now) (outside c.party_turn.new.desk)
    (length c.args.frame.now) c.in-A.is c.party_turn.ensures

pub returns-in-B : goal.returns-in-B
returns-in-B g c =
    let outside = g.D.Desk.outside in
    line_of_b c.pair_laws.ensures c.args.a.now c.args.b.now c.second_turn.new.far c.second_turn.new.own c.args.said
    c.second_turn.result (outside c.args.desk.now) (outside c.second_turn.new.desk)
    (length c.args.frame.now) c.in-B.is c.second_turn.ensures
