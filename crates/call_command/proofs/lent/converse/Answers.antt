-- A whole conversation from its turns: what the last one left is what the definition of the run says.
use Rattle.std.proofs.Common.{[], ap, sym, rules}
use Rattle.call_command.specs.Call.{call_step, call_at_start, may_read, most_turns}
use Rattle.call_command.specs.Converse.{talk_end}
use Rattle.call_command.specs.Turning.{Names}
use Rattle.call_command.proofs.Conversing.{alone_under_way, answers_itself, ends_in, left_standing, lent_first, lent_stand, parts_with, stays_itself, under_way}
use Rattle.call_command.proofs.lent.converse.Goals as goal

pub returns-clause-gives : goal.returns-clause-gives
returns-clause-gives g c = λ before inputs receives told.
    let now = g.D.Desk.outside c.args.desk.now in
    let x = parts_with c.args.call.now c.in-Ok.link in
    let kept = lent_first x before inputs (c.way_laws.ensures x.terms.params) c.in-Ok.ensures c.requires.sender_params
    c.requires.sends c.requires.sent c.requires.frames c.requires.receiver_params c.requires.played receives in
    c.take_turns-status.ensures.gives _ inputs now.written
    (under_way x before inputs now c.in-Ok.ensures.lines c.requires.frames kept told c.turn_laws.ensures)

pub returns-clause-whole_input : goal.returns-clause-whole_input
returns-clause-whole_input g c = λ before inputs receives told.
    let now = g.D.Desk.outside c.args.desk.now in
    let x = parts_with c.args.call.now c.in-Ok.link in
    let kept = lent_first x before inputs (c.way_laws.ensures x.terms.params) c.in-Ok.ensures c.requires.sender_params
    c.requires.sends c.requires.sent c.requires.frames c.requires.receiver_params c.requires.played receives in
    c.take_turns-status.ensures.whole_input _ inputs now.written
    (under_way x before inputs now c.in-Ok.ensures.lines c.requires.frames kept told c.turn_laws.ensures)

pub returns-clause-stands : goal.returns-clause-stands
returns-clause-stands g c = λ before inputs receives told.
    let now = g.D.Desk.outside c.args.desk.now in
    let x = parts_with c.args.call.now c.in-Ok.link in
    let kept = lent_first x before inputs (c.way_laws.ensures x.terms.params) c.in-Ok.ensures c.requires.sender_params
    c.requires.sends c.requires.sent c.requires.frames c.requires.receiver_params c.requires.played receives in
    let final = talk_end x.terms before x.video.at inputs in
    let machine = c.take_turns-status.new.machine in
    let names = stays_itself c.take_turns-status.ensures.stays in
    let sender_is = sym (ap (λ (n : Names). n.sender) names) in
    let receiver_is = sym (ap (λ (n : Names). n.receiver) names) in
    lent_stand c.take_turns-status.result final x.terms machine.terms _ machine.sender.now _ machine.receiver.now
    (ap (λ (n : Names). n.terms) names) (search (rules, sender_is)) (search (rules, receiver_is))
    (left_standing c.take_turns-status.result final machine (c.take_turns-status.ensures.leaves final
    (ends_in x before inputs now c.in-Ok.ensures.lines c.requires.frames kept told)))

pub returns-clause-pace : goal.returns-clause-pace
returns-clause-pace g c =
    let names = stays_itself c.take_turns-status.ensures.stays in
    let sender_is = sym (ap (λ (n : Names). n.sender) names) in
    let pace_is = ap (λ (n : Names). n.pace) names in
    search (rules, sender_is, pace_is)

pub returns-clause-answers : goal.returns-clause-answers
returns-clause-answers g c = answers_itself c.take_turns-status.result c.take_turns-status.ensures.answers

pub returns-clause-alone : goal.returns-clause-alone
returns-clause-alone g c = λ run inputs start receives u.
    let now = g.D.Desk.outside c.args.desk.now in
    let x = parts_with c.args.call.now c.in-Ok.link in
    c.take_turns-status.ensures.gives run inputs start
    (alone_under_way x c.in-Ok.ensures.lines c.requires.frames
    (λ rest. lent_first x [] rest (c.way_laws.ensures x.terms.params) c.in-Ok.ensures c.requires.sender_params
    c.requires.sends c.requires.sent c.requires.frames c.requires.receiver_params c.requires.played receives)
    (c.talks_agree.ensures x.terms c.requires.opens.params) run inputs start now u)

pub returns-in_default-clause-alone : goal.returns-in_default-clause-alone
returns-in_default-clause-alone g c = λ run inputs start receives u.
    c.run_laws.ensures.no_memory (call_at_start c.args.call.now.terms [] c.args.call.now.video.at) call_step may_read
    run
    inputs start (most_turns c.args.call.now.terms.plain)
    (g.D.Desk.outside c.args.desk.now) u
