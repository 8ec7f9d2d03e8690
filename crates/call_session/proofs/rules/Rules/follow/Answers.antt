-- A packet of the call's pictures is taken by its stream, or costs its budget and is dropped.
use Rattle.std.proofs.Common.{Bool, true, false, ap, subst, ◌∙◌}
use Rattle.stream_choice.specs.declared.streams.Taker.{Taker}
use Rattle.session_runs.specs.Lines.{taker_run}
use Rattle.session_runs.specs.Kept.{config_in}
use Rattle.call_session.specs.declared.verdict.Arrived.{Arrived}
use Rattle.call_session.specs.Sessions.{Outcome, after_grant, after_seen, asked_for, outcome_of_grant, outcome_of_seen}
use Rattle.call_session.specs.Sessions.{told_of_grant, told_of_seen}
use Rattle.call_session.specs.Ruled.{IsVerdict, StateStands}
use Rattle.call_session.proofs.Judging.{still}
use Rattle.call_session.proofs.Looking.{asked, looked, taken_by}
use Rattle.call_session.proofs.rules.Rules.follow.Goals as goal

pub returns-then-grants-clause-answer : goal.returns-then-grants-clause-answer
returns-then-grants-clause-answer c = λ st s.
    let r = c.args.self.now in let k = config_in r.settings in
    let seen = c.args.seen.now in let own = c.args.own.now in let t = c.taker-taker.result in
    let verdict = c.follow_granted.result.verdict in
    let at = asked r c.grants.new.self t st s (c.grants.ensures.stands st.asked s.asked) in
    subst (λ (x : Taker). IsVerdict r.settings.params.clock verdict (outcome_of_seen k seen x own st))
    (taken_by r seen st t s c.taker-taker.ensures)
    (subst (λ (b : Bool). IsVerdict r.settings.params.clock verdict (outcome_of_grant k seen t own b st))
    (looked r t st c.grants.result true s (c.grants.ensures.answer st.asked s.asked) c.if-grants.true)
    (subst (λ (o : Outcome). IsVerdict r.settings.params.clock verdict o) (still k seen t (taker_run t) own st)
    (c.follow_granted.ensures.answer (asked_for t st) at)))

pub returns-then-grants-clause-told : goal.returns-then-grants-clause-told
returns-then-grants-clause-told c = λ st s.
    let r = c.args.self.now in let seen = c.args.seen.now in let t = c.taker-taker.result in
    let at = asked r c.grants.new.self t st s (c.grants.ensures.stands st.asked s.asked) in
    c.follow_granted.ensures.told (asked_for t st) at
    ∙ ap (λ (b : Bool). told_of_grant t b st)
    (looked r t st c.grants.result true s (c.grants.ensures.answer st.asked s.asked) c.if-grants.true)
    ∙ ap (λ (x : Taker). told_of_seen x st) (taken_by r seen st t s c.taker-taker.ensures)

pub returns-then-grants-clause-stands : goal.returns-then-grants-clause-stands
returns-then-grants-clause-stands c = λ st s.
    let r = c.args.self.now in let k = config_in r.settings in
    let seen = c.args.seen.now in let own = c.args.own.now in let t = c.taker-taker.result in
    let at = asked r c.grants.new.self t st s (c.grants.ensures.stands st.asked s.asked) in
    subst (λ (x : Taker). StateStands c.follow_granted.new.self (after_seen k seen x own st))
    (taken_by r seen st t s c.taker-taker.ensures)
    (subst (λ (b : Bool). StateStands c.follow_granted.new.self (after_grant k seen t own b (asked_for t st)))
    (looked r t st c.grants.result true s (c.grants.ensures.answer st.asked s.asked) c.if-grants.true)
    (c.follow_granted.ensures.stands (asked_for t st) at))

pub returns-else-grants-clause-answer : goal.returns-else-grants-clause-answer
returns-else-grants-clause-answer c = λ st s.
    let r = c.args.self.now in let k = config_in r.settings in
    let seen = c.args.seen.now in let own = c.args.own.now in let t = c.taker-taker.result in
    let verdict = c.drop_for.result.verdict in
    subst (λ (x : Taker). IsVerdict r.settings.params.clock verdict (outcome_of_seen k seen x own st))
    (taken_by r seen st t s c.taker-taker.ensures)
    (subst (λ (b : Bool). IsVerdict r.settings.params.clock verdict (outcome_of_grant k seen t own b st))
    (looked r t st c.grants.result false s (c.grants.ensures.answer st.asked s.asked) c.if-grants.false)
    (ap (λ (a : Arrived). a.verdict) c.drop_for.ensures.answer))

pub returns-else-grants-clause-told : goal.returns-else-grants-clause-told
returns-else-grants-clause-told c = λ st s.
    let r = c.args.self.now in let seen = c.args.seen.now in let t = c.taker-taker.result in
    ap (λ (a : Arrived). a.is_rival) c.drop_for.ensures.answer
    ∙ ap (λ (b : Bool). told_of_grant t b st)
    (looked r t st c.grants.result false s (c.grants.ensures.answer st.asked s.asked) c.if-grants.false)
    ∙ ap (λ (x : Taker). told_of_seen x st) (taken_by r seen st t s c.taker-taker.ensures)

pub returns-else-grants-clause-stands : goal.returns-else-grants-clause-stands
returns-else-grants-clause-stands c = λ st s.
    let r = c.args.self.now in let k = config_in r.settings in
    let seen = c.args.seen.now in let own = c.args.own.now in let t = c.taker-taker.result in
    let at = asked r c.grants.new.self t st s (c.grants.ensures.stands st.asked s.asked) in
    subst (λ (x : Taker). StateStands c.drop_for.new.self (after_seen k seen x own st))
    (taken_by r seen st t s c.taker-taker.ensures)
    (subst (λ (b : Bool). StateStands c.drop_for.new.self (after_grant k seen t own b (asked_for t st)))
    (looked r t st c.grants.result false s (c.grants.ensures.answer st.asked s.asked) c.if-grants.false)
    (c.drop_for.ensures.stands (asked_for t st) at))
