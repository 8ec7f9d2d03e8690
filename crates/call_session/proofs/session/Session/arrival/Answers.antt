-- A datagram that can't be read leaves its cause; one that can is what the rules make of it.
use Rattle.std.proofs.Common.{ℕ, List, length, take, drop, Result, ap, subst, ◌∙◌}
use Rattle.h263_types.specs.declared.params.Params.{Params}
use Rattle.rtp_source.specs.Source.{renamed}
use Rattle.session_intake.specs.declared.settings.Settings.{Settings}
use Rattle.session_intake.specs.declared.seen.Seen.{Seen}
use Rattle.session_intake.specs.declared.seen.Cause.{Cause}
use Rattle.session_intake.specs.Datagrams.{seen_in}
use Rattle.session_runs.specs.Kept.{config_in}
use Rattle.call_session.specs.declared.verdict.Arrived.{Arrived}
use Rattle.call_session.specs.Sessions.{Datagram, after_reading, after_seen, at, outcome_of_reading}
use Rattle.call_session.specs.Sessions.{outcome_of_seen, session_run, taker_in, told_of_reading}
use Rattle.call_session.specs.Ruled.{IsVerdict, StateStands}
use Rattle.call_session.proofs.Reading.{in_room}
use Rattle.call_session.proofs.Settling.{settled}
use Rattle.call_session.proofs.session.Session.arrival.Goals as goal

pub returns-in-Err-clause-answer : goal.returns-in-Err-clause-answer
returns-in-Err-clause-answer c = λ past s.
    let old = c.args.self.now.rules.settings in let k = config_in old in let bytes = c.args.bytes.now in
    let then = at c.args.now (session_run k past) in
    let e = c.in-Err.ensures.exact
    ∙ ap (λ (p : Params). seen_in p bytes) (c.params.ensures
    ∙ ap (λ (z : Settings). z.params) c.tick.ensures.settings) in
    subst (λ (x : Result Seen Cause). IsVerdict old.params.clock c.drop_for.result.verdict
    (outcome_of_reading k x (renamed bytes) then)) e (ap (λ (a : Arrived). a.verdict) c.drop_for.ensures.answer)

pub returns-in-Err-clause-told : goal.returns-in-Err-clause-told
returns-in-Err-clause-told c = λ past s.
    let old = c.args.self.now.rules.settings in let k = config_in old in let bytes = c.args.bytes.now in
    let then = at c.args.now (session_run k past) in
    let e = c.in-Err.ensures.exact
    ∙ ap (λ (p : Params). seen_in p bytes) (c.params.ensures
    ∙ ap (λ (z : Settings). z.params) c.tick.ensures.settings) in
    ap (λ (a : Arrived). a.is_rival) c.drop_for.ensures.answer
    ∙ ap (λ (x : Result Seen Cause). told_of_reading x then) e

pub returns-in-Err-clause-stands : goal.returns-in-Err-clause-stands
returns-in-Err-clause-stands c = λ past s.
    let old = c.args.self.now.rules.settings in let k = config_in old in let bytes = c.args.bytes.now in
    let then = at c.args.now (session_run k past) in
    let e = c.in-Err.ensures.exact
    ∙ ap (λ (p : Params). seen_in p bytes) (c.params.ensures
    ∙ ap (λ (z : Settings). z.params) c.tick.ensures.settings) in
    settled c.drop_for.new.self old (Datagram bytes c.args.now) past
    (c.drop_for.ensures.settings ∙ c.tick.ensures.settings)
    (subst (λ (x : Result Seen Cause). StateStands c.drop_for.new.self (after_reading k x (renamed bytes) then)) e
    (c.drop_for.ensures.stands then (c.tick.ensures.stands (session_run k past) s)))

pub returns-in-Ok-clause-answer : goal.returns-in-Ok-clause-answer
returns-in-Ok-clause-answer c = λ past s.
    let old = c.args.self.now.rules.settings in let k = config_in old in let bytes = c.args.bytes.now in
    let then = at c.args.now (session_run k past) in
    let e = c.in-Ok.ensures.exact
    ∙ ap (λ (p : Params). seen_in p bytes) (c.params.ensures
    ∙ ap (λ (z : Settings). z.params) c.tick.ensures.settings) in
    let own = in_room (length bytes) c.args.self.now.room.items.len c.read.new.room
    (drop (length c.read.new.room) c.args.self.now.room.items.items) c.deref.result.now (renamed bytes)
    c.requires.room c.in-Ok.ensures.len c.deref.ensures.value c.in-Ok.ensures.own in
    let seen = c.in-Ok.seen in let t = taker_in seen then in let room = take (length bytes) c.deref.result.now in
    let verdict = c.follow.result.verdict in
    subst (λ (x : Result Seen Cause). IsVerdict old.params.clock verdict (outcome_of_reading k x (renamed bytes) then))
    e
    (subst (λ (o : List ℕ). IsVerdict old.params.clock verdict (outcome_of_seen k seen t o then)) own
    (subst (λ (z : Settings). IsVerdict z.params.clock verdict (outcome_of_seen (config_in z) seen t room then))
    c.tick.ensures.settings
    (c.follow.ensures.answer then (c.tick.ensures.stands (session_run k past) s))))

pub returns-in-Ok-clause-told : goal.returns-in-Ok-clause-told
returns-in-Ok-clause-told c = λ past s.
    let old = c.args.self.now.rules.settings in let k = config_in old in let bytes = c.args.bytes.now in
    let then = at c.args.now (session_run k past) in
    let e = c.in-Ok.ensures.exact
    ∙ ap (λ (p : Params). seen_in p bytes) (c.params.ensures
    ∙ ap (λ (z : Settings). z.params) c.tick.ensures.settings) in
    c.follow.ensures.told then (c.tick.ensures.stands (session_run k past) s)
    ∙ ap (λ (x : Result Seen Cause). told_of_reading x then) e

pub returns-in-Ok-clause-stands : goal.returns-in-Ok-clause-stands
returns-in-Ok-clause-stands c = λ past s.
    let old = c.args.self.now.rules.settings in let k = config_in old in let bytes = c.args.bytes.now in
    let then = at c.args.now (session_run k past) in
    let e = c.in-Ok.ensures.exact
    ∙ ap (λ (p : Params). seen_in p bytes) (c.params.ensures
    ∙ ap (λ (z : Settings). z.params) c.tick.ensures.settings) in
    let own = in_room (length bytes) c.args.self.now.room.items.len c.read.new.room
    (drop (length c.read.new.room) c.args.self.now.room.items.items) c.deref.result.now (renamed bytes)
    c.requires.room c.in-Ok.ensures.len c.deref.ensures.value c.in-Ok.ensures.own in
    let seen = c.in-Ok.seen in let t = taker_in seen then in let room = take (length bytes) c.deref.result.now in
    let after = c.follow.new.self in
    settled after old (Datagram bytes c.args.now) past (c.follow.ensures.settings ∙ c.tick.ensures.settings)
    (subst (λ (x : Result Seen Cause). StateStands after (after_reading k x (renamed bytes) then)) e
    (subst (λ (o : List ℕ). StateStands after (after_seen k seen t o then)) own
    (subst (λ (z : Settings). StateStands after (after_seen (config_in z) seen t room then)) c.tick.ensures.settings
    (c.follow.ensures.stands then (c.tick.ensures.stands (session_run k past) s)))))
