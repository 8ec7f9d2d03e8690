-- A delivered packet brings its messages, and both parties hold what the call so far says.
use Rattle.std.proofs.Common.{◌≡◌, List, [], ◌∷◌, ◌++◌, refl, sym, subst, ◌∙◌, arith}
use Rattle.std.specs.Prelude.{drop}
use Rattle.std.proofs.lemmas.List.{append-nil}
use Rattle.h263_types.specs.declared.params.Params.{Params}
use Rattle.call_encoding.specs.Frames.{Frame}
use Rattle.call_model.specs.IdealCall.{Deliver}
use Rattle.duplex_call.specs.declared.queue.Carried.{Carried}
use Rattle.duplex_call.specs.Duplex.{WayRun, brings, brought, other, way, with_delivery}
use Rattle.duplex_call.specs.Waiting.{Waits}
use Rattle.duplex_ends.specs.declared.party.PartyEnds.{PartyEnds}
use Rattle.duplex_ends.specs.Bringing.{said_as}
use Rattle.duplex_ends.specs.Ways.{sides, carried_from}
use Rattle.duplex_ends.proofs.Agreeing.{agree}
use Rattle.duplex_ends.proofs.Deliveries.{agrees, among, near_now, with_both}
use Rattle.duplex_ends.proofs.Runs.{party_more, told_more, told_still}
use Rattle.duplex_ends.proofs.events.deliver.Goals as goal

pub bring_carried-requires : goal.bring_carried-requires
bring_carried-requires c = record { far = c.args.far.now; now = c.requires }

pub returns-clause-holds : goal.returns-clause-holds
returns-clause-holds c = λ p x ways left h may.
    let P = p x in
    let Q = p (other x) in
    let w = way x ways in
    let v = way (other x) ways in
    let n = c.args.number in
    let j = c.args.place in
    let own = c.args.own.now in
    let far = c.args.far.now in
    let one = h.own_holds in
    let two = h.far_holds in
    let calls = c.call_laws.ensures P (h.in_range x) in
    let nears = c.near_event_laws.ensures P (h.in_range x) in
    let near = near_now P Q (h.in_range x) calls nears own w v one left n j may.0 in
    let last = among P Q (h.in_range x) calls nears own w v one left n j may.0 in
    let next : WayRun Frame = record w { past = Deliver n j ∷ w.past } in
    let ks = brings (sides p) x w n j in
    let back : WayRun Frame = record v { past = brought ks v.past } in
    let told = c.deliver-said in
    let done = told.ensures.holds P own.sender [] w.frames w.past one.done last near in
    let says = told.ensures.says P own.sender [] w.frames w.past one.done last in
    let before = agrees P Q (h.in_range x) calls nears own w v one left n j may.0 in
    let now = agree P (h.in_range x) calls nears own.way own.sender told.new.receiver next done in
    let more : carried_from P next ≡ carried_from P w ++ said_as P.clock n told.result =
    told_more P (c.said_laws.ensures P (h.in_range x)) w (Deliver n j) n told.result _ refl says before now in
    let same : carried_from Q back ≡ carried_from Q v ++ [] = told_still Q v ks ∙ sym (append-nil (carried_from Q v)) in
    let new_own : PartyEnds = record own { far_end = told.new.receiver } in
    let new_far : PartyEnds = record far { sender = c.bring_carried.new.sender; waiting = c.put_by.new.waiting } in
    let waits : Waits own.waiting (drop w.loaded (carried_from Q v) ++ []) =
    subst (λ (l : List Carried). Waits own.waiting l) (sym (append-nil (drop w.loaded (carried_from Q v)))) one.waits in
    let said : Waits c.put_by.new.waiting (drop v.loaded (carried_from P w) ++ said_as P.clock n told.result) =
    subst (λ (q : Params). Waits c.put_by.new.waiting (drop v.loaded (carried_from P w)
    ++ said_as q.clock n told.result))
    one.params (c.put_by.ensures (drop v.loaded (carried_from P w)) two.waits)
    in
    with_both p x new_own new_far ways next back h.in_range h.clock
    (party_more P Q own w v one new_own (Deliver n j ∷ w.past) back [] refl refl refl refl (omega (
      arith,
      one.behind,
      told.ensures.played,
    )) (one.counted ∙ sym told.ensures.played) done one.can same waits)
    (party_more Q P far v w two new_far (brought ks v.past) next (said_as P.clock n told.result) refl refl
    refl c.bring_carried.ensures.sent two.behind two.counted
    (c.bring_carried.ensures.holds p x ways left far h refl may) (c.bring_carried.ensures.ready far.way two.can) more
    said)

pub returns-clause-ready : goal.returns-clause-ready
returns-clause-ready c =
    let e = c.requires in
    record {
      params = e.params;
      party = e.party;
      ways = with_delivery (sides e.params) e.party c.args.number c.args.place e.ways;
      holds = returns-clause-holds c e.params e.party e.ways e.left e.holds e.may;
    }

pub returns-clause-keeps : goal.returns-clause-keeps
returns-clause-keeps c = record {
  own_params = refl;
  far_params = refl;
  own_sender = refl;
  far_sent = c.bring_carried.ensures.sent;
  own_played = c.deliver-said.ensures.played;
  far_receiver = refl;
}
