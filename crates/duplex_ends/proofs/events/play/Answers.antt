-- A play is that of the receiver, and what it says waits with the other party.
use Rattle.std.proofs.Common.{◌≡◌, ℕ, List, [], ◌∷◌, ◌++◌, refl, sym, ap, subst, ◌∙◌, arith}
use Rattle.std.specs.Prelude.{drop}
use Rattle.std.proofs.lemmas.List.{append-nil}
use Rattle.h263_types.specs.declared.params.Params.{Params}
use Rattle.h263_planes.specs.Picture.{Picture}
use Rattle.call_encoding.specs.Frames.{Frame}
use Rattle.call_model.specs.Coding.{Shown}
use Rattle.call_model.specs.IdealCall.{Play}
use Rattle.receiver_end.specs.Answers.{mark_from}
use Rattle.duplex_call.specs.declared.queue.Carried.{Carried}
use Rattle.duplex_call.specs.Duplex.{WayRun, other, way, with_play}
use Rattle.duplex_call.specs.Waiting.{Waits}
use Rattle.duplex_ends.specs.declared.party.PartyEnds.{PartyEnds}
use Rattle.duplex_ends.specs.Bringing.{said_as}
use Rattle.duplex_ends.specs.Ways.{sides, carried_from}
use Rattle.duplex_ends.proofs.Agreeing.{agree, plays}
use Rattle.duplex_ends.proofs.Deliveries.{with_one}
use Rattle.duplex_ends.proofs.Runs.{party_more, party_waits, told_more}
use Rattle.duplex_ends.proofs.events.play.Goals as goal

pub play-played-requires-clause-played : goal.play-played-requires-clause-played
play-played-requires-clause-played c =
    let e = c.requires in
    let laws = c.pair_laws.ensures e.params in
    let sent = laws.sent e.party c.args.own.now c.args.far.now e.ways e.holds in
    let played = laws.played e.party c.args.own.now c.args.far.now e.ways e.holds in
    omega (arith, e.may, sent, played, e.holds.own_holds.few)

pub play-played-requires-clause-counted : goal.play-played-requires-clause-counted
play-played-requires-clause-counted c =
    let e = c.requires in
    let laws = c.pair_laws.ensures e.params in
    let sent = laws.sent e.party c.args.own.now c.args.far.now e.ways e.holds in
    let played = laws.played e.party c.args.own.now c.args.far.now e.ways e.holds in
    omega (arith, e.may, sent, played, e.holds.own_holds.few, e.holds.own_holds.counted)

pub returns-clause-mark : goal.returns-clause-mark
returns-clause-mark c = λ p x ways left h may.
    let P = p x in
    let w = way x ways in
    let own = c.args.own.now in
    let calls = c.call_laws.ensures P (h.in_range x) in
    let nears = c.near_event_laws.ensures P (h.in_range x) in
    let near = plays P (h.in_range x) calls nears own.way own.sender own.far_end w h.own_holds.done left may in
    let next : WayRun Frame = record w { past = Play ∷ w.past } in
    let done = c.play-played.ensures.holds P own.sender [] w.frames w.past h.own_holds.done near in
    let now = agree P (h.in_range x) calls nears c.play-played.new.self own.sender c.play-played.new.receiver next done
    in
    c.play-played.ensures.mark P own.sender [] w.frames w.past h.own_holds.done
    ∙ ap mark_from (first_mark _ _ _ _ now.plays)
  where
    first_mark : (a b : Shown Picture) (l m : List (Shown Picture)) → a ∷ l ≡ b ∷ m → a.mark ≡ b.mark
    first_mark a b l m is = let same : a ≡ b = cc is in ap (λ (s : Shown Picture). s.mark) same

pub returns-clause-holds : goal.returns-clause-holds
returns-clause-holds c = λ p x ways left h may.
    let P = p x in
    let Q = p (other x) in
    let w = way x ways in
    let v = way (other x) ways in
    let own = c.args.own.now in
    let far = c.args.far.now in
    let one = h.own_holds in
    let two = h.far_holds in
    let calls = c.call_laws.ensures P (h.in_range x) in
    let nears = c.near_event_laws.ensures P (h.in_range x) in
    let near = plays P (h.in_range x) calls nears own.way own.sender own.far_end w one.done left may in
    let next : WayRun Frame = record w { past = Play ∷ w.past } in
    let told = c.play-played in
    let done = told.ensures.holds P own.sender [] w.frames w.past one.done near in
    let says = told.ensures.says P own.sender [] w.frames w.past one.done in
    let before = agree P (h.in_range x) calls nears own.way own.sender own.far_end w one.done in
    let now = agree P (h.in_range x) calls nears told.new.self own.sender told.new.receiver next done in
    let n = own.far_end.played in
    let more : carried_from P next ≡ carried_from P w ++ said_as P.clock n told.result.message =
    told_more P (c.said_laws.ensures P (h.in_range x)) w Play n told.result.message _ refl says before now in
    let new_own : PartyEnds = record own { way = told.new.self; far_end = told.new.receiver } in
    let new_far : PartyEnds = record far { waiting = c.put_by.new.waiting } in
    let waits : Waits own.waiting (drop w.loaded (carried_from Q v) ++ []) =
    subst (λ (l : List Carried). Waits own.waiting l) (sym (append-nil (drop w.loaded (carried_from Q v)))) one.waits in
    let said : Waits c.put_by.new.waiting (drop v.loaded (carried_from P w) ++ said_as P.clock n told.result.message) =
    subst (λ (k : ℕ). Waits c.put_by.new.waiting (drop v.loaded (carried_from P w)
    ++ said_as P.clock k told.result.message))
    c.play-played.ensures.number
    (subst (λ (q : Params). Waits c.put_by.new.waiting (drop v.loaded (carried_from P w)
    ++ said_as q.clock c.play-played.result.number told.result.message)) one.params
    (c.put_by.ensures (drop v.loaded (carried_from P w)) two.waits))
    in
    let laws = c.pair_laws.ensures p in
    let sent = laws.sent x own far ways h in
    let played = laws.played x own far ways h in
    with_one p x new_own new_far ways next h.in_range h.clock
    (party_more P Q own w v one new_own (Play ∷ w.past) v [] refl refl told.ensures.way.kept refl
    (omega (arith, may, sent, played, told.ensures.played)) (omega (
      arith,
      told.ensures.counted,
      told.ensures.played,
      one.counted,
    )) done (told.ensures.way.can own.sender one.can) (sym (append-nil (carried_from Q v))) waits)
    (party_waits Q P far v w two c.put_by.new.waiting next (said_as P.clock n told.result.message) more said)

pub returns-clause-ready : goal.returns-clause-ready
returns-clause-ready c =
    let e = c.requires in
    record {
      params = e.params;
      party = e.party;
      ways = with_play (sides e.params) e.party e.ways;
      holds = returns-clause-holds c e.params e.party e.ways e.left e.holds e.may;
    }

pub returns-clause-keeps : goal.returns-clause-keeps
returns-clause-keeps c = record {
  own_params = refl;
  far_params = refl;
  own_sender = refl;
  far_sender = refl;
  far_receiver = refl;
}
