-- The picture that is sent carries the last messages that wait, at most four.
use Rattle.std.proofs.Common.{◌≡◌, ℕ, List, [], ◌∷◌, length, Option, Some, take, refl, sym, ap, subst, ◌∙◌}
use Rattle.std.specs.Prelude.{drop, map, slice_get}
use Rattle.h263_types.specs.declared.clock.Clock.{Clock}
use Rattle.h263_types.specs.declared.params.Params.{Params}
use Rattle.h263_planes.specs.Lent.{picture as lent}
use Rattle.picture_header.specs.Ranges.{AreMessages}
use Rattle.back_messages.specs.declared.message.Message.{Message}
use Rattle.call_encoding.specs.Frames.{Frame}
use Rattle.call_encoding.specs.Messages.{marked_message}
use Rattle.duplex_call.specs.declared.queue.Carried.{Carried}
use Rattle.duplex_call.specs.Duplex.{messages_at, other, way, with_capture}
use Rattle.duplex_call.specs.Waiting.{last_four, in_four_places}
use Rattle.one_way.specs.Both.{carrying}
use Rattle.one_way.specs.Counts.{total_of}
use Rattle.duplex_ends.specs.declared.party.PartyEnds.{PartyEnds}
use Rattle.duplex_ends.specs.Bringing.{carried_in, carried_message}
use Rattle.duplex_ends.specs.Ways.{sides, carried_from}
use Rattle.duplex_ends.proofs.Agreeing.{agree, ideally}
use Rattle.duplex_ends.proofs.Captures.{frame, near_send, numbers, party_sent, said, same_messages, captured, waiting, waiting_fit}
use Rattle.duplex_ends.proofs.Deliveries.{with_one}
use Rattle.duplex_ends.proofs.Lists.{carried_placed, get_last, last_few}
use Rattle.duplex_ends.proofs.Runs.{party_same, told_sent}
use Rattle.duplex_ends.proofs.party.PartyEnds.send.Goals as goal

pub send-number-requires-clause-back : goal.send-number-requires-clause-back
send-number-requires-clause-back c =
    let e = c.requires.held.both in
    let p = e.params in
    let x = e.party in
    let w = way x e.ways in
    let v = way (other x) e.ways in
    let one = e.holds.own_holds in
    let told = carried_from (p (other x)) v in
    let fit : AreMessages (p (other x)).clock (map carried_message (last_four (drop w.loaded told))) =
    waiting_fit (p (other x)).clock told w.loaded ((c.said_laws.ensures (p (other x)) (e.holds.in_range (other x))).fit
    v)
    in
    let is : take c.put_messages-count.result c.put_messages-count.new.messages
    ≡ map carried_message (last_four (drop w.loaded told)) =
    c.put_messages-count.ensures.messages
    ∙ ap (λ (l : List (Option Carried)). map carried_message (carried_in l))
    (c.load-header.ensures.places (drop w.loaded told) one.waits)
    ∙ ap (λ (l : List Carried). map carried_message l) (carried_placed (last_four (drop w.loaded told))
    (last_few (drop w.loaded told)))
    in
    let clock : (p (other x)).clock ≡ c.args.self.now.sender.params.clock = sym e.holds.clock
    ∙ ap (λ (q : Params). q.clock) (sym one.done.joined.sender_params) in
    subst (λ (l : List Message). AreMessages c.args.self.now.sender.params.clock l) (sym is)
    (subst (λ (clock : Clock). AreMessages clock (map carried_message (last_four (drop w.loaded told)))) clock fit)

pub send-number-requires-clause-frame : goal.send-number-requires-clause-frame
send-number-requires-clause-frame c =
    let one = c.requires.held.both.holds.own_holds in
    c.requires.frame ∙ ap (λ (p : Params). p.format) (one.params ∙ sym one.done.joined.sender_params)

pub send-number-requires-clause-ready : goal.send-number-requires-clause-ready
send-number-requires-clause-ready c = c.requires.held.both.holds.own_holds.can

pub returns-clause-holds : goal.returns-clause-holds
returns-clause-holds c = λ p x far ways left h may.
    let P = p x in
    let Q = p (other x) in
    let w = way x ways in
    let v = way (other x) ways in
    let one = h.own_holds in
    let two = h.far_holds in
    let own = c.args.self.now in
    let picture = lent c.args.frame in
    let told = carried_from Q v in
    let next = captured P Q own w v one picture in
    let new_frame = frame P Q own w v one picture in
    let messages = waiting P Q own w v one picture in
    let loaded : c.load-header.result ≡ in_four_places messages = c.load-header.ensures.places
    (drop w.loaded told) one.waits in
    let back : take c.put_messages-count.result c.put_messages-count.new.messages
    ≡ map marked_message (messages_at (said P Q own w v one picture) (numbers P Q own w v one picture)) =
    c.put_messages-count.ensures.messages
    ∙ ap (λ (l : List (Option Carried)). map carried_message (carried_in l)) loaded
    ∙ ap (λ (l : List Carried). map carried_message l) (carried_placed messages (last_few (drop w.loaded told)))
    ∙ sym (same_messages P Q own w v one picture)
    in
    let at : slice_get next.frames own.sender.sent
    ≡ Some (carrying picture (take c.put_messages-count.result c.put_messages-count.new.messages)) =
    ap (λ (k : ℕ). slice_get next.frames k) one.sent ∙ get_last w.frames new_frame
    ∙ ap (λ (l : List Message). let f : Option Frame = Some (carrying picture l) in f) (sym back)
    in
    let calls = c.call_laws.ensures P (h.in_range x) in
    let nears = c.near_event_laws.ensures P (h.in_range x) in
    let laws = c.way_laws.ensures P in
    let coded = laws.sent own.sender own.far_end [] w.frames w.past one.done.joined in
    let near = near_send P Q own w v one picture (c.later_frames.ensures P)
    (agree P (h.in_range x) calls nears own.way own.sender own.far_end w one.done) coded left may in
    let held = laws.later own.way own.sender own.far_end [] w.frames (new_frame ∷ []) w.past one.done in
    let done = c.send-number.ensures.holds P own.far_end [] next.frames w.past held at near in
    let number : c.send-number.result ≡ length one.carries.headers =
    c.send-number.ensures.number ∙ one.sent ∙ sym one.headers ∙ sym one.carries.count
    in
    let new : PartyEnds = record own {
      sender = c.send-number.new.sender;
      way = c.send-number.new.self;
      carried = c.note.new.self;
      waiting = c.load-header.new.self;
    } in
    with_one p x new far ways next h.in_range h.clock
    (party_sent P Q own w v one picture new refl done (c.send-number.ensures.ready) c.send-number.ensures.kept
    c.send-number.ensures.sent c.requires.left refl
    (ap total_of c.send-number.ensures.tally) c.note.ensures.kept
    (c.note.ensures.holds one.carries.headers messages one.carries.holds number loaded) c.load-header.ensures.none)
    (party_same Q P far v w two next
    (told_sent P (c.later_calls.ensures P) w (new_frame ∷ []) next.carried next.loaded
    (ideally P (h.in_range x) calls nears own.way own.sender own.far_end w one.done)))

pub returns-clause-ready : goal.returns-clause-ready
returns-clause-ready c = λ far e. record {
  params = e.params;
  party = e.party;
  ways = with_capture (sides e.params) e.party (lent c.args.frame) e.ways;
  holds = returns-clause-holds c e.params e.party far e.ways e.left e.holds e.may;
}
