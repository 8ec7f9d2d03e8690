-- A delivery is refused exactly where its picture or one of its messages may not happen.
use Rattle.std.proofs.Common.{◌≡◌, ◌+◌, length, [], List, Option, None, Result, Err, sym, ap, subst, ◌∙◌}
use Rattle.std.specs.Prelude.{slice_index_or}
use Rattle.h263_types.specs.declared.clock.Clock.{Clock}
use Rattle.h263_types.specs.declared.params.Params.{Params}
use Rattle.h263_types.specs.Clocks.{half_of}
use Rattle.call_model.specs.IdealCall.{Deliver}
use Rattle.call_model.specs.Refusals as call
use Rattle.call_model.specs.Refusals.{first_refusal}
use Rattle.call_decoding.specs.Rules.{rules_of}
use Rattle.duplex_call.specs.declared.queue.Carried.{Carried}
use Rattle.duplex_call.specs.Duplex.{other, way}
use Rattle.duplex_call.specs.Refused.{heard_refusal, own_refusal, refusal_of}
use Rattle.one_way.specs.declared.refusals.EventRefusal.{EventRefusal}
use Rattle.one_way.specs.Refused.{IsAllowed, refusal_after}
use Rattle.one_way.specs.Seen.{Seen, in_call}
use Rattle.duplex_ends.specs.Bringing.{carried_in, first_far}
use Rattle.duplex_ends.specs.Pair.{MayHappenToParty}
use Rattle.duplex_ends.specs.Ways.{call_by, call_in, sides}
use Rattle.duplex_ends.proofs.Deliveries.{header_now}
use Rattle.duplex_ends.proofs.Lists.{carried_placed}
use Rattle.duplex_ends.proofs.Refusals.{any_packet, first_allowed, first_refused, heard_is, may_of}
use Rattle.duplex_ends.proofs.checks.check_delivery.Goals as goal

pub returns-in-Ok-clause-refusal : goal.returns-in-Ok-clause-refusal
returns-in-Ok-clause-refusal c = λ p x ways left place h.
    let P = p x in
    let Q = p (other x) in
    let w = way x ways in
    let v = way (other x) ways in
    let one = h.own_holds in
    let n = c.args.number in
    let nears = c.near_event_laws.ensures P (h.in_range x) in
    let seen = in_call (call_in p x ways) in
    let same = c.ends_agree.ensures P w.frames w.past (h.in_range x) one.done.near in
    let half : c.half-half.result ≡ half_of P.clock = c.half-half.ensures
    ∙ ap (λ (q : Params). half_of q.clock) one.params in
    let far_half : c.half-half.result ≡ half_of Q.clock = half ∙ ap (λ (clock : Clock). half_of clock) h.clock in
    let before : refusal_after P [] w.frames w.past (Deliver n place)
    ≡ None = c.in-Ok.ensures P [] w.frames w.past place half one.done.joined in
    let none : own_refusal (sides p) left x w (Deliver n place) ≡ None =
    any_packet (rules_of P) (length seen.coded) seen.played seen.abouts left (length seen.coded + 1) n place
    ∙ sym (ap (λ (seen : Seen). first_refusal (rules_of P) (length seen.coded + 1) (length seen.coded) seen.played
    seen.abouts (Deliver n place)) same) ∙ before
    in
    let there = header_now P Q nears c.args.own.now w v one n place (nears.deliver [] w.frames w.past n place before)
    ((c.way_laws.ensures P).sent c.args.own.now.sender c.args.own.now.far_end [] w.frames w.past one.done.joined)
    in
    let messages = slice_index_or one.carries.headers n [] in
    let is : carried_in c.get.result ≡ messages =
    ap (λ (l : List (Option Carried)). carried_in l) (c.get.ensures one.carries.headers one.carries.holds there.0
    there.1) ∙ carried_placed messages (one.carries.few n)
    in
    let ks = slice_index_or w.carried n [] in
    let laws = c.pair_laws.ensures p in
    let sent : c.sent.result ≡ length (call_by Q v).coded = c.sent.ensures.value
    ∙ laws.sent (other x) c.args.far.now c.args.own.now ways (laws.exchanged x c.args.own.now c.args.far.now ways h)
    in
    let heard : IsAllowed (first_far (half_of Q.clock) (length (call_by Q v).coded) messages) (Deliver n place)
    (heard_refusal (sides p) (other x) v ks) = heard_is p (other x) v n place ks messages (one.carries.each n) in
    let result : c.check_header.result ≡ first_far (half_of Q.clock) (length (call_by Q v).coded) messages =
    c.check_header.ensures ∙ (λ i. first_far (far_half i) (sent i) (is i))
    in
    first_allowed c.check_header.result (Deliver n place) (own_refusal (sides p) left x w (Deliver n place))
    (heard_refusal (sides p) (other x) v ks) none
    (subst (λ (r : Result Unit EventRefusal). IsAllowed r (Deliver n place) (heard_refusal (sides p) (other x) v ks))
    (sym result) heard)

pub returns-in-Ok-clause-may : goal.returns-in-Ok-clause-may
returns-in-Ok-clause-may c = λ place.
    let e = c.requires in
    may_of (MayHappenToParty c.args.own.now c.args.far.now (Deliver c.args.number place)) c.check_header.result
    (Deliver c.args.number place)
    (refusal_of (sides e.params) 0 e.party (Deliver c.args.number place) e.ways)
    (returns-in-Ok-clause-refusal c e.params e.party e.ways 0 place e.holds)
    (λ none. record {
      params = e.params;
      party = e.party;
      ways = e.ways;
      left = 0;
      holds = e.holds;
      may = (c.refused_exactly.ensures e.params 0 e.party (Deliver c.args.number place) e.ways).0 none;
    })

pub returns-in-Err-clause-refusal : goal.returns-in-Err-clause-refusal
returns-in-Err-clause-refusal c = λ p x ways left place h.
    let P = p x in
    let w = way x ways in
    let one = h.own_holds in
    let n = c.args.number in
    let seen = in_call (call_in p x ways) in
    let same = c.ends_agree.ensures P w.frames w.past (h.in_range x) one.done.near in
    let half : c.half-half.result ≡ half_of P.clock = c.half-half.ensures
    ∙ ap (λ (q : Params). half_of q.clock) one.params in
    let before : IsAllowed (Err c.in-Err.refusal) (Deliver n place) (refusal_after P [] w.frames w.past
    (Deliver n place)) = c.in-Err.ensures P [] w.frames w.past place half one.done.joined in
    let own : IsAllowed (Err c.in-Err.refusal) (Deliver n place) (own_refusal (sides p) left x w (Deliver n place)) =
    subst (λ (o : Option call.Refusal). IsAllowed (Err c.in-Err.refusal) (Deliver n place) o)
    (ap (λ (seen : Seen). first_refusal (rules_of P) (length seen.coded + 1) (length seen.coded) seen.played seen.abouts
    (Deliver n place)) same
    ∙ any_packet (rules_of P) (length seen.coded) seen.played seen.abouts (length seen.coded + 1) left n place)
    before
    in
    first_refused c.in-Err.refusal (Deliver n place) (own_refusal (sides p) left x w (Deliver n place))
    (heard_refusal (sides p) (other x) (way (other x) ways) (slice_index_or w.carried n [])) own
