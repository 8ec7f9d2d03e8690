-- The messages of a header are brought where a packet stands at the place, and else none.
use Rattle.std.proofs.Common.{◌≡◌, ℕ, List, [], Option, sym, ap, subst, ◌∙◌, arith}
use Rattle.std.specs.Prelude.{slice_index_or}
use Rattle.h263_types.specs.declared.clock.Clock.{Clock}
use Rattle.h263_types.specs.declared.params.Params.{Params}
use Rattle.duplex_call.specs.declared.queue.Carried.{Carried}
use Rattle.duplex_call.specs.Duplex.{brought, other, way}
use Rattle.one_way.specs.Both.{State, both_after, steady}
use Rattle.one_way.specs.Way.{HoldsWay}
use Rattle.duplex_ends.specs.Bringing.{AreOfClock, MayReturnAll, carried_in}
use Rattle.duplex_ends.specs.Ways.{carried_from}
use Rattle.duplex_ends.proofs.Deliveries.{brings_all, brings_none, count_so, header_there, may_return}
use Rattle.duplex_ends.proofs.Lists.{carried_placed}
use Rattle.duplex_ends.proofs.Said.{numbered_fit}
use Rattle.duplex_ends.proofs.events.bring_carried.Goals as goal

pub returns-then-place-count-clause-holds : goal.returns-then-place-count-clause-holds
returns-then-place-count-clause-holds c = λ p x ways left far h same may.
    let w = way x ways in
    let v = way (other x) ways in
    let one = h.own_holds in
    let n = c.args.number in
    let own = c.args.own.now in
    let many = count_so (p x) (p (other x)) (h.in_range x) (c.call_laws.ensures (p x) (h.in_range x))
    (c.near_event_laws.ensures (p x) (h.in_range x)) own w v one left n c.args.place may.0
    c.count.result (c.count.ensures.slices (p x) own.sender own.far_end [] w.frames w.past one.done)
    in
    let none = brings_none p x w n c.args.place c.count.result many (omega (arith, c.if-place-count.true)) in
    subst (λ (ks : List ℕ). HoldsWay (p (other x)) far.way c.args.sender.now far.far_end [] v.frames
    (brought ks v.past)) (sym none)
    (subst (λ (s : State). HoldsWay (p (other x)) far.way s far.far_end [] v.frames v.past) same h.far_holds.done)

pub bring_header-requires : goal.bring_header-requires
bring_header-requires c =
    let e = c.requires.now in
    let p = e.params in
    let x = e.party in
    let w = way x e.ways in
    let v = way (other x) e.ways in
    let h = e.holds.own_holds in
    let sent = h.done.joined in
    let there = header_there (p x) (p (other x)) (e.holds.in_range x) (c.call_laws.ensures (p x) (e.holds.in_range x))
    (c.near_event_laws.ensures (p x) (e.holds.in_range x))
    c.args.own.now w v h e.left c.args.number c.args.place e.may.0
    ((c.way_laws.ensures (p x)).sent c.args.own.now.sender c.args.own.now.far_end [] w.frames w.past h.done.joined)
    in
    let messages = slice_index_or h.carries.headers c.args.number [] in
    let is : carried_in c.get-header.result ≡ messages =
    ap (λ (l : List (Option Carried)). carried_in l) (c.get-header.ensures h.carries.headers h.carries.holds there.0
    there.1) ∙ carried_placed messages (h.carries.few c.args.number)
    in
    let fit : AreOfClock (p (other x)).clock messages =
    numbered_fit (p (other x)).clock (carried_from (p (other x)) v) (slice_index_or w.carried c.args.number []) messages
    ((c.said_laws.ensures (p (other x)) (e.holds.in_range (other x))).fit v) (h.carries.each c.args.number)
    in
    subst (λ (l : List Carried). AreOfClock c.args.own.now.params.clock l) (sym is)
    (subst (λ (clock : Clock). AreOfClock clock messages) (sym (ap (λ (p : Params). p.clock) h.params
    ∙ e.holds.clock)) fit)

pub returns-clause-holds : goal.returns-clause-holds
returns-clause-holds c = λ p x ways left far h same may.
    let w = way x ways in
    let v = way (other x) ways in
    let P = p x in
    let Q = p (other x) in
    let one = h.own_holds in
    let two = h.far_holds in
    let n = c.args.number in
    let calls = c.call_laws.ensures P (h.in_range x) in
    let nears = c.near_event_laws.ensures P (h.in_range x) in
    let own = c.args.own.now in
    let many = count_so P Q (h.in_range x) calls nears own w v one left n c.args.place may.0
    c.count.result (c.count.ensures.slices P own.sender own.far_end [] w.frames w.past one.done)
    in
    let all = brings_all p x w n c.args.place c.count.result many (omega (arith, c.if-place-count.false)) in
    let there = header_there P Q (h.in_range x) calls nears c.args.own.now w v one left n c.args.place may.0
    ((c.way_laws.ensures P).sent c.args.own.now.sender c.args.own.now.far_end [] w.frames w.past one.done.joined)
    in
    let messages = slice_index_or one.carries.headers n [] in
    let is : carried_in c.get-header.result ≡ messages =
    ap (λ (l : List (Option Carried)). carried_in l) (c.get-header.ensures one.carries.headers one.carries.holds there.0
    there.1) ∙ carried_placed messages (one.carries.few n)
    in
    let ks = slice_index_or w.carried n [] in
    let far_calls = c.call_laws.ensures Q (h.in_range (other x)) in
    let far_nears = c.near_event_laws.ensures Q (h.in_range (other x)) in
    let return = may_return p (other x) (h.in_range (other x)) far_calls far_nears far v two.done ks messages
    (one.carries.each n) may.1 in
    let done : HoldsWay Q far.way c.args.sender.now far.far_end [] v.frames v.past =
    subst (λ (s : State). HoldsWay Q far.way s far.far_end [] v.frames v.past) same two.done in
    let quant : c.args.sender.now.pace.quant ≡ Q.quant =
    ap (λ (s : State). s.pace.quant) (sym same) ∙ two.can.quant_is
    ∙ ap (λ (q : Params). q.quant) two.done.joined.sender_params
    in
    subst (λ (ks : List ℕ). HoldsWay Q far.way c.bring_header.new.sender far.far_end [] v.frames (brought ks v.past))
    (sym all)
    (c.bring_header.ensures.holds Q far.way far.far_end v.frames v.past ks quant done
    (subst (λ (l : List Carried). MayReturnAll Q (both_after Q (steady Q) v.frames [] v.past) ks l) (sym is) return))
