-- The packets before the place were delivered, in their order.
use Rattle.std.proofs.Common.{◌≡◌, ◌+◌, ℕ, suc, [], length, refl, subst, ◌∙◌, arith}
use Rattle.call_model.specs.IdealCall.{slices_at}
use Rattle.duplex_call.specs.Duplex.{other, way}
use Rattle.duplex_ends.specs.Pair.{HoldsPair}
use Rattle.duplex_ends.specs.Ways.{call_in, with_places}
use Rattle.duplex_ends.proofs.Deliveries.{count_so, may_places}
use Rattle.duplex_ends.proofs.events.deliver_all.Goals as goal

pub packets-init : goal.packets-init
packets-init c = record {
  ready = record {
    params = c.requires.params;
    party = c.requires.party;
    ways = c.requires.ways;
    holds = c.requires.holds;
  };
  keeps = record {
    own_params = refl;
    far_params = refl;
    own_sender = refl;
    far_sent = refl;
    own_played = refl;
    far_receiver = refl;
  };
  holds = λ p x ways left h may. h;
}

pub deliver-requires : goal.deliver-requires
deliver-requires c =
    let e = c.requires in
    let n = c.args.number in
    let i = c.packets.place in
    record {
      params = e.params;
      party = e.party;
      ways = with_places e.params e.party n i e.ways;
      left = e.left;
      holds = c.packets.invariant.holds e.params e.party e.ways e.left e.holds e.may;
      may = may_places e.params e.party e.ways e.left n i 0 i e.may;
    }

pub packets-preserved : goal.packets-preserved
packets-preserved c =
    let n = c.args.number in
    let i = c.packets.place in
    let now = c.deliver.ensures in
    let old = c.packets.invariant in
    let next : suc i ≡ i + 1 = omega arith in
    record {
      ready = now.ready;
      keeps = record {
        own_params = now.keeps.own_params ∙ old.keeps.own_params;
        far_params = now.keeps.far_params ∙ old.keeps.far_params;
        own_sender = now.keeps.own_sender ∙ old.keeps.own_sender;
        far_sent = now.keeps.far_sent ∙ old.keeps.far_sent;
        own_played = now.keeps.own_played ∙ old.keeps.own_played;
        far_receiver = now.keeps.far_receiver ∙ old.keeps.far_receiver;
      };
      holds = λ p x ways left h may.
          subst (λ (k : ℕ). HoldsPair p x c.deliver.new.own c.deliver.new.far (with_places p x n k ways)) next
          (now.holds p x (with_places p x n i ways) left (old.holds p x ways left h may)
          (may_places p x ways left n i 0 i may));
    }

pub returns-clause-holds : goal.returns-clause-holds
returns-clause-holds c = λ p x ways left h may.
    let n = c.args.number in
    let w = way x ways in
    let one = h.own_holds in
    let own = c.args.own.now in
    let many = count_so (p x) (p (other x)) (h.in_range x) (c.call_laws.ensures (p x) (h.in_range x))
    (c.near_event_laws.ensures (p x) (h.in_range x)) own w (way (other x) ways) one left n 0 may.0
    c.count-count.result (c.count-count.ensures.slices (p x) own.sender own.far_end [] w.frames w.past one.done)
    in
    let all : c.packets.place ≡ length (slices_at (call_in p x ways).coded n) =
    omega (arith, c.packets-test.false, c.packets.auto.place-end, many)
    in
    subst (λ (k : ℕ). HoldsPair p x c.packets.own c.packets.far (with_places p x n k ways)) all
    (c.packets.invariant.holds p x ways left h may)
