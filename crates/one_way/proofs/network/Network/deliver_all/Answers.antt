-- The packets before the place were delivered, in their order.
use Rattle.std.proofs.Common.{◌≡◌, ℕ, suc, ◌+◌, ◌++◌, length, sym, ap, subst, ◌∙◌, arith}
use Rattle.h263_types.specs.declared.blocks.Mb.{Mb}
use Rattle.h263_planes.specs.Picture.{Picture}
use Rattle.call_model.specs.IdealCall.{Deliver, slices_at}
use Rattle.call_model.specs.Sending.{SenderRun}
use Rattle.call_decoding.specs.Rules.{rules_of}
use Rattle.call_decoding.specs.Styles.{Style}
use Rattle.coded_call.specs.Coding.{coding}
use Rattle.receiver_end.specs.State as receiver_end
use Rattle.one_way.specs.declared.way.Way.{Way}
use Rattle.one_way.specs.Both.{both_after, steady}
use Rattle.one_way.specs.Trace.{delivered}
use Rattle.one_way.specs.Way.{HoldsNetwork, IsAmongLast, MayHappenNow, way_of}
use Rattle.one_way.proofs.BothAfter.{played_delivered, sender_delivered}
use Rattle.one_way.proofs.network.Network.deliver_all.Goals as goal

pub packets-preserved : goal.packets-preserved
packets-preserved c = record {
  params = c.deliver.ensures.params ∙ c.packets.invariant.params;
  played = c.deliver.ensures.played ∙ c.packets.invariant.played;
  few = omega (arith, c.deliver.ensures.few, c.packets.invariant.few);
  way = c.deliver.ensures.way ∙ c.packets.invariant.way;
  holds = λ p sender before frames past h among near.
      let n = c.args.number in
      let i = c.packets.place in
      let w = both_after p (steady p) frames before past in
      let begun = receiver_end.run_of p before in
      let same = sender_delivered (coding p) (rules_of p) begun (steady p) frames n i past in
      let coded : length (both_after p (steady p) frames before (delivered n i ++ past)).sender.coded
      ≡ length w.sender.coded =
      ap (λ (run : SenderRun Style Mb Picture). length run.coded) same
      in
      let played = played_delivered (coding p) (rules_of p) begun (steady p) frames n i past in
      let here : MayHappenNow p before frames (delivered n i ++ past) (Deliver n i) = (
        omega (arith, near.0, coded),
        omega (arith, near.1, played),
      ) in
      let there : IsAmongLast (way_of c.packets.self) (length (both_after p (steady p) frames before (delivered n i
      ++ past)).sender.coded) n =
      subst (λ (way : Way). IsAmongLast way (length (both_after p (steady p) frames before (delivered n i
      ++ past)).sender.coded) n) (sym c.packets.invariant.way)
      (subst (λ (run : SenderRun Style Mb Picture). IsAmongLast (way_of c.args.self.now) (length run.coded) n)
      (sym same) among)
      in
      let next : suc i ≡ i + 1 = omega arith in
      subst (λ (k : ℕ). HoldsNetwork p c.deliver.new.self sender c.deliver.new.receiver before frames (delivered n k
      ++ past)) next
      (c.deliver.ensures.holds p sender before frames (delivered n i
      ++ past) (c.packets.invariant.holds p sender before frames past h among near) there here);
}

pub returns-clause-holds : goal.returns-clause-holds
returns-clause-holds c = λ p sender before frames past h among near.
    let n = c.args.number in
    let all : c.packets.place ≡ length (slices_at (both_after p (steady p) frames before past).sender.coded n) =
    omega (
      arith,
      c.packets-test.false,
      c.packets.auto.place-end,
      c.count-count.ensures.slices p sender c.args.receiver.now before frames past h.way_holds among,
    )
    in
    subst (λ (k : ℕ). HoldsNetwork p c.packets.self sender c.packets.receiver before frames (delivered n k ++ past)) all
    (c.packets.invariant.holds p sender before frames past h among near)
