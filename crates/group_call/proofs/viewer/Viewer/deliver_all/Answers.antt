use Rattle.std.proofs.Common.{◌≡◌, ℕ, suc, ◌+◌, length, subst, ◌∙◌, arith}
use Rattle.group_call.specs.Holding.{HoldsViewer}
use Rattle.group_call.specs.Viewing.{coded_packets, view_places}
use Rattle.group_call.proofs.viewer.Viewer.deliver_all.Goals as goal

pub packets-preserved : goal.packets-preserved
packets-preserved c = record {
  params = c.deliver.ensures.params ∙ c.packets.invariant.params;
  played = c.deliver.ensures.played ∙ c.packets.invariant.played;
  few = omega (arith, c.deliver.ensures.few, c.packets.invariant.few);
  tally = c.deliver.ensures.tally ∙ c.packets.invariant.tally;
  holds = λ p run view cast among h.
      let n = c.args.number in
      let i = c.packets.place in
      let packets = coded_packets p run.coded n in
      let next : suc i ≡ i + 1 = omega arith in
      subst (λ (k : ℕ). HoldsViewer p c.deliver.new.self (view_places p packets n k view)) next
      (c.deliver.ensures.holds p run (view_places p packets n i view) cast among
      (c.packets.invariant.holds p run view cast among h));
}

pub returns-clause-holds : goal.returns-clause-holds
returns-clause-holds c = λ p run view cast among h.
    let n = c.args.number in
    let packets = coded_packets p run.coded n in
    let all : c.packets.place ≡ length packets =
    omega (arith, c.packets-test.false, c.packets.auto.place-end, c.count-count.ensures.packets p run cast among)
    in
    subst (λ (k : ℕ). HoldsViewer p c.packets.self (view_places p packets n k view)) all
    (c.packets.invariant.holds p run view cast among h)
