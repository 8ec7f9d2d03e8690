-- Each kind of line of a made trace is done, since none of them can be refused.
use Rattle.std.proofs.Common.{◌<◌, ◌≤◌, List, [], ◌∷◌, length, refl, ap, subst, ◌∙◌, arith}
use Rattle.h263_types.specs.Sizes.{mbs_of}
use Rattle.h263_types.specs.declared.params.Params.{Params}
use Rattle.h263_types.specs.declared.format.Format.{Format}
use Rattle.h263_types.specs.declared.format.Format.TheVariants.{SubQcif, Qcif, Cif}
use Rattle.loss_trace.specs.declared.event.Event.{Event as Line}
use Rattle.loss_trace.specs.declared.event.Event.TheVariants as says
use Rattle.call_model.specs.IdealCall.{Event as Happens, Play, Back}
use Rattle.one_way.specs.Both.{both_after, steady}
use Rattle.demo_command.specs.declared.demo.Demo.{Demo}
use Rattle.demo_command.specs.Demo.{made_video}
use Rattle.demo_command.specs.Machine.{AreInPlace, DemoHasDone}
use Rattle.demo_command.proofs.Doing.{all_are, as_line, may_deliver, may_now, near_first, ready_delivered}
use Rattle.demo_command.proofs.Made.{steady_is}
use Rattle.demo_command.proofs.demo.Demo.take_line.Goals as goal

few_mbs : (f : Format) → mbs_of f ≤ 396
few_mbs SubQcif = omega arith
few_mbs Qcif = omega arith
few_mbs Cif = omega arith

pub send_made-requires-clause-left : goal.send_made-requires-clause-left
send_made-requires-clause-left c =
    (subst (λ (l : Line). AreInPlace 10000 c.args.self.now.both.sender.sent (l ∷ [])) c.in-Send.is
    c.requires.in_place).0

pub returns-in-Send-clause-done : goal.returns-in-Send-clause-done
returns-in-Send-clause-done c = λ past h.
    as_line c.args.self.now.terms past says.Send c.args.event (DemoHasDone c.send_made.new.self) c.in-Send.is
    (c.send_made.ensures.done past h)

pub returns-in-Packet-clause-ready : goal.returns-in-Packet-clause-ready
returns-in-Packet-clause-ready c = ready_delivered c.args.self.now c.requires.ready c.deliver.new.self
    c.deliver.new.receiver c.deliver.ensures.way c.deliver.ensures.played

pub returns-in-Packet-clause-done : goal.returns-in-Packet-clause-done
returns-in-Packet-clause-done c = λ past h.
    let m = c.args.self.now in
    let p = m.terms.params in
    let n = c.in-Packet.number in
    let j = c.in-Packet.place in
    let r = c.requires.ready in
    as_line m.terms past (says.Packet n j) c.args.event
    (DemoHasDone (record m {
      both = record m.both { receiver = c.deliver.new.receiver };
      network = c.deliver.new.self;
    })) c.in-Packet.is
    (λ near.
    let may = may_deliver m r (c.near_event_laws.ensures p r.params) past h n j near in
    c.deliver.ensures.holds p m.both.sender [] (made_video m.terms) past h may.0 may.1)

pub returns-in-All-clause-ready : goal.returns-in-All-clause-ready
returns-in-All-clause-ready c = ready_delivered c.args.self.now c.requires.ready c.deliver_all.new.self
    c.deliver_all.new.receiver c.deliver_all.ensures.way c.deliver_all.ensures.played

pub deliver_all-requires : goal.deliver_all-requires
deliver_all-requires c = omega (
  arith,
  c.requires.said,
  c.requires.ready.can.most,
  few_mbs c.args.self.now.both.sender.params.format,
)

pub returns-in-All-clause-said : goal.returns-in-All-clause-said
returns-in-All-clause-said c = omega (
  arith,
  c.deliver_all.ensures.few,
  c.requires.ready.can.most,
  few_mbs c.args.self.now.both.sender.params.format,
)

pub returns-in-All-clause-done : goal.returns-in-All-clause-done
returns-in-All-clause-done c = λ past h.
    let m = c.args.self.now in
    let t = m.terms in
    let p = t.params in
    let n = c.in-All.number in
    let r = c.requires.ready in
    let made = c.made_laws.ensures t r.params in
    let same = c.ends_agree.ensures p (made_video t) past r.params h.way_holds.near in
    let after : Demo = record m {
      both = record m.both { receiver = c.deliver_all.new.receiver };
      network = c.deliver_all.new.self;
    } in
    let placed : n < m.both.sender.sent =
    (subst (λ (l : Line). AreInPlace 10000 m.both.sender.sent (l ∷ [])) c.in-All.is c.requires.in_place).0 in
    let coded = (c.way_laws.ensures p).sent m.both.sender m.both.receiver [] (made_video t) past h.way_holds.joined in
    let sent : n < length (both_after p (steady p) (made_video t) [] past).sender.coded = omega (
      arith,
      placed,
      coded,
    ) in
    as_line t past (says.All n) c.args.event (DemoHasDone after) c.in-All.is
    (λ near.
    let may = may_deliver m r (c.near_event_laws.ensures p r.params) past h n 0
    (near_first t made past same n sent near) in
    subst (λ (l : List Happens). DemoHasDone after l) (all_are t made past same n)
    (c.deliver_all.ensures.holds p m.both.sender [] (made_video t) past h may.0 may.1))

pub returns-in-Back-clause-ready : goal.returns-in-Back-clause-ready
returns-in-Back-clause-ready c =
    let r = c.requires.ready in
    let back = c.bring_back.ensures in
    record {
      params = r.params;
      frame = r.frame;
      sender_params = back.same.params ∙ r.sender_params;
      can = back.ready r.can;
      period = r.period;
      few = omega (arith, back.sent, r.few);
      counted = r.counted;
    }

pub returns-in-Back-clause-done : goal.returns-in-Back-clause-done
returns-in-Back-clause-done c = λ past h.
    let m = c.args.self.now in
    let t = m.terms in
    let p = t.params in
    let k = c.in-Back.message in
    let r = c.requires.ready in
    as_line t past (says.Back k) c.args.event
    (DemoHasDone (record m { both = record m.both { sender = c.bring_back.new.sender } })) c.in-Back.is
    (λ near.
    c.bring_back.ensures.holds p m.both.receiver [] (made_video t) past r.params (r.can.quant_is
    ∙ ap (λ (q : Params). q.quant) r.sender_params) refl h
    (may_now t (c.near_event_laws.ensures p r.params) (steady_is p r.params) past (Back k) near))

pub returns-in-Play-clause-ready : goal.returns-in-Play-clause-ready
returns-in-Play-clause-ready c =
    let m = c.args.self.now in
    let r = c.requires.ready in
    let way = c.play.ensures.way in
    record {
      params = r.params;
      frame = r.frame;
      sender_params = r.sender_params;
      can = way.can m.both.sender r.can;
      period = way.kept ∙ r.period;
      few = r.few;
      counted = omega (arith, c.play.ensures.counted, r.counted, c.play.ensures.played);
    }

pub returns-in-Play-clause-done : goal.returns-in-Play-clause-done
returns-in-Play-clause-done c = λ past h.
    let m = c.args.self.now in
    let t = m.terms in
    let p = t.params in
    let r = c.requires.ready in
    as_line t past says.Play c.args.event (DemoHasDone (record m {
      both = record m.both { receiver = c.play.new.receiver };
      network = c.play.new.self;
    })) c.in-Play.is
    (λ near. c.play.ensures.holds p m.both.sender [] (made_video t) past h
    (may_now t (c.near_event_laws.ensures p r.params) (steady_is p r.params) past Play near))
