-- The picture that is sent, its packets and its reference are those of the group's run.
use Rattle.std.proofs.Common.{◌≡◌, ℕ, ◌<◌, ◌*◌, ◌≤◌, List, [], ◌∷◌, ◌++◌, length, Option, sym, ap, subst, ◌∙◌, arith}
use Rattle.h263_types.specs.Params.{IsParams}
use Rattle.h263_types.specs.Sizes.{mbs_of}
use Rattle.h263_types.specs.declared.params.Params.{Params}
use Rattle.h263_types.specs.declared.pace.FixedPace.{FixedPace}
use Rattle.h263_planes.specs.Lent.{picture}
use Rattle.call_rings.specs.Keeping.{most_of, ring_room}
use Rattle.call_rings.specs.Parts.{total_size}
use Rattle.sender_end.specs.Stands.{Describes}
use Rattle.one_way.specs.Both.{bare, steady}
use Rattle.one_way.specs.References.{AreNoted}
use Rattle.group_sender.specs.Holding.{HoldsGroup, group_after_code, next_of_group}
use Rattle.group_call.proofs.Casting.{newest_packets, newest_room, paced, sent_is}
use Rattle.group_call.proofs.broadcast.Broadcast.send.Goals as goal

pub keep_packets-requires-clause-room : goal.keep_packets-requires-clause-room
keep_packets-requires-clause-room c =
    let p = c.args.self.now.group.params in
    let group = c.code-coded.new.self in
    let run = c.requires.ready.run in
    let h = c.requires.ready.holds in
    let quant = c.args.self.now.group.sender.pace.quant in
    let frame = bare (picture c.args.frame) in
    let params = h.params in
    let in_range = subst IsParams (sym params) h.in_range in
    let after = c.code-coded.ensures.holds run h.holds in
    let is = newest_packets p quant frame run group.sender (group.same ∙ c.code-coded.ensures.params) after.sender in
    let ranged : (0 < quant) × (quant < 32) = (
      omega (arith, h.quant, h.in_range.quant_low),
      omega (arith, h.quant, h.in_range.quant_high),
    ) in
    let room = newest_room p (c.packet_laws.ensures p in_range) quant frame run ranged in
    let room_is : ring_room c.args.self.now.packets ≡ 1200 * mbs_of p.format = h.room
    ∙ ap (λ (q : Params). 1200 * mbs_of q.format) (sym params) in
    let most_is : most_of c.args.self.now.packets ≡ mbs_of p.format = h.most
    ∙ ap (λ (q : Params). mbs_of q.format) (sym params) in
    record {
      bytes = subst (λ (l : List (List ℕ)). total_size l ≤ ring_room c.args.self.now.packets) (sym is)
          (omega (arith, room.0, room_is));
      count = subst (λ (l : List (List ℕ)). length l ≤ most_of c.args.self.now.packets) (sym is)
          (omega (arith, room.1, most_is));
    }

pub keep_packets-requires-clause-keeping : goal.keep_packets-requires-clause-keeping
keep_packets-requires-clause-keeping c =
    let has = c.requires.ready.holds.packets in
    record { pictures = has.pictures; keeps = has.keeps }

pub keep_packets-requires-clause-few : goal.keep_packets-requires-clause-few
keep_packets-requires-clause-few c = omega (arith, c.requires.ready.holds.begun, c.requires.left)

pub returns-clause-holds : goal.returns-clause-holds
returns-clause-holds c = λ p run h.
    let old = c.args.self.now in
    let group = c.code-coded.new.self in
    let quant = old.group.sender.pace.quant in
    let frame = bare (picture c.args.frame) in
    let as_steady : paced quant ≡ steady p = λ i _. h.quant i in
    let laws = c.ring_laws.ensures p in
    let next = next_of_group p (steady p) frame run in
    let params = c.code-coded.ensures.params ∙ h.params in
    let by_params : HoldsGroup group (group_after_code p (paced quant) frame run) =
    subst (λ (q : Params). HoldsGroup group (group_after_code q (paced quant) frame run)) h.params
    (c.code-coded.ensures.holds run h.holds)
    in
    let holds = subst (λ (pace : List ℕ → ℕ). HoldsGroup group (group_after_code p pace frame run)) as_steady by_params
    in
    let tells : Describes (length run.coded) next c.code-coded.result =
    subst (λ (pace : List ℕ → ℕ). Describes (length run.coded) (next_of_group p pace frame run) c.code-coded.result)
    as_steady
    (subst (λ (q : Params). Describes (length run.coded) (next_of_group q (paced quant) frame run) c.code-coded.result)
    h.params
    (c.code-coded.ensures.makes run h.holds))
    in
    let cut = newest_packets p p.quant frame run group.sender (group.same ∙ params) holds.sender in
    let kept = c.keep_packets.ensures in
    let sent = sent_is old.group.sender run h.holds.sender in
    record {
      in_range = h.in_range;
      params = params;
      quant = ap (λ (pace : FixedPace). pace.quant) c.code-coded.ensures.pace ∙ h.quant;
      holds = holds;
      packets = laws.packets old.packets c.keep_packets.new.packets run.coded next group.sender.packets h.packets
          kept.kept cut;
      references = laws.noted old.references c.note.new.self run.coded next h.references
          (λ list noted long. subst (λ (r : Option ℕ). AreNoted c.note.new.self (list ++ r ∷ [])) tells.reference
          (c.note.ensures list noted (c.sent-number.ensures.value ∙ sent ∙ long)));
      room = kept.sizes.room_is ∙ h.room;
      most = kept.sizes.most_is ∙ h.most;
      begun = omega (arith, kept.begun, h.begun, c.code-coded.ensures.sent);
    }

pub returns-clause-ready : goal.returns-clause-ready
returns-clause-ready c =
    let r = c.requires.ready in
    record {
      params = r.params;
      run = group_after_code r.params (steady r.params) (bare (picture c.args.frame)) r.run;
      holds = returns-clause-holds c r.params r.run r.holds;
    }
