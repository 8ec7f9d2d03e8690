-- The picture that is sent, its packets and its reference are those of the sender's run.
use Rattle.std.proofs.Common.{◌≡◌, ℕ, ◌*◌, List, [], ◌∷◌, ◌++◌, length, Option, sym, ap, subst, ◌∙◌, arith}
use Rattle.std.specs.Prelude.{slice_get}
use Rattle.h263_types.specs.Sizes.{mbs_of}
use Rattle.h263_types.specs.Params.{IsParams}
use Rattle.h263_types.specs.declared.params.Params.{Params}
use Rattle.h263_planes.specs.Lent.{picture}
use Rattle.call_model.specs.Sending.{Capture}
use Rattle.one_way.specs.Both.{both_after, carrying, next_of, steady}
use Rattle.one_way.specs.References.{AreNoted}
use Rattle.one_way.proofs.Holding.{holds_send}
use Rattle.one_way.proofs.OneMore.{after_send, send_tells, sent_in, sent_is}
use Rattle.one_way.proofs.Passing.{steady_is}
use Rattle.one_way.proofs.Sending.{can_send, roomy, standing_so, stands_so, tells_so}
use Rattle.one_way.proofs.way.Way.send.Goals as goal

pub keep_packets-requires-clause-room : goal.keep_packets-requires-clause-room
keep_packets-requires-clause-room c =
    let old = c.args.sender.now in
    let new = c.code-coded.new.self in
    let can = c.requires.ready in
    let params = c.code-coded.ensures.params in
    let in_range = subst IsParams (sym params) can.in_range in
    let standing = standing_so old new can.quant_is can.standing
    (Capture (carrying (picture c.args.frame) c.args.back.now)) params c.code-coded.ensures.stands in
    roomy new (c.packet_laws.ensures new.params in_range) (steady_is new.params in_range) standing
    c.args.self.now.packets
    (can.room ∙ ap (λ (p : Params). 1200 * mbs_of p.format) (sym params)) (can.most
    ∙ ap (λ (p : Params). mbs_of p.format) (sym params))

pub keep_packets-requires-clause-few : goal.keep_packets-requires-clause-few
keep_packets-requires-clause-few c = omega (arith, c.requires.ready.begun, c.requires.left)

pub returns-clause-ready : goal.returns-clause-ready
returns-clause-ready c =
    let can = c.requires.ready in
    let capture = c.code-coded in
    let kept = c.keep_packets.ensures in
    can_send c.args.self.now (record c.args.self.now {
      packets = c.keep_packets.new.packets;
      references = c.note.new.self;
    })
    c.args.sender.now capture.new.self can (Capture (carrying (picture c.args.frame) c.args.back.now))
    capture.ensures.params capture.ensures.pace capture.ensures.stands kept.sizes.room_is kept.sizes.most_is
    (record {
      pictures = can.keeping.pictures ++ capture.new.self.packets ∷ [];
      keeps = kept.kept can.keeping.pictures can.keeping.keeps;
    })
    (omega (arith, kept.begun, can.begun, capture.ensures.sent))

pub returns-clause-holds : goal.returns-clause-holds
returns-clause-holds c = λ p receiver before frames past h at near.
    let old = c.args.sender.now in
    let new = c.code-coded.new.self in
    let quant = c.args.sender.now.pace.quant in
    let same : quant ≡ p.quant = c.requires.ready.quant_is ∙ ap (λ (q : Params). q.quant) h.joined.sender_params in
    let frame = carrying (picture c.args.frame) c.args.back.now in
    let runs = c.ends_run.ensures p in
    let entries = sent_in p (steady p) frames before past in
    let coded = (both_after p (steady p) frames before past).sender.coded in
    let next = next_of p (steady p) frame (both_after p (steady p) frames before past) in
    let tells = send_tells p runs (steady p) old receiver frames before past h.joined frame c.code-coded.result
    (tells_so p quant same old frame c.code-coded.result c.code-coded.ensures.tells entries h.joined.sends)
    in
    let joined = after_send p runs (steady p) old receiver frames before past h.joined new frame
    c.code-coded.ensures.params at
    (stands_so p quant same old new (Capture frame) c.code-coded.ensures.stands entries h.joined.sends)
    in
    let notes : (list : List (Option ℕ)) → AreNoted c.args.self.now.references list → length coded ≡ length list
    → AreNoted c.note.new.self (list ++ next.reference ∷ []) =
    λ list noted long. subst (λ (r : Option ℕ). AreNoted c.note.new.self (list ++ r ∷ [])) tells.reference
    (c.note.ensures list noted (c.sent-number.ensures.value
    ∙ sent_is p runs (steady p) old receiver frames before past h.joined ∙ long))
    in
    holds_send p c.args.self.now old receiver before frames past h runs new frame c.keep_packets.new.packets
    c.note.new.self near
    (ap (λ (k : ℕ). slice_get frames k) (sym (sent_is p runs (steady p) old receiver frames before past h.joined)) ∙ at)
    joined c.keep_packets.ensures.kept notes c.code-coded.ensures.sent
