-- The made frame is the formula's, and the sender and the receiver hold the run so far.
use Rattle.std.proofs.Common.{◌≡◌, ℕ, ◌<◌, List, [], length, Some, sym, ap, ◌∙◌, arith, Global}
use Rattle.std.specs.Prelude.{slice_get}
use Rattle.std.specs.declared.vec.Vec.{Vec}
use Rattle.std.specs.Vec.{with_items}
use Rattle.std.proofs.lemmas.List.{with_items_is}
use Rattle.h263_types.specs.Sizes.{size_of_picture}
use Rattle.h263_planes.specs.Given.{picture_with}
use Rattle.h263_planes.specs.Layout.{picture_of}
use Rattle.h263_planes.specs.Lent.{picture}
use Rattle.h263_planes.specs.Picture.{Picture}
use Rattle.make_input.specs.Frames.{made_sample}
use Rattle.call_model.specs.IdealCall.{Send}
use Rattle.one_way.specs.Both.{bare}
use Rattle.one_way.specs.Counts.{total_of}
use Rattle.demo_command.specs.Demo.{made_frame, made_video}
use Rattle.demo_command.proofs.Doing.{may_now}
use Rattle.demo_command.proofs.Made.{frame_is, steady_is}
use Rattle.demo_command.proofs.demo.Demo.send_made.Goals as goal

-- a buffer that was lent whole holds what was put there
lent : (v : Vec ℕ Global) (l got : List ℕ) (n : ℕ) → got ≡ (with_items v l).items → length l ≡ n → n ≡ v.len → got ≡ l
lent v l got n is long whole = is ∙ with_items_is v l (omega (arith, long, whole, v.ok.0))

pub returns-clause-ready : goal.returns-clause-ready
returns-clause-ready c =
    let m = c.args.self.now in
    let r = c.requires.ready in
    let sent = c.send.ensures in
    let size = size_of_picture m.terms.params.format in
    record {
      params = r.params;
      frame = ap (λ (l : List ℕ). length l) (with_items_is m.frame c.make_frame.new.bytes
          (omega (arith, c.make_frame.ensures.size, r.frame, m.frame.ok.0))) ∙ c.make_frame.ensures.size;
      sender_params = sent.same.params ∙ r.sender_params;
      can = sent.ready;
      period = sent.kept ∙ r.period;
      few = omega (arith, sent.sent, c.requires.left);
      counted = ap total_of sent.tally ∙ r.counted;
    }

pub returns-clause-done : goal.returns-clause-done
returns-clause-done c = λ past h near.
    let m = c.args.self.now in
    let t = m.terms in
    let p = t.params in
    let s = m.both.sender in
    let bytes = c.make_frame.new.bytes in
    let may = may_now t (c.near_event_laws.ensures p c.requires.ready.params) (steady_is p c.requires.ready.params) past
    Send near in
    let held : c.deref.result.now ≡ bytes =
    lent m.frame bytes c.deref.result.now (size_of_picture p.format) c.deref.ensures.value c.make_frame.ensures.size
    (omega (arith, c.requires.ready.frame, m.frame.ok.0))
    in
    let shows : picture c.new-frame.result ≡ picture_with p.format (made_sample t.seed c.sent.result) =
    c.new-frame.ensures.picture ∙ ap (picture_of p.format) held ∙ c.make_frame.ensures.made
    in
    let sent = (c.way_laws.ensures p).sent s m.both.receiver [] (made_video t) past h.way_holds.joined in
    let some : s.sent < length (made_video t) = omega (arith, sent, may.0) in
    let there : slice_get (made_video t) s.sent ≡ Some (bare (picture c.new-frame.result)) =
    frame_is t s.sent some ∙ ap (λ (n : ℕ). Some (made_frame t n)) (sym c.sent.ensures.value)
    ∙ ap (λ (x : Picture). Some (bare x)) (sym shows)
    in
    c.send.ensures.holds p m.both.receiver [] (made_video t) past h there may
