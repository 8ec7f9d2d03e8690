-- A slice that may be taken is drawn from its reference, and its picture is whole when none is missing.
use Rattle.std.proofs.Common.{◌≡◌, ◌+◌, ◌≤◌, true, false, length, ap, sym, ◌∙◌, subst, arith}
use Rattle.h263_types.specs.declared.format.Format.{Format}
use Rattle.h263_types.specs.declared.params.Params.{Params}
use Rattle.h263_types.specs.Blocks.{IsHeadOf}
use Rattle.h263_types.specs.Sizes.{mbs_of}
use Rattle.packet_collector.specs.Collected.{has_in}
use Rattle.picture_store.specs.Pictures.{Keeps}
use Rattle.call_model.specs.Numbers.{all_below}
use Rattle.call_model.specs.ReceiverStanding.{IsAfterSlice}
use Rattle.call_decoding.specs.Rules.{rules_of}
use Rattle.receiver_end.specs.declared.kept.Kept.{Kept}
use Rattle.receiver_end.specs.Answers.{IsSaid}
use Rattle.receiver_end.specs.Decoding.{decoding}
use Rattle.receiver_end.specs.State.{seen, work_of}
use Rattle.receiver_end.specs.Steps.{ack_of, piece_in}
use Rattle.receiver_end.proofs.AfterSlice.{in_part, in_whole, taken_part, taken_whole}
use Rattle.receiver_end.proofs.Held.{unheld}
use Rattle.receiver_end.proofs.kept.Kept.take.Goals as goal

pub returns-in-Some-clause-answer : goal.returns-in-Some-clause-answer
returns-in-Some-clause-answer c =
    let r = c.args.self.now in let a = c.add.new.self in let n = c.args.fresh.number in
    let same : a.params ≡ r.params = ap (λ (x : Kept). x.params) c.add.ensures.added.0 in
    let inside : c.args.piece.now.head.first + c.args.piece.now.head.count ≤ length c.args.mbs.now = omega (
      arith,
      c.requires.piece.slice.head.within,
      ap mbs_of c.requires.piece.of-format,
      c.requires.mbs,
    ) in
    taken_whole r a.collector a.store c.args.mbs.now c.args.piece.now c.args.fresh c.add.ensures.added.1 inside
    c.in-Some.said
    (subst (λ (p : Params). all_below (mbs_of p.format) (has_in a.collector n) ≡ true) same c.in-Some.ensures.whole.0)
    (subst (λ (p : Params). IsSaid p.clock c.in-Some.said (ack_of p a.store n)) same c.in-Some.ensures.whole.1)

pub returns-in-None-clause-answer : goal.returns-in-None-clause-answer
returns-in-None-clause-answer c =
    let r = c.args.self.now in let a = c.add.new.self in let n = c.args.fresh.number in
    let same : a.params ≡ r.params = ap (λ (x : Kept). x.params) c.add.ensures.added.0 in
    let inside : c.args.piece.now.head.first + c.args.piece.now.head.count ≤ length c.args.mbs.now = omega (
      arith,
      c.requires.piece.slice.head.within,
      ap mbs_of c.requires.piece.of-format,
      c.requires.mbs,
    ) in
    taken_part r a.collector a.store c.args.mbs.now c.args.piece.now c.args.fresh c.add.ensures.added.1 inside
    (subst (λ (p : Params). all_below (mbs_of p.format) (has_in a.collector n) ≡ false) same c.in-None.ensures.part.0)

pub returns-in-Some-clause-after : goal.returns-in-Some-clause-after
returns-in-Some-clause-after c = λ past stands.
    let r = c.args.self.now in let a = c.add.new.self in let n = c.args.fresh.number in
    let u = c.complete.new.self.store in
    let piece = c.args.piece.now in let mbs = c.args.mbs.now in
    let same : a.params ≡ r.params = ap (λ (x : Kept). x.params) c.add.ensures.added.0 in
    let inside : piece.head.first + piece.head.count ≤ length mbs = omega (
      arith,
      c.requires.piece.slice.head.within,
      ap mbs_of c.requires.piece.of-format,
      c.requires.mbs,
    ) in
    let head : IsHeadOf r.params.format piece.head =
    subst (λ (f : Format). IsHeadOf f piece.head) c.requires.piece.of-format c.requires.piece.slice.head in
    let free = unheld r past n piece (c.slots.ensures.view (decoding r.params.format) (rules_of r.params)
    (c.are_rules.ensures r.params c.requires.fits.params)) c.requires.fits stands c.requires.fresh.1.row head
    c.requires.fresh.1.fresh.none in
    let new : c.complete.new.self ≡ record r { collector = a.collector; store = u } = c.in-Some.ensures.kept.0
    ∙ ap (λ (x : Kept). record x { store = u }) c.add.ensures.added.0 in
    subst (λ (x : Kept). IsAfterSlice (decoding r.params.format) (rules_of r.params) (seen r) (seen x) n
    (piece_in piece mbs)) (sym new)
    (in_whole c.searches.ensures.rests c.numbered_samples.ensures c.picture_by_samples.ensures r a.collector a.store mbs
    piece c.args.fresh c.requires.fits c.requires.fresh c.add.ensures.added.1 inside free
    u (subst (λ (p : Params). Keeps a.store u n (work_of p n)) same c.in-Some.ensures.kept.1)
    (subst (λ (p : Params). all_below (mbs_of p.format) (has_in a.collector n)
    ≡ true) same c.in-Some.ensures.whole.0))

pub returns-in-None-clause-after : goal.returns-in-None-clause-after
returns-in-None-clause-after c = λ past stands.
    let r = c.args.self.now in let a = c.add.new.self in let n = c.args.fresh.number in
    let piece = c.args.piece.now in let mbs = c.args.mbs.now in
    let same : a.params ≡ r.params = ap (λ (x : Kept). x.params) c.add.ensures.added.0 in
    let inside : piece.head.first + piece.head.count ≤ length mbs = omega (
      arith,
      c.requires.piece.slice.head.within,
      ap mbs_of c.requires.piece.of-format,
      c.requires.mbs,
    ) in
    let head : IsHeadOf r.params.format piece.head =
    subst (λ (f : Format). IsHeadOf f piece.head) c.requires.piece.of-format c.requires.piece.slice.head in
    let free = unheld r past n piece (c.slots.ensures.view (decoding r.params.format) (rules_of r.params)
    (c.are_rules.ensures r.params c.requires.fits.params)) c.requires.fits stands c.requires.fresh.1.row head
    c.requires.fresh.1.fresh.none in
    let new : c.complete.new.self ≡ record r { collector = a.collector; store = a.store } = c.in-None.ensures.part.1
    ∙ c.add.ensures.added.0 in
    subst (λ (x : Kept). IsAfterSlice (decoding r.params.format) (rules_of r.params) (seen r) (seen x) n
    (piece_in piece mbs)) (sym new)
    (in_part c.searches.ensures.rests c.numbered_samples.ensures c.picture_by_samples.ensures r a.collector a.store mbs
    piece c.args.fresh c.requires.fits c.requires.fresh c.add.ensures.added.1 inside free
    (subst (λ (p : Params). all_below (mbs_of p.format) (has_in a.collector n) ≡ false) same c.in-None.ensures.part.0))
