use Rattle.std.proofs.Common.{◌≡◌, sym, ap, ◌∙◌, arith, mod-lt}
use Rattle.std.specs.Box.{boxed_slice_items}
use Rattle.std.proofs.lemmas.Option.{IfSome_then}
use Rattle.picture_store.specs.Pictures.{picture_in, slot_of}
use Rattle.sender_end.specs.Late.{AreDrawn, LatePictures}
use Rattle.sender_end.proofs.Drawing.{seen_drawn}
use Rattle.sender_end.proofs.late.LateStore.view.Goals as goal

pub returns-clause-picture : goal.returns-clause-picture
returns-clause-picture c =
    let s = c.self.inside in
    let are = c.self.invariant.late in
    let quants = boxed_slice_items s.quants in
    let slot = slot_of s.store c.args.number in
    let all : AreDrawn quants = c.self.invariant.drawn (ap (λ (x : LatePictures). x.draws_all) c.self.view_is
    ∙ c.requires) in
    let same : picture_in s.store slot ≡ picture_in c.args.self.now.store (slot_of c.args.self.now.store c.args.number)
    =
    sym (seen_drawn quants s.store slot (omega (arith, mod-lt c.args.number are.some, are.works)) (all slot))
    ∙ ap (λ (x : LatePictures). picture_in x.store (slot_of x.store c.args.number)) c.self.view_is
    in
    IfSome_then c.view.result c.view.ensures.picture (λ r is. is ∙ same)
