use Rattle.std.proofs.Common.{◌≡◌, ◌++◌, ℕ, List, subst, arith, length}
use Rattle.std.proofs.Common.{take, drop}
use Rattle.picture_store.specs.Pictures.{IsEmpty, slots_of, works_of}
use Rattle.sender_end.specs.Late.{LatePictures, store_once_drawn}
use Rattle.sender_end.proofs.Drawing.{empty_seen}
use Rattle.sender_end.proofs.late.LateStore.clear.Goals as goal

pub returns-clause-empty : goal.returns-clause-empty
returns-clause-empty c =
    let was = c.self.inside.store in
    let new = c.clear.new.self in
    let filled = c.fill.new.self in
    let quants : List ℕ = take c.self.inside.quants.items.len (filled
    ++ drop (length filled) c.self.inside.quants.items.items) in
    let one : works_of was ≡ 1 = omega (arith, c.self.invariant.late.works) in
    let empty : IsEmpty was.format (slots_of was) 1 new = subst (λ (n : ℕ). IsEmpty was.format (slots_of was) n new) one
    c.clear.ensures.empty in
    subst (λ (x : LatePictures). IsEmpty x.store.format (slots_of x.store) 1 (store_once_drawn quants new))
    c.self.view_is
    (empty_seen was.format (slots_of was) 1 quants new empty)
