use Rattle.std.proofs.Common.{◌≡◌, ℕ, ◌-◌, ◌%◌, sym, ap, ◌∙◌, subst, arith, List, set, get_or}
use Rattle.std.specs.Box.{boxed_slice_items}
use Rattle.std.proofs.lemmas.List.{get_or_default}
use Rattle.picture_store.specs.Pictures.{Keeps, slot_of, slots_of}
use Rattle.sender_end.specs.Late.{IsLateStore, LatePictures, quant_at, store_once_drawn}
use Rattle.sender_end.proofs.Drawing.{after_keep, kept_drawn, kept_late, kept_seen}
use Rattle.sender_end.proofs.late.LateStore.keep.Goals as goal

module _ (c : goal.After-self-2-1) where
  abbrev quants : List ℕ
  quants = boxed_slice_items c.self.inside.quants

  last : c.len-work.result - 1 ≡ slots_of c.self.inside.store
  last = omega (
    arith,
    c.len-work.ensures,
    c.self.inside.quants.items.ok.0,
    c.self.invariant.late.count,
    c.self.invariant.late.works,
  )

  slot_is : c.args.number % (c.len-work.result - 1) ≡ slot_of c.self.inside.store c.args.number
  slot_is = ap (λ (n : ℕ). c.args.number % n) last

  quant_is : c.index.result.now ≡ quant_at quants (slots_of c.self.inside.store)
  quant_is =
      c.index.ensures
      ∙ ap (λ (n : ℕ). get_or quants n c.index.result.now) last
      ∙ get_or_default quants (slots_of c.self.inside.store) c.index.result.now 0
      (omega (arith, c.self.invariant.late.count, c.self.invariant.late.works))

  quants_are : set (set quants (c.args.number % (c.len-work.result - 1)) c.index.result.now) (c.len-work.result - 1) 0
      ≡ after_keep quants c.self.inside.store c.args.number
  quants_are = λ i. set (set quants (slot_is i) (quant_is i)) (last i) 0

pub invariant_of-self : goal.invariant_of-self
invariant_of-self c =
    let s = c.self.inside in
    subst (λ (l : List ℕ). IsLateStore s.draws_all l c.keep.new.self) (sym (quants_are c))
    (record {
      late = kept_late (quants c) s.store c.keep.new.self c.args.number c.self.invariant.late c.keep.ensures;
      drawn = λ all. kept_drawn (quants c) s.store c.args.number c.self.invariant.late (c.self.invariant.drawn all);
    })

pub returns-clause-keeps : goal.returns-clause-keeps
returns-clause-keeps c =
    let s = c.self.inside in
    subst (λ (l : List ℕ). Keeps c.args.self.now.store (store_once_drawn l c.keep.new.self) c.args.number 0)
    (sym (quants_are c))
    (subst (λ (x : LatePictures). Keeps x.store (store_once_drawn (after_keep (quants c) s.store c.args.number)
    c.keep.new.self) c.args.number 0) c.self.view_is
    (kept_seen (quants c) s.store c.keep.new.self c.args.number c.self.invariant.late c.keep.ensures))
