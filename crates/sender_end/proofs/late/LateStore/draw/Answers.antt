-- A drawn picture is the one that its levels stood for, so the view of the store stays.
use Rattle.std.proofs.Common.{◌≡◌, ℕ, ◌-◌, ◌%◌, ◌<◌, sym, ap, ◌∙◌, subst, arith, mod-lt, List, length, set, get_or, length-set}
use Rattle.std.specs.Box.{boxed_slice_items}
use Rattle.std.proofs.lemmas.List.{get_or_default}
use Rattle.picture_store.specs.Pictures.{picture_in, slot_of, slots_of}
use Rattle.sender_end.specs.Late.{AreKeptAs, IsLateStore, LatePictures, once_drawn, quant_at, store_once_drawn}
use Rattle.sender_end.proofs.Drawing.{drawn_kept, drawn_late, kept_twice, kept_without_work, quant_set, still_drawn, without_work}
use Rattle.sender_end.proofs.late.LateStore.draw.Goals as goal

-- ---- it is drawn already: the work picture is given up, and that is all

pub invariant_of-self-else-quant-gt0 : goal.invariant_of-self-else-quant-gt0
invariant_of-self-else-quant-gt0 c =
    let s = c.self.inside in
    let quants = boxed_slice_items s.quants in
    let are = c.self.invariant.late in
    let last : c.len-work.result - 1 ≡ slots_of s.store = omega (
      arith,
      c.len-work.ensures,
      s.quants.items.ok.0,
      are.count,
      are.works,
    ) in
    subst (λ (n : ℕ). IsLateStore s.draws_all (set quants n 0) s.store) (sym last)
    (record {
      late = without_work quants s.store are;
      drawn = λ all. still_drawn quants (slots_of s.store) (omega (arith, are.count, are.works))
          (c.self.invariant.drawn all);
    })

pub returns-else-quant-gt0-clause-same : goal.returns-else-quant-gt0-clause-same
returns-else-quant-gt0-clause-same c =
    let s = c.self.inside in
    let quants = boxed_slice_items s.quants in
    let are = c.self.invariant.late in
    let last : c.len-work.result - 1 ≡ slots_of s.store = omega (
      arith,
      c.len-work.ensures,
      s.quants.items.ok.0,
      are.count,
      are.works,
    ) in
    subst (λ (n : ℕ). AreKeptAs c.args.self.now.store (store_once_drawn (set quants n 0) s.store)) (sym last)
    (subst (λ (x : LatePictures). AreKeptAs x.store (store_once_drawn (set quants (slots_of s.store) 0) s.store))
    c.self.view_is (kept_without_work quants s.store are))

-- ---- it is drawn now

module _ (c : goal.After-draw_kept) where
  abbrev quants : List ℕ
  quants = boxed_slice_items c.self.inside.quants

  last : c.len-work.result - 1 ≡ slots_of c.self.inside.store
  last = omega (
    arith,
    c.len-work.ensures,
    c.self.inside.quants.items.ok.0,
    c.self.invariant.late.count,
    c.self.invariant.late.works,
  )

  abbrev cleared : List ℕ
  cleared = set quants (slots_of c.self.inside.store) 0

  work_low : slots_of c.self.inside.store < length quants
  work_low = omega (arith, c.self.invariant.late.count, c.self.invariant.late.works)

  abbrev slot : ℕ
  slot = slot_of c.self.inside.store c.args.number

  slot_is : c.args.number % (c.len-work.result - 1) ≡ slot
  slot_is = ap (λ (n : ℕ). c.args.number % n) last

  slot_low : slot < slots_of c.self.inside.store
  slot_low = mod-lt c.args.number c.self.invariant.late.some

  free : quant_at cleared (slots_of c.self.inside.store) ≡ 0
  free = quant_set quants (slots_of c.self.inside.store) 0 work_low

  as_long : length cleared ≡ length quants
  as_long = length-set quants (slots_of c.self.inside.store) 0

  quant_is : c.index-quant.result.now ≡ quant_at cleared slot
  quant_is =
      c.index-quant.ensures
      ∙ (λ i. get_or (set quants (last i) 0) (slot_is i) c.index-quant.result.now)
      ∙ get_or_default cleared slot c.index-quant.result.now 0 (omega (arith, slot_low, as_long, work_low))

  list_is : set (set quants (c.len-work.result - 1) 0) (c.args.number % (c.len-work.result - 1)) 0 ≡ set cleared slot 0
  list_is = λ i. set (set quants (last i) 0) (slot_is i) 0

pub invariant_of-self : goal.invariant_of-self
invariant_of-self c =
    let s = c.self.inside in
    let made = c.draw_kept.ensures in
    let are = without_work (quants c) s.store c.self.invariant.late in
    subst (λ (l : List ℕ). IsLateStore s.draws_all l c.draw_kept.new.store) (sym (list_is c))
    (record {
      late =
          drawn_late (cleared c) s.store c.draw_kept.new.store (slot c) are (slot_low c)
          (free c) made.format made.numbers made.pictures made.room
          (made.drawn ∙ ap (λ (q : ℕ). once_drawn q (picture_in s.store (slot c))) (quant_is c)) made.others;
      drawn = λ all.
          still_drawn (cleared c) (slot c) (omega (arith, slot_low c, as_long c, work_low c))
          (still_drawn (quants c) (slots_of s.store) (work_low c) (c.self.invariant.drawn all));
    })

pub returns-then-quant-gt0-clause-same : goal.returns-then-quant-gt0-clause-same
returns-then-quant-gt0-clause-same c =
    let s = c.self.inside in
    let made = c.draw_kept.ensures in
    let are = without_work (quants c) s.store c.self.invariant.late in
    let first : AreKeptAs c.args.self.now.store (store_once_drawn (cleared c) s.store) =
    subst (λ (x : LatePictures). AreKeptAs x.store (store_once_drawn (cleared c) s.store)) c.self.view_is
    (kept_without_work (quants c) s.store c.self.invariant.late)
    in
    subst (λ (l : List ℕ). AreKeptAs c.args.self.now.store (store_once_drawn l c.draw_kept.new.store)) (sym (list_is c))
    (kept_twice first
    (drawn_kept (cleared c) s.store c.draw_kept.new.store (slot c) are (slot_low c) (free c) made.format made.numbers
    made.pictures made.room
    (made.drawn ∙ ap (λ (q : ℕ). once_drawn q (picture_in s.store (slot c))) (quant_is c)) made.others))
