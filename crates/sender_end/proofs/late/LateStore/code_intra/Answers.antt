-- An intra picture is drawn, or its levels are kept, as the store was asked for.
use Rattle.std.proofs.Common.{rules, ◌≡◌, ℕ, ◌-◌, false, refl, sym, ap, ◌∙◌, subst, arith, List, None, length, set}
use Rattle.std.specs.Box.{boxed_slice_items}
use Rattle.h263_types.specs.Sizes.{size_of_picture}
use Rattle.h263_types.specs.declared.blocks.Mb.{Mb}
use Rattle.h263_types.specs.declared.format.Format.{Format}
use Rattle.h263_planes.specs.Layout.{picture_of}
use Rattle.h263_planes.specs.Lent.{picture}
use Rattle.mode_choice.specs.Choice.{choices_of}
use Rattle.picture_recon.specs.Samples.{reconstruction}
use Rattle.picture_recon.specs.Undrawn.{undrawn_mbs}
use Rattle.picture_store.specs.Pictures.{slots_of, with_work}
use Rattle.sender_end.specs.Coding.{IsCodedInto}
use Rattle.sender_end.specs.Late.{AreKeptAs, AreLate, CanBeDrawn, LatePictures, once_drawn, quant_at, store_once_drawn}
use Rattle.sender_end.proofs.Drawing.{can_as, coded_as, drawn_already, drawn_later, kept_itself, late_with, set_same}
use Rattle.sender_end.proofs.Storing.{coded_into}
use Rattle.sender_end.proofs.late.LateStore.code_intra.Goals as goal

-- ---- each picture is drawn

module _ (c : goal.After-self-1) where
  abbrev quants : List ℕ
  quants = boxed_slice_items c.self.inside.quants

  none : quant_at quants (slots_of c.self.inside.store) ≡ 0
  none = c.self.invariant.drawn c.if-self.true (slots_of c.self.inside.store)

  lent : IsCodedInto c.self.inside.store (with_work c.self.inside.store 0 c.code_into.new.bytes)
      (picture_of c.self.inside.store.format c.code_into.new.bytes)
  lent =
      let long : length c.code_into.new.bytes ≡ size_of_picture c.self.inside.store.format = search rules in
      coded_into c.self.inside.store c.code_into.new.bytes _ long (omega (arith, c.self.invariant.late.works)) refl

pub invariant_of-self : goal.invariant_of-self
invariant_of-self c =
    let s = c.self.inside in
    let are = c.self.invariant.late in
    let coded = lent c in
    let new = with_work s.store 0 c.code_into.new.bytes in
    record {
      late =
          subst (λ (l : List ℕ). AreLate l new) (set_same (quants c) (slots_of s.store) 0 (none c))
          (late_with (quants c) 0 s.store new are coded.numbers coded.pictures coded.others
          (λ some. absurd (omega (arith, some))));
      drawn = c.self.invariant.drawn;
    }

pub returns-then-self-clause-store : goal.returns-then-self-clause-store
returns-then-self-clause-store c =
    let s = c.self.inside in
    let p = c.args.params.now in
    let bytes = c.code_into.new.bytes in
    let start = c.args.self.now.store in
    let raw = picture_of s.store.format bytes in
    let new = with_work s.store 0 bytes in
    let is = reconstruction p.format c.args.heading.now.header.rounding None
    (choices_of (picture c.args.frame) None c.args.heading.now.header p) in
    let kept : AreKeptAs start (store_once_drawn (quants c) s.store) =
    subst (λ (x : LatePictures). AreKeptAs x.store (store_once_drawn (quants c) s.store)) c.self.view_is
    (kept_itself _) in
    let same : s.store.format ≡ p.format = ap (λ (x : LatePictures). x.store.format) c.self.view_is
    ∙ c.requires.store_format in
    let shown : once_drawn 0 raw ≡ is = drawn_already 0 raw refl ∙ ap (λ (f : Format). picture_of f bytes) same
    ∙ c.code_into.ensures.reconstruction in
    subst (λ (l : List ℕ). IsCodedInto start (store_once_drawn l new) is) (set_same (quants c) (slots_of s.store) 0
    (none c))
    (coded_as start (quants c) 0 s.store new raw is c.self.invariant.late kept (lent c) shown)

-- ---- it isn't drawn

module _ (c : goal.After-self-else-self-2-1) where
  abbrev marks : List ℕ
  marks = boxed_slice_items c.self.inside.quants

  abbrev bytes : List ℕ
  bytes = c.code_levels_into.new.bytes

  last : c.len-work.result - 1 ≡ slots_of c.self.inside.store
  last = omega (
    arith,
    c.len-work.ensures,
    c.self.inside.quants.items.ok.0,
    c.self.invariant.late.count,
    c.self.invariant.late.works,
  )

  format_is : c.self.inside.store.format ≡ c.args.params.now.format
  format_is = ap (λ (x : LatePictures). x.store.format) c.self.view_is ∙ c.requires.store_format

  levels : IsCodedInto c.self.inside.store (with_work c.self.inside.store 0 bytes)
      (picture_of c.self.inside.store.format bytes)
  levels =
      let long : length bytes ≡ size_of_picture c.self.inside.store.format = search rules in
      coded_into c.self.inside.store bytes _ long (omega (arith, c.self.invariant.late.works)) refl

  can : CanBeDrawn c.args.heading.now.header.quant (picture_of c.self.inside.store.format bytes)
  can =
      let there : CanBeDrawn c.args.heading.now.header.quant (picture_of c.args.params.now.format bytes) = record {
        quant_is = record { low = c.requires.header.quant_some; high = c.requires.header.quant_low };
        in_range = c.code_levels_into.ensures.in_range;
      } in
      can_as refl (ap (λ (f : Format). picture_of f bytes) (sym format_is)) there

pub invariant_of-self-else-self : goal.invariant_of-self-else-self
invariant_of-self-else-self c =
    let s = c.self.inside in
    let q = c.args.heading.now.header.quant in
    let coded = levels c in
    let new = with_work s.store 0 (bytes c) in
    let not_all : s.draws_all ≡ false = c.if-self.false in
    record {
      late =
          subst (λ (n : ℕ). AreLate (set (marks c) n q) new) (sym (last c))
          (late_with (marks c) q s.store new c.self.invariant.late coded.numbers coded.pictures coded.others
          (λ some. can_as refl (sym coded.work) (can c)));
      drawn = λ all. cc;
    }

pub returns-else-self-clause-store : goal.returns-else-self-clause-store
returns-else-self-clause-store c =
    let s = c.self.inside in
    let p = c.args.params.now in
    let h = c.args.heading.now.header in
    let start = c.args.self.now.store in
    let raw = picture_of s.store.format (bytes c) in
    let new = with_work s.store 0 (bytes c) in
    let mbs = choices_of (picture c.args.frame) None h p in
    let is = reconstruction p.format h.rounding None mbs in
    let kept : AreKeptAs start (store_once_drawn (marks c) s.store) =
    subst (λ (x : LatePictures). AreKeptAs x.store (store_once_drawn (marks c) s.store)) c.self.view_is
    (kept_itself _) in
    let shown : once_drawn h.quant raw ≡ is =
    drawn_later h.quant raw (omega (arith, c.requires.header.quant_some))
    ∙ ap (λ (f : Format). reconstruction f 0 None (undrawn_mbs h.quant (picture_of f (bytes c)))) (format_is c)
    ∙ ap (λ (l : List Mb). reconstruction p.format 0 None l) c.code_levels_into.ensures.undrawn
    ∙ ap (λ (r : ℕ). reconstruction p.format r None mbs) (sym c.requires.rounding)
    in
    subst (λ (n : ℕ). IsCodedInto start (store_once_drawn (set (marks c) n h.quant) new) is) (sym (last c))
    (coded_as start (marks c) h.quant s.store new raw is c.self.invariant.late kept (levels c) shown)
