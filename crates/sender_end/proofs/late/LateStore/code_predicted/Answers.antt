-- A predicted picture refers to a kept one, which is drawn first.
use Rattle.std.proofs.Common.{rules, ◌≡◌, ℕ, ◌%◌, ◌<◌, refl, sym, ap, ◌∙◌, subst, arith, mod-lt, List, Option, Some, length}
use Rattle.std.specs.Box.{boxed_slice_items}
use Rattle.h263_types.specs.Sizes.{size_of_picture}
use Rattle.h263_types.specs.declared.format.Format.{Format}
use Rattle.h263_planes.specs.Layout.{picture_of}
use Rattle.h263_planes.specs.Lent.{picture}
use Rattle.h263_planes.specs.Picture.{Picture}
use Rattle.mode_choice.specs.Choice.{choices_of}
use Rattle.packet_cutter.specs.Cutting.{cutter_packets, sequence_of}
use Rattle.packet_cutter.specs.Packets.{ArePacketsOf}
use Rattle.picture_recon.specs.Samples.{reconstruction}
use Rattle.picture_store.specs.Pictures.{picture_in, slot_of, slots_of, with_work}
use Rattle.sender_end.specs.Coding.{IsCodedInto}
use Rattle.sender_end.specs.Late.{AreKeptAs, AreLate, LatePictures, once_drawn, quant_at, store_once_drawn}
use Rattle.sender_end.proofs.Drawing.{coded_as, drawn_already, late_with, seen_drawn, set_same}
use Rattle.sender_end.proofs.Storing.{coded_into}
use Rattle.sender_end.proofs.late.LateStore.code_predicted.Goals as goal

module _ (c : goal.After-self-1) where
  abbrev quants : List ℕ
  quants = boxed_slice_items c.self.inside.quants

  abbrev bytes : List ℕ
  bytes = c.code_into.new.bytes

  numbers_are : c.self.inside.store.numbers ≡ c.args.self.now.store.numbers
  numbers_are = ap (λ (x : LatePictures). x.store.numbers) c.self.view_is ∙ c.draw.ensures.same.numbers

  format_is : c.self.inside.store.format ≡ c.args.params.now.format
  format_is = ap (λ (x : LatePictures). x.store.format) c.self.view_is ∙ c.draw.ensures.same.format
      ∙ c.requires.store_format

  abbrev slot : ℕ
  slot = slot_of c.self.inside.store c.args.reference

  slot_is : slot ≡ slot_of c.args.self.now.store c.args.reference
  slot_is = ap (λ (l : List (Option ℕ)). c.args.reference % length l) numbers_are

  slot_low : slot < slots_of c.self.inside.store
  slot_low = mod-lt c.args.reference c.self.invariant.late.some

  slot_drawn : quant_at quants slot ≡ 0
  slot_drawn = (λ i. quant_at ((c.self.view_is i).quants) (slot_is i)) ∙ c.draw.ensures.drawn

  none : quant_at quants (slots_of c.self.inside.store) ≡ 0
  none = (λ i. quant_at ((c.self.view_is i).quants) (length (numbers_are i))) ∙ c.draw.ensures.work

  -- the reference that is lent is the kept picture
  reference_is : picture c.new-kept.result
      ≡ picture_in c.args.self.now.store (slot_of c.args.self.now.store c.args.reference)
  reference_is =
      c.new-kept.ensures.picture
      ∙ ap (λ (f : Format). picture_of f c.pair-work.result.0.now) (sym format_is) ∙ c.pair-work.ensures.reference
      ∙ sym (seen_drawn quants c.self.inside.store slot (omega (arith, slot_low, c.self.invariant.late.works))
      slot_drawn)
      ∙ (λ i. picture_in ((c.self.view_is i).store) (slot_is i))
      ∙ c.draw.ensures.same.others (slot_of c.args.self.now.store c.args.reference)
      (omega (arith, slot_low, slot_is, ap (λ (l : List (Option ℕ)). length l) numbers_are))

  lent : IsCodedInto c.self.inside.store (with_work c.self.inside.store 0 bytes)
      (picture_of c.self.inside.store.format bytes)
  lent =
      let long : length bytes ≡ size_of_picture c.self.inside.store.format = search rules in
      coded_into c.self.inside.store bytes _ long (omega (arith, c.self.invariant.late.works)) refl

pub invariant_of-self : goal.invariant_of-self
invariant_of-self c =
    let s = c.self.inside in
    let coded = lent c in
    let new = with_work s.store 0 (bytes c) in
    record {
      late =
          subst (λ (l : List ℕ). AreLate l new) (set_same (quants c) (slots_of s.store) 0 (none c))
          (late_with (quants c) 0 s.store new c.self.invariant.late coded.numbers coded.pictures coded.others
          (λ some. absurd (omega (arith, some))));
      drawn = c.self.invariant.drawn;
    }

pub returns-clause-packets : goal.returns-clause-packets
returns-clause-packets c =
    let p = c.args.params.now in
    let h = c.args.heading.now.header in
    subst (λ (q : Picture). ArePacketsOf c.args.heading.now.number (sequence_of c.args.cutter.now) h p.limit
    (choices_of (picture c.args.frame) (Some q) h p) (cutter_packets c.code_into.new.cutter))
    (reference_is c) c.code_into.ensures.packets

pub returns-clause-store : goal.returns-clause-store
returns-clause-store c =
    let s = c.self.inside in
    let p = c.args.params.now in
    let h = c.args.heading.now.header in
    let start = c.args.self.now.store in
    let raw = picture_of s.store.format (bytes c) in
    let new = with_work s.store 0 (bytes c) in
    let shown : Picture → Picture = λ q. reconstruction p.format h.rounding (Some q)
    (choices_of (picture c.args.frame) (Some q) h p) in
    let is = shown (picture_in start (slot_of start c.args.reference)) in
    let kept : AreKeptAs start (store_once_drawn (quants c) s.store) =
    subst (λ (x : LatePictures). AreKeptAs start x.store) (sym c.self.view_is) c.draw.ensures.same in
    let drawn : once_drawn 0 raw ≡ is =
    drawn_already 0 raw refl ∙ ap (λ (f : Format). picture_of f (bytes c)) (format_is c)
    ∙ c.code_into.ensures.reconstruction ∙ ap shown (reference_is c)
    in
    subst (λ (l : List ℕ). IsCodedInto start (store_once_drawn l new) is) (set_same (quants c) (slots_of s.store) 0
    (none c))
    (coded_as start (quants c) 0 s.store new raw is c.self.invariant.late kept (lent c) drawn)
