use Rattle.std.proofs.Common.{◌≡◌, ◌+◌, ◌*◌, ℕ, take, drop, ap, ◌∙◌, arith}
use Rattle.std.specs.List.{list_all}
use Rattle.h263_types.specs.declared.format.Format.{Format}
use Rattle.h263_types.specs.declared.format.Format.TheVariants.{SubQcif, Qcif, Cif}
use Rattle.h263_types.specs.declared.blocks.SliceHead.{SliceHead}
use Rattle.h263_types.specs.Sizes.{mbs_of}
use Rattle.h263_types.specs.Blocks.{IsHeadOf}
use Rattle.packet_collector.specs.Collected.{row_place_of}
use Rattle.packet_collector.specs.Taken.{is_mb_taken}
use Rattle.packet_collector.proofs.AllMarks.{all_same}
use Rattle.packet_collector.proofs.Places.{marks_of, all_kept, all_is}
use Rattle.packet_collector.proofs.collector.Collector.whole.Goals as goal

whole_head : (f : Format) → IsHeadOf f (record { first = 0; count = mbs_of f })
whole_head SubQcif = record { some = omega arith; within = omega arith }
whole_head Qcif = record { some = omega arith; within = omega arith }
whole_head Cif = record { some = omega arith; within = omega arith }

pub returns : goal.returns
returns c = λ first taken so.
    let self = c.args.self.now in
    let n = c.args.number in
    let head : SliceHead = record { first = 0; count = mbs_of self.format } in
    let is = whole_head self.format in
    let marks : c.marks_of.result.now ≡ marks_of self n head = c.marks_of.ensures
    ∙ ap (λ (count : ℕ). take count (drop (row_place_of self n * mbs_of self.format + 0) self.marks.items.items))
    c.mbs.ensures in
    c.all.ensures ∙ ap (list_all (λ mark. mark)) marks ∙ all_kept self n head is
    ∙ all_is self n head is first taken so c.requires
    ∙ all_same (mbs_of self.format) _ (is_mb_taken taken n) (λ i lt. ap (is_mb_taken taken n) (omega arith))
