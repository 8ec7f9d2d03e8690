use Rattle.std.proofs.Common.{◌+◌, ◌*◌, length, true, refl, ap, ◌∙◌, arith}
use Rattle.h263_types.specs.Sizes.{mbs_of}
use Rattle.packet_collector.specs.Collected.{row_place_of}
use Rattle.packet_collector.proofs.Rows.{put_in, put_back, below, added}
use Rattle.packet_collector.proofs.collector.Collector.add.Goals as goal

pub returns-clause-taken : goal.returns-clause-taken
returns-clause-taken c = λ first taken so.
    let self = c.args.self.now in
    let head = c.args.piece.now.head in
    let size = c.put.ensures.size ∙ ap length c.deref_mut.ensures.value in
    let put = put_in self _ (row_place_of self c.args.number) c.place_of-place.result head.first head.count
    (c.marks_at.result + head.first) true _ c.deref_mut.result.now c.put.new.marks
    refl refl (put_back self.marks.items c.put.new.marks size) c.deref_mut.ensures.value c.place_of-place.ensures.value
    (below self c.args.number) c.requires.head.within
    (omega (arith, c.marks_at.ensures.value, ap (λ q. q * mbs_of self.format) c.place_of-place.ensures.value))
    c.put.ensures.inside c.put.ensures.others in
    added self _ c.args.number c.args.piece.now first taken put so refl c.requires.row c.requires.fresh.header
