use Rattle.std.proofs.Common.{◌*◌, length, false, None, refl, ap, ◌∙◌, sym, arith}
use Rattle.h263_types.specs.Sizes.{mbs_of}
use Rattle.packet_collector.specs.Collected.{row_place_of}
use Rattle.packet_collector.proofs.Rows.{put_in, put_back, below, advanced}
use Rattle.packet_collector.proofs.collector.Collector.advance.Goals as goal

pub returns-clause-taken : goal.returns-clause-taken
returns-clause-taken c = λ first taken so.
    let self = c.args.self.now in
    let size = c.put.ensures.size ∙ ap length c.deref_mut.ensures.value in
    let put = put_in self _ (row_place_of self self.first) c.place_of-place.result 0
    (mbs_of self.format) c.marks_at-from.result false None c.deref_mut.result.now c.put.new.marks
    refl refl (put_back self.marks.items c.put.new.marks size) c.deref_mut.ensures.value c.place_of-place.ensures.value
    (below self self.first) (omega arith)
    (omega (arith, c.marks_at-from.ensures.value, ap (λ q. q * mbs_of self.format) c.place_of-place.ensures.value))
    (rw (sym c.mbs-mbs.ensures) c.put.ensures.inside) (rw (sym c.mbs-mbs.ensures) c.put.ensures.others) in
    advanced self _ first taken put so refl
