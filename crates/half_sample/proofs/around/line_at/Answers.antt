use Rattle.std.proofs.Common.{◌≡◌, ◌+◌, ◌∙◌, refl, subst, arith}
use Rattle.std.specs.Int.RustNames.{bit_xor}
use Rattle.h263_planes.specs.Lent.{picture}
use Rattle.half_sample.specs.Rows.{IsRowOfSamples, sixteen_from}
use Rattle.half_sample.proofs.Lanes.{lanes, samples_are}
use Rattle.half_sample.proofs.Lines.{part_from}
use Rattle.half_sample.proofs.around.line_at.Goals as goal

pub returns : goal.returns
returns c =
    let p = picture c.args.reference in
    let x = c.args.x in
    let y = c.args.y in
    let row = c.row-row.result.now in
    let is = c.row-row.ensures.samples in
    let b : c.load-before.result ≡ sixteen_from p x y =
    c.load-before.ensures.value
    ∙ part_from p x x y 0 row c.sixteen.result.now (omega arith) (omega arith) is c.sixteen.ensures.value
    c.sixteen.ensures.length in
    let m : c.load-centre.result ≡ sixteen_from p (x + 1) y =
    c.load-centre.ensures.value
    ∙ part_from p x (x + 1) y 1 row c.sixteen-2.result.now refl (omega arith) is c.sixteen-2.ensures.value
    c.sixteen-2.ensures.length in
    let a : c.load-after.result ≡ sixteen_from p (x + 1 + 1) y =
    c.load-after.ensures.value ∙ part_from p x (x + 1 + 1) y 2 row c.sixteen-3.result.now (omega arith)
    (omega arith) is c.sixteen-3.ensures.value c.sixteen-3.ensures.length in
    let hb = c.load-before.ensures.samples in
    let hm = c.load-centre.ensures.samples in
    let ha = c.load-after.ensures.samples in
    record {
      before = subst (IsRowOfSamples 16) b (samples_are hb);
      middle = subst (IsRowOfSamples 16) m (samples_are hm);
      after = subst (IsRowOfSamples 16) a (samples_are ha);
      centre_samples = samples_are hm;
      left_samples = samples_are c.mean.ensures.samples;
      right_samples = samples_are c.mean-2.ensures.samples;
      left_odd_long = lanes bit_xor c.load-before.result c.load-centre.result hb.0 hm.0;
      right_odd_long = lanes bit_xor c.load-centre.result c.load-after.result hm.0 ha.0;
      centre = m;
      left = record { mean = c.mean.ensures.value ∙ cc (b, m); odd = cc (b, m) };
      right = record { mean = c.mean-2.ensures.value ∙ cc (m, a); odd = cc (m, a) };
    }
