use Rattle.std.proofs.Common.{◌*◌, ◌∙◌, List, ℤ, ap, lit≤, length, refl}
use lib.Lanes.{put_chunk}
use Rattle.std.proofs.lemmas.Simd.{length-put_chunk}
use Rattle.idct8.specs.Transform.{entry}
use Rattle.idct8.specs.Vectors.{lane, row_at}
use Rattle.idct8.proofs.Vectors.{passed16, passed_within16}
use Rattle.idct8.proofs.Stores.{row_step}
use Rattle.idct8.proofs.sixteenths.put_rows.Goals as goal

pub store-requires-clause-v : goal.store-requires-clause-v
store-requires-clause-v c = passed_within16 32640 32640 (lit≤ tt) (lit≤ tt) (c.requires c.loop-j.j c.loop-j-test.true)

pub loop-j-preserved : goal.loop-j-preserved
loop-j-preserved c =
    let j = c.loop-j.j in
    let out = c.loop-j.out in
    let v : List ℤ = row_at c.args.r j in
    let small = c.requires j c.loop-j-test.true in
    let is = c.store.ensures ∙ ap (λ (u : List ℤ). put_chunk (8 * j) out u) (passed16 32640 (lit≤ tt) small) in (
      ap length is ∙ length-put_chunk (8 * j) out v ∙ c.loop-j.invariant.0,
      λ k i hk hi. ap (λ (u : List ℤ). entry u k i) is
          ∙ row_step (λ k i. lane (row_at c.args.r k) i) out v j c.loop-j.invariant.0 small.long c.loop-j-test.true
          (λ i hi. refl) c.loop-j.invariant.1 k i hk hi,
    )
