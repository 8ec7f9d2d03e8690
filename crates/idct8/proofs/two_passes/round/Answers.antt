use Rattle.std.proofs.Common.{◌≡◌, ℕ, ◌*◌, ◌<◌, ◌^◌, ◌∙◌, List, ℤ, pos, ap, lit≤, length, ◌+ℤ◌, ◌*ℤ◌}
use lib.Lanes.{put_chunk}
use Rattle.std.proofs.lemmas.Simd.{length-put_chunk}
use Rattle.idct8.specs.Transform.{entry, rounded}
use Rattle.idct8.specs.Vectors.{lane, sum_at}
use Rattle.idct8.proofs.Vectors.{passed, passed_within, passed_lane}
use Rattle.idct8.proofs.Steps.{same_rounded}
use Rattle.idct8.proofs.Stores.{row_step}
use Rattle.idct8.proofs.two_passes.round.Goals as goal

pub nearest-requires-clause-high : goal.nearest-requires-clause-high
nearest-requires-clause-high c = passed_within (2 ^ 30) (2 ^ 30) (lit≤ tt) (lit≤ tt)
    (c.requires.high c.loop-r.r c.loop-r-test.true)

pub nearest-requires-clause-low : goal.nearest-requires-clause-low
nearest-requires-clause-low c = passed_within (2 ^ 30) (2 ^ 30) (lit≤ tt) (lit≤ tt)
    (c.requires.low c.loop-r.r c.loop-r-test.true)

pub store-requires-clause-v : goal.store-requires-clause-v
store-requires-clause-v c = passed_within 270000 270000 (lit≤ tt) (lit≤ tt) c.nearest.ensures.size

pub loop-r-preserved : goal.loop-r-preserved
loop-r-preserved c =
    let r = c.loop-r.r in
    let out = c.loop-r.out in
    let v : List ℤ = c.nearest.result in
    let is = c.store.ensures
    ∙ ap (λ (u : List ℤ). put_chunk (8 * r) out u) (passed 270000 (lit≤ tt) c.nearest.ensures.size) in
    let own : (k : ℕ) → k < 8
    → lane v k ≡ rounded (pos 8192 *ℤ lane (sum_at c.args.high r) k +ℤ lane (sum_at c.args.low r) k) = λ k hk.
    c.nearest.ensures.value k hk
    ∙ same_rounded (passed_lane (2 ^ 30) k (lit≤ tt) (c.requires.high r c.loop-r-test.true))
    (passed_lane (2 ^ 30) k (lit≤ tt) (c.requires.low r c.loop-r-test.true)) in (
      ap length is ∙ length-put_chunk (8 * r) out v ∙ c.loop-r.invariant.0,
      λ j k hj hk. ap (λ (u : List ℤ). entry u j k) is
          ∙ row_step (λ r k. rounded (pos 8192 *ℤ lane (sum_at c.args.high r) k +ℤ lane (sum_at c.args.low r) k)) out v
          r c.loop-r.invariant.0 c.nearest.ensures.size.long c.loop-r-test.true own c.loop-r.invariant.1 j k hj hk,
    )
