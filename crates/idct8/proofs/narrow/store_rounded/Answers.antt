use Rattle.std.proofs.Common.{◌≡◌, ℕ, ◌*◌, ◌-◌, ◌^◌, ◌<◌, ◌∙◌, List, ℤ, ap, lit≤, length}
use lib.Lanes.{put_chunk}
use Rattle.std.specs.Int.{int_shr}
use Rattle.std.proofs.lemmas.Simd.{length-put_chunk}
use Rattle.idct8.specs.Transform.{entry}
use Rattle.idct8.specs.Vectors.{lane, sum_at}
use Rattle.idct8.proofs.Stores.{row_step}
use Rattle.idct8.proofs.Vectors.{passed16, passed_within, passed_within16, passed_lane}
use Rattle.idct8.proofs.narrow.store_rounded.Goals as goal

pub quotients-requires : goal.quotients-requires
quotients-requires c = passed_within (2 ^ 31 - 1) (2 ^ 31 - 1) (lit≤ tt) (lit≤ tt)
    (c.requires c.loop-r.r c.loop-r-test.true)

pub store-requires-clause-v : goal.store-requires-clause-v
store-requires-clause-v c = passed_within16 64 32000 (lit≤ tt) (lit≤ tt) c.quotients.ensures.size

pub loop-r-preserved : goal.loop-r-preserved
loop-r-preserved c =
    let r = c.loop-r.r in
    let out = c.loop-r.out in
    let v : List ℤ = c.quotients.result in
    let is = c.store.ensures
    ∙ ap (λ (u : List ℤ). put_chunk (8 * r) out u) (passed16 64 (lit≤ tt) c.quotients.ensures.size) in
    let own : (k : ℕ) → k < 8 → lane v k ≡ int_shr (lane (sum_at c.args.s r) k) 25 = λ k hk.
    c.quotients.ensures.value k hk
    ∙ ap (λ (z : ℤ). int_shr z 25) (passed_lane (2 ^ 31 - 1) k (lit≤ tt) (c.requires r c.loop-r-test.true)) in (
      ap length is ∙ length-put_chunk (8 * r) out v ∙ c.loop-r.invariant.0,
      λ j k hj hk. ap (λ (u : List ℤ). entry u j k) is
          ∙ row_step (λ r k. int_shr (lane (sum_at c.args.s r) k) 25) out v r c.loop-r.invariant.0
          c.quotients.ensures.size.long c.loop-r-test.true own c.loop-r.invariant.1 j k hj hk,
    )
