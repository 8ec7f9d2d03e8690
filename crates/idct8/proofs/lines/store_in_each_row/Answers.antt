use Rattle.std.proofs.Common.{◌*◌, ◌∙◌, ap, arith, refl, lit≤, List, ℤ, map, length, w16, to_z, of_z}
use Rattle.std.proofs.lemmas.Simd.{length-put_chunk}
use Rattle.idct8.specs.Transform.{entry}
use Rattle.idct8.specs.Vectors.{lane, EightWithin}
use Rattle.idct8.proofs.Stores.{row_step}
use Rattle.idct8.proofs.Vectors.{passed_lane16, passed_within16}
use Rattle.idct8.proofs.lines.store_in_each_row.Goals as goal

pub store-requires-clause-v : goal.store-requires-clause-v
store-requires-clause-v c = passed_within16 32000 32000 (lit≤ tt) (lit≤ tt) c.requires

pub loop-r-preserved : goal.loop-r-preserved
loop-r-preserved c =
    let r = c.loop-r.r in
    let out = c.loop-r.out in
    let v : List ℤ = map (to_z w16) (map (of_z w16) c.args.v) in
    let eight : EightWithin 32000 v = passed_within16 32000 32000 (lit≤ tt) (lit≤ tt) c.requires in (
      ap length c.store.ensures ∙ length-put_chunk (8 * r) out v ∙ c.loop-r.invariant.0,
      λ j k hj hk. ap (λ (u : List ℤ). entry u j k) c.store.ensures
          ∙ row_step (λ r k. lane v k) out v r c.loop-r.invariant.0 eight.long c.loop-r-test.true
          (λ k hk. refl) c.loop-r.invariant.1 j k hj hk,
    )

pub returns : goal.returns
returns c r k hr hk = c.loop-r.invariant.1 r k (omega (arith, hr, c.loop-r-test.false)) hk
    ∙ passed_lane16 32000 k (lit≤ tt) c.requires
