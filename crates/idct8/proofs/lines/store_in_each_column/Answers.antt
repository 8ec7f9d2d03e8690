use Rattle.std.proofs.Common.{◌≡◌, ◌*◌, ◌<◌, ◌∙◌, ap, arith, lit≤, List, ℤ, ℕ, map, length, w16, to_z, of_z}
use Rattle.std.proofs.lemmas.Int.{ints}
use Rattle.std.proofs.lemmas.Simd.{length-put_chunk}
use Rattle.idct8.specs.Ranges.{Within}
use Rattle.idct8.specs.Transform.{entry}
use Rattle.idct8.specs.Vectors.{lane, EightWithin}
use Rattle.idct8.proofs.Factors.{within_same}
use Rattle.idct8.proofs.Stores.{row_step}
use Rattle.idct8.proofs.Vectors.{passed_lane16, passed_within16}
use Rattle.idct8.proofs.lines.store_in_each_column.Goals as goal

number_kept : (z : ℤ) → Within 32000 z → to_z w16 (of_z w16 z) ≡ z
number_kept z h = omega (arith, ints)

pub eight_of-requires : goal.eight_of-requires
eight_of-requires c =
    let eight : EightWithin 32000 (map (to_z w16) (map (of_z w16) c.args.v)) = passed_within16 32000 32000 (lit≤ tt)
    (lit≤ tt) c.requires in
    let number = eight.within c.loop-r.r c.loop-r-test.true in
    within_same 32000 32000 (lit≤ tt) (number_kept (lane (map (to_z w16) (map (of_z w16) c.args.v)) c.loop-r.r) number)
    number

pub store-requires-clause-v : goal.store-requires-clause-v
store-requires-clause-v c = passed_within16 32000 32000 (lit≤ tt) (lit≤ tt) c.eight_of.ensures.size

pub loop-r-preserved : goal.loop-r-preserved
loop-r-preserved c =
    let r = c.loop-r.r in
    let out = c.loop-r.out in
    let numbers : List ℤ = map (to_z w16) (map (of_z w16) c.args.v) in
    let v : List ℤ = map (to_z w16) (map (of_z w16) c.eight_of.result) in
    let given : EightWithin 32000 numbers = passed_within16 32000 32000 (lit≤ tt) (lit≤ tt) c.requires in
    let eight : EightWithin 32000 v = passed_within16 32000 32000 (lit≤ tt) (lit≤ tt) c.eight_of.ensures.size in
    let own = λ (k : ℕ) (hk : k < 8). passed_lane16 32000 k (lit≤ tt) c.eight_of.ensures.size
    ∙ c.eight_of.ensures.numbers k hk ∙ number_kept (lane numbers r) (given.within r c.loop-r-test.true) in (
      ap length c.store.ensures ∙ length-put_chunk (8 * r) out v ∙ c.loop-r.invariant.0,
      λ j k hj hk. ap (λ (u : List ℤ). entry u j k) c.store.ensures
          ∙ row_step (λ r k. lane numbers r) out v r c.loop-r.invariant.0 eight.long c.loop-r-test.true own
          c.loop-r.invariant.1 j k hj hk,
    )

pub returns : goal.returns
returns c r k hr hk = c.loop-r.invariant.1 r k (omega (arith, hr, c.loop-r-test.false)) hk
    ∙ passed_lane16 32000 r (lit≤ tt) c.requires
