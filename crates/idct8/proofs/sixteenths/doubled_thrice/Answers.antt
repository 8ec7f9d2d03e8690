use Rattle.std.proofs.Common.{◌≡◌, ◌∙◌, ℤ, pos, ◌+ℤ◌, ◌*ℤ◌, List, map, lit≤, arith, w16, of_z}
use Rattle.std.proofs.lemmas.Int.{ints}
use Rattle.idct8.specs.Vectors.{lane, EightWithin}
use Rattle.idct8.proofs.Vectors.{Words, plus16, sum_words16, own_words, numbers16, numbers_small16}
use lib.Lanes.{zip2}
use Rattle.idct8.proofs.sixteenths.doubled_thrice.Goals as goal

-- the words that are doubled three times
eight : (v : List ℤ) → EightWithin 2040 v → Words w16 16320
    (zip2 plus16 (zip2 plus16 (zip2 plus16 (map (of_z w16) v) (map (of_z w16) v))
    (zip2 plus16 (map (of_z w16) v) (map (of_z w16) v)))
    (zip2 plus16 (zip2 plus16 (map (of_z w16) v) (map (of_z w16) v))
    (zip2 plus16 (map (of_z w16) v) (map (of_z w16) v))))
    (λ i. lane v i +ℤ lane v i +ℤ (lane v i +ℤ lane v i) +ℤ (lane v i +ℤ lane v i +ℤ (lane v i +ℤ lane v i)))
eight v h =
    let one = own_words w16 2040 v h in
    let two = sum_words16 (lit≤ tt) one one in
    let four = sum_words16 (lit≤ tt) two two in
    sum_words16 (lit≤ tt) four four

thrice : (z : ℤ) → z +ℤ z +ℤ (z +ℤ z) +ℤ (z +ℤ z +ℤ (z +ℤ z)) ≡ pos 8 *ℤ z
thrice z = omega (arith, ints)

pub returns-clause-product : goal.returns-clause-product
returns-clause-product c i hi = numbers16 (lit≤ tt) (eight c.args.v c.requires) i hi ∙ thrice (lane c.args.v i)

pub returns-clause-size : goal.returns-clause-size
returns-clause-size c = numbers_small16 16320 (lit≤ tt) (lit≤ tt) (eight c.args.v c.requires)
