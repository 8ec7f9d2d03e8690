-- The sums fit 16 bits, and so do eight times these.
use Rattle.std.proofs.Common.{◌∙◌, ap, lit≤, w16, ℕ, ℤ, pos, ◌+ℤ◌, ◌-ℤ◌, ◌*ℤ◌, List, map, of_z}
use lib.Lanes.{zip2}
use Rattle.idct8.specs.Vectors.{lane, EightWithin}
use Rattle.idct8.proofs.Vectors.{Words, plus16, minus16, sum_words16, difference_words16, own_words, numbers16, numbers_small16, passed_lane16, passed_within16}
use Rattle.idct8.proofs.sixteenths.eight_times.Goals as goal

abbrev two : List ℤ → List ℤ → List ℕ
two a b = zip2 plus16 (map (of_z w16) a) (map (of_z w16) b)

pair_words : (a b : List ℤ) → EightWithin 510 a → EightWithin 510 b
    → Words w16 1020 (two a b) (λ i. lane a i +ℤ lane b i)
pair_words a b ha hb = sum_words16 (lit≤ tt) (own_words w16 510 a ha) (own_words w16 510 b hb)

all_words : (a b p q : List ℤ) → EightWithin 510 a → EightWithin 510 b → EightWithin 510 p → EightWithin 510 q
    → Words w16 2040 (zip2 plus16 (two a b) (two p q)) (λ i. lane a i +ℤ lane b i +ℤ (lane p i +ℤ lane q i))
all_words a b p q ha hb hp hq = sum_words16 (lit≤ tt) (pair_words a b ha hb) (pair_words p q hp hq)

less_words : (a b p q : List ℤ) → EightWithin 510 a → EightWithin 510 b → EightWithin 510 p → EightWithin 510 q
    → Words w16 2040 (zip2 minus16 (two a b) (two p q)) (λ i. lane a i +ℤ lane b i -ℤ (lane p i +ℤ lane q i))
less_words a b p q ha hb hp hq = difference_words16 (lit≤ tt) (pair_words a b ha hb) (pair_words p q hp hq)

pub doubled_thrice-requires : goal.doubled_thrice-requires
doubled_thrice-requires c = numbers_small16 2040 (lit≤ tt) (lit≤ tt)
    (all_words c.args.p0 c.args.p3 c.args.p1 c.args.p2 c.requires.p0 c.requires.p3 c.requires.p1 c.requires.p2)

pub doubled_thrice-requires-2 : goal.doubled_thrice-requires-2
doubled_thrice-requires-2 c = numbers_small16 2040 (lit≤ tt) (lit≤ tt)
    (less_words c.args.p0 c.args.p3 c.args.p1 c.args.p2 c.requires.p0 c.requires.p3 c.requires.p1 c.requires.p2)

pub returns-clause-sum : goal.returns-clause-sum
returns-clause-sum c i hi =
    passed_lane16 16320 i (lit≤ tt) c.doubled_thrice.ensures.size
    ∙ c.doubled_thrice.ensures.product i hi
    ∙ ap (λ (z : ℤ). pos 8 *ℤ z) (numbers16 (lit≤ tt) (all_words c.args.p0 c.args.p3 c.args.p1 c.args.p2
    c.requires.p0 c.requires.p3 c.requires.p1 c.requires.p2) i hi)

pub returns-clause-difference : goal.returns-clause-difference
returns-clause-difference c i hi =
    passed_lane16 16320 i (lit≤ tt) c.doubled_thrice-2.ensures.size
    ∙ c.doubled_thrice-2.ensures.product i hi
    ∙ ap (λ (z : ℤ). pos 8 *ℤ z) (numbers16 (lit≤ tt) (less_words c.args.p0 c.args.p3 c.args.p1 c.args.p2
    c.requires.p0 c.requires.p3 c.requires.p1 c.requires.p2) i hi)

pub returns-clause-sum_size : goal.returns-clause-sum_size
returns-clause-sum_size c = passed_within16 16320 16320 (lit≤ tt) (lit≤ tt) c.doubled_thrice.ensures.size

pub returns-clause-difference_size : goal.returns-clause-difference_size
returns-clause-difference_size c = passed_within16 16320 16320 (lit≤ tt) (lit≤ tt) c.doubled_thrice-2.ensures.size
