-- The sums of a row by its two halves: the even rows of the basis are symmetric and the odd ones antisymmetric.
use Rattle.std.proofs.Common.{◌≡◌, ℕ, zero, suc, ◌+◌, ◌*◌, ◌-◌, ◌^◌, ◌<◌, ◌∙◌, List, [], ◌∷◌, ◌++◌, map, length, get_or, refl, ap, sym, subst, arith, lit≤, lit<, ℤ, pos, negsuc, neg_ℤ, ◌+ℤ◌, ◌-ℤ◌, ◌*ℤ◌, w16, w32, to_z, of_z}
use lib.Lanes.{zip2, pick_l}
use Rattle.std.proofs.lemmas.Int.{ints}
use Rattle.std.proofs.lemmas.List.{get_or-map, length-map, get_or_append_left, get_or-append_right}
use Rattle.std.proofs.lemmas.Simd.{get_or-zip2, length-zip2}
use Rattle.idct8.specs.declared.passes.Direction.TheVariants.{Inverse}
use Rattle.idct8.specs.Passes.{pass_at}
use Rattle.idct8.specs.Ranges.{Within}
use Rattle.idct8.specs.Sums.{sum_below}
use Rattle.idct8.specs.Basis.{basis}
use Rattle.idct8.specs.Vectors.{lane, EightWithin, SixteenWithin}
use Rattle.idct8.proofs.Sums.{below_eight}
use Rattle.idct8.proofs.Vectors.{Words, difference_words, minus, own_words, plus, sum_words, times, times_is, wide, wide_is}
use Rattle.idct8.proofs.Weaving.{joined, of_left}
use Rattle.idct8.proofs.Wraps.{within_more, within_mul}

below_four : (P : ℕ → Type 0) → P 0 → P 1 → P 2 → P 3 → (k : ℕ) → k < 4 → P k
below_four P p0 p1 p2 p3 zero h = p0
below_four P p0 p1 p2 p3 (suc zero) h = p1
below_four P p0 p1 p2 p3 (suc (suc zero)) h = p2
below_four P p0 p1 p2 p3 (suc (suc (suc zero))) h = p3
below_four P p0 p1 p2 p3 (suc (suc (suc (suc k)))) h = absurd (omega arith)

below_sixteen : (P : ℕ → Type 0) → P 0 → P 1 → P 2 → P 3 → P 4 → P 5 → P 6 → P 7 → P 8 → P 9 → P 10 → P 11 → P 12 → P 13
    → P 14 → P 15 → (k : ℕ) → k < 16 → P k
below_sixteen P p0 p1 p2 p3 p4 p5 p6 p7 p8 p9 p10 p11 p12 p13 p14 p15 zero h = p0
below_sixteen P p0 p1 p2 p3 p4 p5 p6 p7 p8 p9 p10 p11 p12 p13 p14 p15 (suc zero) h = p1
below_sixteen P p0 p1 p2 p3 p4 p5 p6 p7 p8 p9 p10 p11 p12 p13 p14 p15 (suc (suc zero)) h = p2
below_sixteen P p0 p1 p2 p3 p4 p5 p6 p7 p8 p9 p10 p11 p12 p13 p14 p15 (suc (suc (suc zero))) h = p3
below_sixteen P p0 p1 p2 p3 p4 p5 p6 p7 p8 p9 p10 p11 p12 p13 p14 p15 (suc (suc (suc (suc zero)))) h = p4
below_sixteen P p0 p1 p2 p3 p4 p5 p6 p7 p8 p9 p10 p11 p12 p13 p14 p15 (suc (suc (suc (suc (suc zero))))) h = p5
below_sixteen P p0 p1 p2 p3 p4 p5 p6 p7 p8 p9 p10 p11 p12 p13 p14 p15 (suc (suc (suc (suc (suc (suc zero)))))) h = p6
below_sixteen P p0 p1 p2 p3 p4 p5 p6 p7 p8 p9 p10 p11 p12 p13 p14 p15 (suc (suc (suc (suc (suc (suc (suc zero))))))) h =
    p7
below_sixteen P p0 p1 p2 p3 p4 p5 p6 p7 p8 p9 p10 p11 p12 p13 p14 p15
    (suc (suc (suc (suc (suc (suc (suc (suc zero)))))))) h = p8
below_sixteen P p0 p1 p2 p3 p4 p5 p6 p7 p8 p9 p10 p11 p12 p13 p14 p15
    (suc (suc (suc (suc (suc (suc (suc (suc (suc zero))))))))) h = p9
below_sixteen P p0 p1 p2 p3 p4 p5 p6 p7 p8 p9 p10 p11 p12 p13 p14 p15
    (suc (suc (suc (suc (suc (suc (suc (suc (suc (suc zero)))))))))) h = p10
below_sixteen P p0 p1 p2 p3 p4 p5 p6 p7 p8 p9 p10 p11 p12 p13 p14 p15
    (suc (suc (suc (suc (suc (suc (suc (suc (suc (suc (suc zero))))))))))) h = p11
below_sixteen P p0 p1 p2 p3 p4 p5 p6 p7 p8 p9 p10 p11 p12 p13 p14 p15
    (suc (suc (suc (suc (suc (suc (suc (suc (suc (suc (suc (suc zero)))))))))))) h = p12
below_sixteen P p0 p1 p2 p3 p4 p5 p6 p7 p8 p9 p10 p11 p12 p13 p14 p15
    (suc (suc (suc (suc (suc (suc (suc (suc (suc (suc (suc (suc (suc zero))))))))))))) h = p13
below_sixteen P p0 p1 p2 p3 p4 p5 p6 p7 p8 p9 p10 p11 p12 p13 p14 p15
    (suc (suc (suc (suc (suc (suc (suc (suc (suc (suc (suc (suc (suc (suc zero)))))))))))))) h = p14
below_sixteen P p0 p1 p2 p3 p4 p5 p6 p7 p8 p9 p10 p11 p12 p13 p14 p15
    (suc (suc (suc (suc (suc (suc (suc (suc (suc (suc (suc (suc (suc (suc (suc zero))))))))))))))) h = p15
below_sixteen P p0 p1 p2 p3 p4 p5 p6 p7 p8 p9 p10 p11 p12 p13 p14 p15
    (suc (suc (suc (suc (suc (suc (suc (suc (suc (suc (suc (suc (suc (suc (suc (suc k)))))))))))))))) h =
    absurd (omega arith)

-- ---- sums of two products of neighbours

abbrev pub evens : List ℕ
evens = 0 ∷ 2 ∷ 4 ∷ 6 ∷ 8 ∷ 10 ∷ 12 ∷ 14 ∷ []

abbrev pub odds : List ℕ
odds = 1 ∷ 3 ∷ 5 ∷ 7 ∷ 9 ∷ 11 ∷ 13 ∷ 15 ∷ []

module _ (a m : List ℤ) (ha : SixteenWithin 8191 a) (hm : SixteenWithin 2841 m) where
  long_a : length (map wide (map (of_z w16) a)) ≡ 16
  long_a = length-map (map (of_z w16) a) wide ∙ length-map a (of_z w16) ∙ ha.long

  long_m : length (map (of_z w32) m) ≡ 16
  long_m = length-map m (of_z w32) ∙ hm.long

  products_long : length (zip2 times (map wide (map (of_z w16) a)) (map (of_z w32) m)) ≡ 16
  products_long = length-zip2 times (map wide (map (of_z w16) a)) (map (of_z w32) m) (long_a ∙ sym long_m) ∙ long_a

  product : (i : ℕ) → i < 16 → get_or (zip2 times (map wide (map (of_z w16) a)) (map (of_z w32) m)) i 0
      ≡ of_z w32 (lane m i *ℤ lane a i)
  product i hi =
      get_or-zip2 times (map wide (map (of_z w16) a)) (map (of_z w32) m) i 0 0 0 (omega (arith, long_a))
      (omega (arith, long_m))
      ∙ cc (
        get_or-map wide (map (of_z w16) a) i 0 0 (omega (arith, length-map a (of_z w16), ha.long)),
        get_or-map (of_z w16) a i (pos 0) 0 (omega (arith, ha.long)),
        wide_is (lane a i) (within_more 8191 32767 (lane a i) (lit≤ tt) (ha.within i hi)),
        get_or-map (of_z w32) m i (pos 0) 0 (omega (arith, hm.long)),
        times_is (lane a i) (lane m i) (within_more 8191 32767 (lane a i) (lit≤ tt) (ha.within i hi))
            (within_more 2841 (2 ^ 12) (lane m i) (lit≤ tt) (hm.within i hi)),
      )

  small_product : (i : ℕ) → i < 16 → Within (2841 * 8191) (lane m i *ℤ lane a i)
  small_product i hi = within_mul 2841 8191 (lane m i) (lane a i) (hm.within i hi) (ha.within i hi)

-- eight of sixteen words
picked_words : (T : List ℕ) (f : ℕ → ℤ) (n : ℕ) → length T ≡ 16 → ((i : ℕ) → i < 16 → get_or T i 0 ≡ of_z w32 (f i))
    → ((i : ℕ) → i < 16 → Within n (f i)) →
    Words w32 n (pick_l 0 (T ++ T) evens) (λ i. f (2 * i)) × Words w32 n (pick_l 0 (T ++ T) odds) (λ i. f (2 * i + 1))
picked_words T f n long spelt small = (
  record {
    long = refl;
    spelt = below_eight (λ i. get_or (pick_l 0 (T ++ T) evens) i 0 ≡ of_z w32 (f (2 * i))) (at 0 (lit< tt))
        (at 2 (lit< tt)) (at 4 (lit< tt)) (at 6 (lit< tt)) (at 8 (lit< tt)) (at 10 (lit< tt)) (at 12 (lit< tt))
        (at 14 (lit< tt));
    small = λ i hi. small (2 * i) (omega arith);
  },
  record {
    long = refl;
    spelt = below_eight (λ i. get_or (pick_l 0 (T ++ T) odds) i 0 ≡ of_z w32 (f (2 * i + 1))) (at 1 (lit< tt))
        (at 3 (lit< tt)) (at 5 (lit< tt)) (at 7 (lit< tt)) (at 9 (lit< tt)) (at 11 (lit< tt)) (at 13 (lit< tt))
        (at 15 (lit< tt));
    small = λ i hi. small (2 * i + 1) (omega arith);
  },
)
  where
    at : (k : ℕ) → k < 16 → get_or (T ++ T) k 0 ≡ of_z w32 (f k)
    at k hk = get_or_append_left T T 0 k (omega (arith, long)) ∙ spelt k hk

pub dot_words : (a m : List ℤ) → SixteenWithin 8191 a → SixteenWithin 2841 m
    → let T = zip2 times (map wide (map (of_z w16) a)) (map (of_z w32) m) in
    Words w32 (2841 * 8191 + 2841 * 8191) (zip2 plus (pick_l 0 (T ++ T) evens) (pick_l 0 (T ++ T) odds))
    (λ i. lane m (2 * i) *ℤ lane a (2 * i) +ℤ lane m (2 * i + 1) *ℤ lane a (2 * i + 1))
dot_words a m ha hm =
    let T = zip2 times (map wide (map (of_z w16) a)) (map (of_z w32) m) in
    let both = picked_words T (λ i. lane m i *ℤ lane a i) (2841 * 8191) (products_long a m ha hm) (product a m ha hm)
    (small_product a m ha hm) in
    sum_words (lit≤ tt) both.0 both.1

-- ---- halves that are unfolded

abbrev swapped_l : List ℤ → List ℤ
swapped_l h = lane h 4 ∷ lane h 5 ∷ lane h 6 ∷ lane h 7 ∷ lane h 0 ∷ lane h 1 ∷ lane h 2 ∷ lane h 3 ∷ []

abbrev pub unfolded_l : List ℤ → List ℤ
unfolded_l h =
    (lane h 0 +ℤ lane h 4) ∷ (lane h 1 +ℤ lane h 5) ∷ (lane h 2 +ℤ lane h 6) ∷ (lane h 3 +ℤ lane h 7)
    ∷ (lane h 3 -ℤ lane h 7) ∷ (lane h 2 -ℤ lane h 6) ∷ (lane h 1 -ℤ lane h 5) ∷ (lane h 0 -ℤ lane h 4) ∷ []

abbrev swaps : List ℕ
swaps = 4 ∷ 5 ∷ 6 ∷ 7 ∷ 0 ∷ 1 ∷ 2 ∷ 3 ∷ []

abbrev unfolds : List ℕ
unfolds = 0 ∷ 1 ∷ 2 ∷ 3 ∷ 11 ∷ 10 ∷ 9 ∷ 8 ∷ []

swapped_words : (h : List ℤ) → EightWithin (2 ^ 27) h
    → Words w32 (2 ^ 27) (pick_l 0 (map (of_z w32) h ++ map (of_z w32) h) swaps) (lane (swapped_l h))
swapped_words h hh = record {
  long = refl;
  spelt = below_eight (λ i. get_or (pick_l 0 (map (of_z w32) h ++ map (of_z w32) h) swaps) i 0
      ≡ of_z w32 (lane (swapped_l h) i)) (at 4 (lit< tt)) (at 5 (lit< tt)) (at 6 (lit< tt)) (at 7 (lit< tt))
      (at 0 (lit< tt)) (at 1 (lit< tt)) (at 2 (lit< tt)) (at 3 (lit< tt));
  small = below_eight (λ i. Within (2 ^ 27) (lane (swapped_l h) i)) (hh.within 4 (lit< tt)) (hh.within 5 (lit< tt))
      (hh.within 6 (lit< tt)) (hh.within 7 (lit< tt)) (hh.within 0 (lit< tt)) (hh.within 1 (lit< tt))
      (hh.within 2 (lit< tt)) (hh.within 3 (lit< tt));
}
  where
    at : (k : ℕ) → k < 8 → get_or (map (of_z w32) h ++ map (of_z w32) h) k 0 ≡ of_z w32 (lane h k)
    at k hk = get_or_append_left (map (of_z w32) h) (map (of_z w32) h) 0 k (omega (
      arith,
      length-map h (of_z w32),
      hh.long,
    )) ∙ get_or-map (of_z w32) h k (pos 0) 0 (omega (arith, hh.long))

-- the words of the sums, then those of the differences from the last to the first
abbrev pub unfolded_of : List ℤ → List ℕ
unfolded_of h =
    let own = map (of_z w32) h in
    let swapped = pick_l 0 (own ++ own) swaps in
    pick_l 0 (zip2 plus own swapped ++ zip2 minus own swapped) unfolds

pub unfolded_words : (h : List ℤ) → EightWithin (2 ^ 27) h
    → Words w32 (2 ^ 27 + 2 ^ 27) (unfolded_of h) (lane (unfolded_l h))
unfolded_words h hh = record {
  long = refl;
  spelt = below_eight (λ i. get_or (pick_l 0 (S ++ D) unfolds) i 0 ≡ of_z w32 (lane (unfolded_l h) i))
      (left 0 (lit< tt)) (left 1 (lit< tt)) (left 2 (lit< tt)) (left 3 (lit< tt)) (right 11 3 refl (lit< tt))
      (right 10 2 refl (lit< tt)) (right 9 1 refl (lit< tt)) (right 8 0 refl (lit< tt));
  small = below_eight (λ i. Within (2 ^ 27 + 2 ^ 27) (lane (unfolded_l h) i)) (sums.small 0 (lit< tt))
      (sums.small 1 (lit< tt)) (sums.small 2 (lit< tt)) (sums.small 3 (lit< tt)) (differences.small 3 (lit< tt))
      (differences.small 2 (lit< tt)) (differences.small 1 (lit< tt)) (differences.small 0 (lit< tt));
}
  where
    S : List ℕ
    S = zip2 plus (map (of_z w32) h) (pick_l 0 (map (of_z w32) h ++ map (of_z w32) h) swaps)

    D : List ℕ
    D = zip2 minus (map (of_z w32) h) (pick_l 0 (map (of_z w32) h ++ map (of_z w32) h) swaps)

    sums : Words w32 (2 ^ 27 + 2 ^ 27) S (λ i. lane h i +ℤ lane (swapped_l h) i)
    sums = sum_words (lit≤ tt) (own_words w32 (2 ^ 27) h hh) (swapped_words h hh)

    differences : Words w32 (2 ^ 27 + 2 ^ 27) D (λ i. lane h i -ℤ lane (swapped_l h) i)
    differences = difference_words (lit≤ tt) (own_words w32 (2 ^ 27) h hh) (swapped_words h hh)

    left : (k : ℕ) → k < 8 → get_or (S ++ D) k 0 ≡ of_z w32 (lane h k +ℤ lane (swapped_l h) k)
    left k hk = get_or_append_left S D 0 k (omega (arith, sums.long)) ∙ sums.spelt k hk

    right : (j k : ℕ) → j ≡ 8 + k → k < 8 → get_or (S ++ D) j 0 ≡ of_z w32 (lane h k -ℤ lane (swapped_l h) k)
    right j k e hk =
        let there : j - 8 ≡ k = omega arith in
        get_or-append_right S D 8 j 0 sums.long (omega arith) ∙ ap (λ (n : ℕ). get_or D n 0) there
        ∙ differences.spelt k hk

-- ---- a row

abbrev pub spread : List ℤ → ℕ → ℕ → ℕ → ℕ → List ℤ
spread r a b c d =
    let x = λ (k : ℕ). to_z w16 (get_or (joined r r) k 0) in
    x a ∷ x b ∷ x a ∷ x b ∷ x a ∷ x b ∷ x a ∷ x b ∷ x c ∷ x d ∷ x c ∷ x d ∷ x c ∷ x d ∷ x c ∷ x d ∷ []

pub spread_within : (r : List ℤ) (a b c d : ℕ) → EightWithin 8191 r → a < 8 → b < 8 → c < 8 → d < 8
    → SixteenWithin 8191 (spread r a b c d)
spread_within r a b c d h ha hb hc hd = record {
  long = refl;
  within = below_sixteen (λ i. Within 8191 (lane (spread r a b c d) i)) (at a ha) (at b hb) (at a ha) (at b hb)
      (at a ha) (at b hb) (at a ha) (at b hb) (at c hc) (at d hd) (at c hc) (at d hd) (at c hc) (at d hd) (at c hc)
      (at d hd);
}
  where
    at : (k : ℕ) → k < 8 → Within 8191 (to_z w16 (get_or (joined r r) k 0))
    at k hk = subst (Within 8191) (sym (of_left 8191 r r k (lit≤ tt) h hk)) (h.within k hk)

abbrev pub first_pairs : List ℤ
first_pairs = pos 2048 ∷ pos 2676 ∷ pos 2048 ∷ pos 1108 ∷ pos 2048 ∷ negsuc 1107 ∷ pos 2048 ∷ negsuc 2675 ∷ pos 2841 ∷
    pos 2408 ∷ pos 2408 ∷ negsuc 564 ∷ pos 1609 ∷ negsuc 2840 ∷ pos 565 ∷ negsuc 1608 ∷ []

abbrev pub last_pairs : List ℤ
last_pairs = pos 2048 ∷ pos 1108 ∷ negsuc 2047 ∷ negsuc 2675 ∷ negsuc 2047 ∷ pos 2676 ∷ pos 2048 ∷ negsuc 1107 ∷ pos
    1609 ∷ pos 565 ∷ negsuc 2840 ∷ negsuc 1608 ∷ pos 565 ∷ pos 2408 ∷ pos 2408 ∷ negsuc 2840 ∷ []

two_terms : (f g k l : ℤ) {t s a b c d y z p q x : ℤ} → x ≡ t +ℤ s → t ≡ f *ℤ a +ℤ g *ℤ b → s ≡ k *ℤ c +ℤ l *ℤ d → a ≡ y
    → b ≡ z → c ≡ p → d ≡ q →
    x ≡ f *ℤ y +ℤ g *ℤ z +ℤ (k *ℤ p +ℤ l *ℤ q)
two_terms f g k l e et es ea eb ec ed = cc (e, et, es, ea, eb, ec, ed)

-- the four even halves, then the four odd ones
abbrev pub halves_l : List ℤ → List ℤ
halves_l r =
    (pos 2048 *ℤ lane r 0 +ℤ pos 2676 *ℤ lane r 2 +ℤ (pos 2048 *ℤ lane r 4 +ℤ pos 1108 *ℤ lane r 6))
    ∷ (pos 2048 *ℤ lane r 0 +ℤ pos 1108 *ℤ lane r 2 +ℤ (negsuc 2047 *ℤ lane r 4 +ℤ negsuc 2675 *ℤ lane r 6))
    ∷ (pos 2048 *ℤ lane r 0 +ℤ negsuc 1107 *ℤ lane r 2 +ℤ (negsuc 2047 *ℤ lane r 4 +ℤ pos 2676 *ℤ lane r 6))
    ∷ (pos 2048 *ℤ lane r 0 +ℤ negsuc 2675 *ℤ lane r 2 +ℤ (pos 2048 *ℤ lane r 4 +ℤ negsuc 1107 *ℤ lane r 6))
    ∷ (pos 2841 *ℤ lane r 1 +ℤ pos 2408 *ℤ lane r 3 +ℤ (pos 1609 *ℤ lane r 5 +ℤ pos 565 *ℤ lane r 7))
    ∷ (pos 2408 *ℤ lane r 1 +ℤ negsuc 564 *ℤ lane r 3 +ℤ (negsuc 2840 *ℤ lane r 5 +ℤ negsuc 1608 *ℤ lane r 7))
    ∷ (pos 1609 *ℤ lane r 1 +ℤ negsuc 2840 *ℤ lane r 3 +ℤ (pos 565 *ℤ lane r 5 +ℤ pos 2408 *ℤ lane r 7))
    ∷ (pos 565 *ℤ lane r 1 +ℤ negsuc 1608 *ℤ lane r 3 +ℤ (pos 2408 *ℤ lane r 5 +ℤ negsuc 2840 *ℤ lane r 7)) ∷ []

pub halves_are : (r s t sums : List ℤ) → EightWithin 8191 r →
    ((i : ℕ) → i < 8 → lane s i ≡ lane first_pairs (2 * i) *ℤ lane (spread r 0 2 1 3) (2 * i) +ℤ lane first_pairs
    (2 * i + 1) *ℤ lane (spread r 0 2 1 3) (2 * i + 1)) →
    ((i : ℕ) → i < 8 → lane t i ≡ lane last_pairs (2 * i) *ℤ lane (spread r 4 6 5 7) (2 * i) +ℤ lane last_pairs
    (2 * i + 1) *ℤ lane (spread r 4 6 5 7) (2 * i + 1)) →
    ((i : ℕ) → i < 8 → lane sums i ≡ lane s i +ℤ lane t i) → (i : ℕ) → i < 8 → lane sums i ≡ lane (halves_l r) i
halves_are r s t sums h es et e = below_eight (λ i. lane sums i ≡ lane (halves_l r) i)
    (two_terms (pos 2048) (pos 2676) (pos 2048) (pos 1108) (e 0 (lit< tt)) (es 0 (lit< tt)) (et 0 (lit< tt))
    (at 0 (lit< tt)) (at 2 (lit< tt)) (at 4 (lit< tt)) (at 6 (lit< tt)))
    (two_terms (pos 2048) (pos 1108) (negsuc 2047) (negsuc 2675) (e 1 (lit< tt)) (es 1 (lit< tt)) (et 1 (lit< tt))
    (at 0 (lit< tt)) (at 2 (lit< tt)) (at 4 (lit< tt)) (at 6 (lit< tt)))
    (two_terms (pos 2048) (negsuc 1107) (negsuc 2047) (pos 2676) (e 2 (lit< tt)) (es 2 (lit< tt)) (et 2 (lit< tt))
    (at 0 (lit< tt)) (at 2 (lit< tt)) (at 4 (lit< tt)) (at 6 (lit< tt)))
    (two_terms (pos 2048) (negsuc 2675) (pos 2048) (negsuc 1107) (e 3 (lit< tt)) (es 3 (lit< tt)) (et 3 (lit< tt))
    (at 0 (lit< tt)) (at 2 (lit< tt)) (at 4 (lit< tt)) (at 6 (lit< tt)))
    (two_terms (pos 2841) (pos 2408) (pos 1609) (pos 565) (e 4 (lit< tt)) (es 4 (lit< tt)) (et 4 (lit< tt))
    (at 1 (lit< tt)) (at 3 (lit< tt)) (at 5 (lit< tt)) (at 7 (lit< tt)))
    (two_terms (pos 2408) (negsuc 564) (negsuc 2840) (negsuc 1608) (e 5 (lit< tt)) (es 5 (lit< tt)) (et 5 (lit< tt))
    (at 1 (lit< tt)) (at 3 (lit< tt)) (at 5 (lit< tt)) (at 7 (lit< tt)))
    (two_terms (pos 1609) (negsuc 2840) (pos 565) (pos 2408) (e 6 (lit< tt)) (es 6 (lit< tt)) (et 6 (lit< tt))
    (at 1 (lit< tt)) (at 3 (lit< tt)) (at 5 (lit< tt)) (at 7 (lit< tt)))
    (two_terms (pos 565) (negsuc 1608) (pos 2408) (negsuc 2840) (e 7 (lit< tt)) (es 7 (lit< tt)) (et 7 (lit< tt))
    (at 1 (lit< tt)) (at 3 (lit< tt)) (at 5 (lit< tt)) (at 7 (lit< tt)))
  where
    at : (k : ℕ) → k < 8 → to_z w16 (get_or (joined r r) k 0) ≡ lane r k
    at k hk = of_left 8191 r r k (lit≤ tt) h hk

module _ (c0 c1 c2 c3 c4 c5 c6 c7 : ℤ) where
  plain_0 : (pos 2048 *ℤ c0 +ℤ pos 2676 *ℤ c2 +ℤ (pos 2048 *ℤ c4 +ℤ pos 1108 *ℤ c6)) +ℤ
      (pos 2841 *ℤ c1 +ℤ pos 2408 *ℤ c3 +ℤ (pos 1609 *ℤ c5 +ℤ pos 565 *ℤ c7))
      ≡ pos 0 +ℤ pos 2048 *ℤ c0 +ℤ pos 2841 *ℤ c1 +ℤ pos 2676 *ℤ c2 +ℤ pos 2408 *ℤ c3 +ℤ pos 2048 *ℤ c4 +ℤ pos 1609 *ℤ
      c5 +ℤ pos 1108 *ℤ c6 +ℤ pos 565 *ℤ c7
  plain_0 = omega (arith, ints)

  plain_1 : (pos 2048 *ℤ c0 +ℤ pos 1108 *ℤ c2 +ℤ (negsuc 2047 *ℤ c4 +ℤ negsuc 2675 *ℤ c6)) +ℤ
      (pos 2408 *ℤ c1 +ℤ negsuc 564 *ℤ c3 +ℤ (negsuc 2840 *ℤ c5 +ℤ negsuc 1608 *ℤ c7))
      ≡ pos 0 +ℤ pos 2048 *ℤ c0 +ℤ pos 2408 *ℤ c1 +ℤ pos 1108 *ℤ c2 +ℤ neg_ℤ (pos 565) *ℤ c3 +ℤ neg_ℤ
      (pos 2048) *ℤ c4 +ℤ neg_ℤ (pos 2841) *ℤ c5 +ℤ neg_ℤ (pos 2676) *ℤ c6 +ℤ neg_ℤ (pos 1609) *ℤ c7
  plain_1 = omega (arith, ints)

  plain_2 : (pos 2048 *ℤ c0 +ℤ negsuc 1107 *ℤ c2 +ℤ (negsuc 2047 *ℤ c4 +ℤ pos 2676 *ℤ c6)) +ℤ
      (pos 1609 *ℤ c1 +ℤ negsuc 2840 *ℤ c3 +ℤ (pos 565 *ℤ c5 +ℤ pos 2408 *ℤ c7))
      ≡ pos 0 +ℤ pos 2048 *ℤ c0 +ℤ pos 1609 *ℤ c1 +ℤ neg_ℤ (pos 1108) *ℤ c2 +ℤ neg_ℤ (pos 2841) *ℤ c3 +ℤ neg_ℤ
      (pos 2048) *ℤ c4 +ℤ pos 565 *ℤ c5 +ℤ pos 2676 *ℤ c6 +ℤ pos 2408 *ℤ c7
  plain_2 = omega (arith, ints)

  plain_3 : (pos 2048 *ℤ c0 +ℤ negsuc 2675 *ℤ c2 +ℤ (pos 2048 *ℤ c4 +ℤ negsuc 1107 *ℤ c6)) +ℤ
      (pos 565 *ℤ c1 +ℤ negsuc 1608 *ℤ c3 +ℤ (pos 2408 *ℤ c5 +ℤ negsuc 2840 *ℤ c7))
      ≡ pos 0 +ℤ pos 2048 *ℤ c0 +ℤ pos 565 *ℤ c1 +ℤ neg_ℤ (pos 2676) *ℤ c2 +ℤ neg_ℤ (pos 1609) *ℤ c3 +ℤ pos 2048 *ℤ c4
      +ℤ pos 2408 *ℤ c5 +ℤ neg_ℤ (pos 1108) *ℤ c6 +ℤ neg_ℤ (pos 2841) *ℤ c7
  plain_3 = omega (arith, ints)

  plain_4 : (pos 2048 *ℤ c0 +ℤ negsuc 2675 *ℤ c2 +ℤ (pos 2048 *ℤ c4 +ℤ negsuc 1107 *ℤ c6)) -ℤ
      (pos 565 *ℤ c1 +ℤ negsuc 1608 *ℤ c3 +ℤ (pos 2408 *ℤ c5 +ℤ negsuc 2840 *ℤ c7))
      ≡ pos 0 +ℤ pos 2048 *ℤ c0 +ℤ neg_ℤ (pos 565) *ℤ c1 +ℤ neg_ℤ (pos 2676) *ℤ c2 +ℤ pos 1609 *ℤ c3 +ℤ pos 2048 *ℤ c4
      +ℤ neg_ℤ (pos 2408) *ℤ c5 +ℤ neg_ℤ (pos 1108) *ℤ c6 +ℤ pos 2841 *ℤ c7
  plain_4 = omega (arith, ints)

  plain_5 : (pos 2048 *ℤ c0 +ℤ negsuc 1107 *ℤ c2 +ℤ (negsuc 2047 *ℤ c4 +ℤ pos 2676 *ℤ c6)) -ℤ
      (pos 1609 *ℤ c1 +ℤ negsuc 2840 *ℤ c3 +ℤ (pos 565 *ℤ c5 +ℤ pos 2408 *ℤ c7))
      ≡ pos 0 +ℤ pos 2048 *ℤ c0 +ℤ neg_ℤ (pos 1609) *ℤ c1 +ℤ neg_ℤ (pos 1108) *ℤ c2 +ℤ pos 2841 *ℤ c3 +ℤ neg_ℤ
      (pos 2048) *ℤ c4 +ℤ neg_ℤ (pos 565) *ℤ c5 +ℤ pos 2676 *ℤ c6 +ℤ neg_ℤ (pos 2408) *ℤ c7
  plain_5 = omega (arith, ints)

  plain_6 : (pos 2048 *ℤ c0 +ℤ pos 1108 *ℤ c2 +ℤ (negsuc 2047 *ℤ c4 +ℤ negsuc 2675 *ℤ c6)) -ℤ
      (pos 2408 *ℤ c1 +ℤ negsuc 564 *ℤ c3 +ℤ (negsuc 2840 *ℤ c5 +ℤ negsuc 1608 *ℤ c7))
      ≡ pos 0 +ℤ pos 2048 *ℤ c0 +ℤ neg_ℤ (pos 2408) *ℤ c1 +ℤ pos 1108 *ℤ c2 +ℤ pos 565 *ℤ c3 +ℤ neg_ℤ
      (pos 2048) *ℤ c4 +ℤ pos 2841 *ℤ c5 +ℤ neg_ℤ (pos 2676) *ℤ c6 +ℤ pos 1609 *ℤ c7
  plain_6 = omega (arith, ints)

  plain_7 : (pos 2048 *ℤ c0 +ℤ pos 2676 *ℤ c2 +ℤ (pos 2048 *ℤ c4 +ℤ pos 1108 *ℤ c6)) -ℤ
      (pos 2841 *ℤ c1 +ℤ pos 2408 *ℤ c3 +ℤ (pos 1609 *ℤ c5 +ℤ pos 565 *ℤ c7))
      ≡ pos 0 +ℤ pos 2048 *ℤ c0 +ℤ neg_ℤ (pos 2841) *ℤ c1 +ℤ pos 2676 *ℤ c2 +ℤ neg_ℤ (pos 2408) *ℤ c3 +ℤ pos 2048 *ℤ c4
      +ℤ neg_ℤ (pos 1609) *ℤ c5 +ℤ pos 1108 *ℤ c6 +ℤ neg_ℤ (pos 565) *ℤ c7
  plain_7 = omega (arith, ints)

-- unfolded, they are the sums of the row
pub row_is : (r halves sums : List ℤ) → ((i : ℕ) → i < 8 → lane halves i ≡ lane (halves_l r) i) →
    ((k : ℕ) → k < 4 → lane sums k ≡ lane halves k +ℤ lane halves (4 + k)) →
    ((k : ℕ) → k < 4 → lane sums (7 - k) ≡ lane halves k -ℤ lane halves (4 + k)) →
    (k : ℕ) → k < 8 → lane sums k ≡ pass_at Inverse r k
unfolding basis sum_below
row_is r halves sums is added taken = below_eight (λ k. lane sums k ≡ pass_at Inverse r k)
    (plus_of (added 0 (lit< tt)) (is 0 (lit< tt)) (is 4 (lit< tt))
    ∙ plain_0 (lane r 0) (lane r 1) (lane r 2) (lane r 3) (lane r 4) (lane r 5) (lane r 6) (lane r 7))
    (plus_of (added 1 (lit< tt)) (is 1 (lit< tt)) (is 5 (lit< tt))
    ∙ plain_1 (lane r 0) (lane r 1) (lane r 2) (lane r 3) (lane r 4) (lane r 5) (lane r 6) (lane r 7))
    (plus_of (added 2 (lit< tt)) (is 2 (lit< tt)) (is 6 (lit< tt))
    ∙ plain_2 (lane r 0) (lane r 1) (lane r 2) (lane r 3) (lane r 4) (lane r 5) (lane r 6) (lane r 7))
    (plus_of (added 3 (lit< tt)) (is 3 (lit< tt)) (is 7 (lit< tt))
    ∙ plain_3 (lane r 0) (lane r 1) (lane r 2) (lane r 3) (lane r 4) (lane r 5) (lane r 6) (lane r 7))
    (minus_of (taken 3 (lit< tt)) (is 3 (lit< tt)) (is 7 (lit< tt))
    ∙ plain_4 (lane r 0) (lane r 1) (lane r 2) (lane r 3) (lane r 4) (lane r 5) (lane r 6) (lane r 7))
    (minus_of (taken 2 (lit< tt)) (is 2 (lit< tt)) (is 6 (lit< tt))
    ∙ plain_5 (lane r 0) (lane r 1) (lane r 2) (lane r 3) (lane r 4) (lane r 5) (lane r 6) (lane r 7))
    (minus_of (taken 1 (lit< tt)) (is 1 (lit< tt)) (is 5 (lit< tt))
    ∙ plain_6 (lane r 0) (lane r 1) (lane r 2) (lane r 3) (lane r 4) (lane r 5) (lane r 6) (lane r 7))
    (minus_of (taken 0 (lit< tt)) (is 0 (lit< tt)) (is 4 (lit< tt))
    ∙ plain_7 (lane r 0) (lane r 1) (lane r 2) (lane r 3) (lane r 4) (lane r 5) (lane r 6) (lane r 7))
  where
    plus_of : {x a b y z : ℤ} → x ≡ a +ℤ b → a ≡ y → b ≡ z → x ≡ y +ℤ z
    plus_of e ea eb = cc (e, ea, eb)

    minus_of : {x a b y z : ℤ} → x ≡ a -ℤ b → a ≡ y → b ≡ z → x ≡ y -ℤ z
    minus_of e ea eb = cc (e, ea, eb)

-- the sums in order and the differences
pub unfolded_sums : (h v : List ℤ) → ((i : ℕ) → i < 8 → lane v i ≡ lane (unfolded_l h) i) → (k : ℕ) → k < 4
    → lane v k ≡ lane h k +ℤ lane h (4 + k)
unfolded_sums h v is = below_four (λ k. lane v k ≡ lane h k +ℤ lane h (4 + k)) (is 0 (lit< tt)) (is 1 (lit< tt))
    (is 2 (lit< tt)) (is 3 (lit< tt))

pub unfolded_differences : (h v : List ℤ) → ((i : ℕ) → i < 8 → lane v i ≡ lane (unfolded_l h) i) → (k : ℕ) → k < 4
    → lane v (7 - k) ≡ lane h k -ℤ lane h (4 + k)
unfolded_differences h v is = below_four (λ k. lane v (7 - k) ≡ lane h k -ℤ lane h (4 + k)) (is 7 (lit< tt))
    (is 6 (lit< tt)) (is 5 (lit< tt)) (is 4 (lit< tt))
