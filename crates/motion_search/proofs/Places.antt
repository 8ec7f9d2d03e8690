-- Where a vector leads.
use Rattle.std.proofs.Common.{◌≡◌, refl, sym, ap, ◌∙◌, arith, ℕ, ◌+◌, ◌*◌, ◌/◌, ◌%◌, List, Bool, false, ℤ, pos, ◌+ℤ◌, unsigned_abs}
use Rattle.std.proofs.lemmas.Int.{ints}
use Rattle.std.proofs.lemmas.Bool.Decides.{nat_tests}
use Rattle.h263_types.specs.declared.vector.Vector.{Vector}
use Rattle.h263_types.specs.Sizes.{columns_of}
use Rattle.h263_types.specs.Vectors.{whole_place}
use Rattle.h263_planes.specs.Picture.{Picture}
use Rattle.h263_planes.specs.Samples.{sample_at}
use Rattle.h263_planes.specs.declared.Plane.TheVariants.{Y}
use Rattle.half_sample.specs.Prediction.{predicted_sample, interpolated, is_half, moved_whole, whole_part}
use Rattle.sad_kernel.specs.Differences.{differences}
use Rattle.motion_search.specs.declared.candidate.Candidate.{Candidate}
use Rattle.motion_search.specs.Cost.{square, difference_of, candidate_of}
use Rattle.motion_search.specs.Vectors.{zero_vector, IsEven}
use Rattle.motion_search.specs.Best.{IsWholeCandidate}
use Rattle.motion_search.proofs.Blocks.{costing, is_square, length-square, get_or-square}

not_half : (v : ℤ) → unsigned_abs v % 2 ≡ 0 → is_half Y v ≡ false
not_half v h = grind (arith, nat_tests)

moved_more : (a x i : ℕ) (v : ℤ) → pos x ≡ whole_place a v → moved_whole (a + i) (whole_part Y v) ≡ x + i
moved_more a x i v h =
    let e : pos (a + i) +ℤ whole_part Y v ≡ pos (x + i) = omega (arith, ints, h) in
    ap unsigned_abs e

whole_sample : (p : Picture) (hx hy : Bool) (r x x' y y' : ℕ) → hx ≡ false → hy ≡ false → x ≡ x' → y ≡ y'
    → interpolated p Y hx hy r x y ≡ sample_at p Y x' y'
whole_sample p hx hy r x x' y y' ehx ehy ex ey = cc

-- by a vector of whole samples a macroblock differs from the square that it leads to
pub whole_predicts : (block : List ℕ) (p : Picture) (mb r x y : ℕ) (v : Vector) → IsEven v →
    pos x ≡ whole_place (16 * (mb % columns_of p.format)) v.x
    → pos y ≡ whole_place (16 * (mb / columns_of p.format)) v.y →
    differences block (square (λ i j. sample_at p Y (x + i) (y + j))) ≡ difference_of block p mb r v
unfolding difference_of
whole_predicts block p mb r x y v even ex ey =
    let left = 16 * (mb % columns_of p.format) in
    let top = 16 * (mb / columns_of p.format) in
    let seen = λ (i j : ℕ). sample_at p Y (x + i) (y + j) in
    let predicted = λ (i j : ℕ). predicted_sample p Y (left + i) (top + j) v r in
    ap (differences block)
    (is_square (square seen) predicted (length-square seen)
    (λ j i hj hi. get_or-square seen j i hj hi
    ∙ sym (whole_sample p (is_half Y v.x) (is_half Y v.y) r (moved_whole (left + i) (whole_part Y v.x)) (x + i)
    (moved_whole (top + j) (whole_part Y v.y)) (y + j)
    (not_half v.x even.x) (not_half v.y even.y) (moved_more left x i v.x ex) (moved_more top y j v.y ey))))

-- ---- what rounding leaves as it is

even_sample : (p : Picture) (hx hy : Bool) (r x y : ℕ) → hx ≡ false → hy ≡ false → interpolated p Y hx hy r x y
    ≡ interpolated p Y hx hy 0 x y
even_sample p hx hy r x y ehx ehy = whole_sample p hx hy r x x y y ehx ehy refl refl
    ∙ sym (whole_sample p hx hy 0 x x y y ehx ehy refl refl)

-- what a vector of whole samples costs doesn't depend on the rounding
pub not_rounded : (block : List ℕ) (p : Picture) (mb r : ℕ) (v : Vector) → IsEven v → candidate_of block p mb r v
    ≡ candidate_of block p mb 0 v
unfolding difference_of
not_rounded block p mb r v even =
    let left = 16 * (mb % columns_of p.format) in
    let top = 16 * (mb / columns_of p.format) in
    let predicted = λ (s i j : ℕ). predicted_sample p Y (left + i) (top + j) v s in
    ap (λ (l : List ℕ). costing v (differences block l))
    (is_square (square (predicted r)) (predicted 0) (length-square (predicted r))
    (λ j i hj hi. get_or-square (predicted r) j i hj hi
    ∙ even_sample p (is_half Y v.x) (is_half Y v.y) r (moved_whole (left + i) (whole_part Y v.x))
    (moved_whole (top + j) (whole_part Y v.y)) (not_half v.x even.x) (not_half v.y even.y)))

-- candidates of whole samples are those of the other rounding too
pub whole_not_rounded : (block : List ℕ) (p : Picture) (mb radius r : ℕ) (c : Candidate)
    → IsWholeCandidate block p mb radius 0 c → IsWholeCandidate block p mb radius r c
whole_not_rounded block p mb radius r c h =
    record {
      whole = h.whole;
      candidate = record {
        reach = h.candidate.reach;
        cost = h.candidate.cost
            ∙ sym (ap (λ (d : Candidate). d.cost) (not_rounded block p mb r c.vector h.whole.even));
      };
    }

stands_still : (x : ℕ) → moved_whole x (whole_part Y (pos 0)) ≡ x
stands_still x = omega (arith, ints)

-- the zero vector predicts a picture's own samples
pub own_sample : (p : Picture) (r x y : ℕ) → predicted_sample p Y x y zero_vector r ≡ sample_at p Y x y
own_sample p r x y = whole_sample p (is_half Y (pos 0)) (is_half Y (pos 0)) r _ x _ y refl refl (stands_still x)
    (stands_still y)
