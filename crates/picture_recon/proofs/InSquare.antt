-- The predicted samples of a macroblock in one plane.
use Rattle.std.proofs.Common.{◌≡◌, ℕ, ◌+◌, ◌-◌, ◌*◌, ◌/◌, ◌%◌, ◌<◌, ◌≤◌, List, get_or, Bool, true, false, cond, ◌&&◌, nat_eq, nat_le, nat_lt, arith, ap, refl, subst, sym, ◌∙◌}
use Rattle.std.proofs.lemmas.Bool.Decides.{nat_tests}
use Rattle.h263_types.specs.declared.format.Format.{Format}
use Rattle.h263_types.specs.declared.vector.Vector.{Vector}
use Rattle.h263_types.specs.Sizes.{columns_of}
use Rattle.h263_planes.specs.declared.Plane.{Plane}
use Rattle.h263_planes.specs.declared.Plane.TheVariants.{Y, Cb, Cr}
use Rattle.h263_planes.specs.Blocks.{mb_of}
use Rattle.h263_planes.specs.Picture.{Picture}
use Rattle.h263_planes.specs.Samples.{Inside, in_block, same_plane}
use Rattle.picture_recon.specs.declared.squares.Square.{Square}
use Rattle.picture_recon.specs.Squares.{IsInside}
use Rattle.half_sample.specs.Prediction.{ArePredicted, predicted_sample}

in_square : (p : Picture) (plane : Plane) (at n : ℕ) (v : Vector) (r : ℕ) (samples : List ℕ) (left top x y : ℕ)
    → ArePredicted n p plane at v r samples →
    left ≡ n * (at % columns_of p.format) → top ≡ n * (at / columns_of p.format) → left ≤ x → x < left + n → top ≤ y
    → y < top + n →
    get_or samples (n * (y - top) + (x - left)) 0 ≡ predicted_sample p plane x y v r
in_square p plane at n v r samples left top x y h column row hx lx hy ly =
    let ex : n * (at % columns_of p.format) + (x - left) ≡ x = omega (arith, column, hx) in
    let ey : n * (at / columns_of p.format) + (y - top) ≡ y = omega (arith, row, hy) in
    h (y - top) (x - left) (omega (arith, ly, hy)) (omega (arith, lx, hx))
    ∙ ap (λ (k : ℕ). predicted_sample p plane k (n * (at / columns_of p.format) + (y - top)) v r) ex
    ∙ ap (λ (k : ℕ). predicted_sample p plane x k v r) ey

same_predicted : (p : Picture) (plane other : Plane) (x y : ℕ) (v : Vector) (r : ℕ) → same_plane plane other ≡ true →
    predicted_sample p plane x y v r ≡ predicted_sample p other x y v r
same_predicted p Y Y x y v r s = refl
same_predicted p Cb Cb x y v r s = refl
same_predicted p Cr Cr x y v r s = refl
same_predicted p Y Cb x y v r s = cc
same_predicted p Y Cr x y v r s = cc
same_predicted p Cb Y x y v r s = cc
same_predicted p Cb Cr x y v r s = cc
same_predicted p Cr Y x y v r s = cc
same_predicted p Cr Cb x y v r s = cc

-- a place in a block of n x n samples
pub record IsIn (s : Bool) (x y n i j : ℕ) : Type 0 where
  pub same : s ≡ true
  pub from : x ≤ i
  pub to : i < x + n
  pub below : y ≤ j
  pub above : j < y + n

is_in_rows : (x y n i j : ℕ) → ((nat_le y j && nat_lt j (y + n)) && (nat_le x i && nat_lt i (x + n))) ≡ true
    → IsIn true x y n i j
is_in_rows x y n i j h = record {
  same = refl;
  from = grind (arith, nat_tests);
  to = grind (arith, nat_tests);
  below = grind (arith, nat_tests);
  above = grind (arith, nat_tests);
}

pub is_in : (s : Bool) (x y n i j : ℕ) → (s && ((nat_le y j && nat_lt j (y + n)) && (nat_le x i && nat_lt i (x + n))))
    ≡ true → IsIn s x y n i j
is_in true x y n i j h = is_in_rows x y n i j h
is_in false x y n i j h = cc

pub other_test : (t u : Bool) (now a b old : ℕ) → now ≡ cond t a old → t ≡ u → (t ≡ true → a ≡ b) → now ≡ cond u b old
other_test true u now a b old h e same = h ∙ same refl ∙ ap (λ (w : Bool). cond w b old) e
other_test false u now a b old h e same = h ∙ ap (λ (w : Bool). cond w b old) e

-- the samples of a macroblock in a plane are put where they are predicted
pub predicted_put : (f : Format) (p : Picture) (plane other : Plane) (at n : ℕ) (v : Vector) (r : ℕ) (samples : List ℕ)
    (left top x y now old : ℕ) → p.format ≡ f →
    ArePredicted n p plane at v r samples → left ≡ n * (at % columns_of f) → top ≡ n * (at / columns_of f) →
    now ≡ cond (in_block plane left top n n other x y) (get_or samples (n * (y - top) + (x - left)) 0) old →
    in_block plane left top n n other x y ≡ (same_plane plane other && nat_eq (mb_of f other x y) at) →
    now ≡ cond (same_plane plane other && nat_eq (mb_of f other x y) at) (predicted_sample p other x y v r) old
predicted_put f p plane other at n v r samples left top x y now old e h column row put same =
    other_test (in_block plane left top n n other x y) _ now _ _ old put same
    (λ t. let here = is_in (same_plane plane other) left top n x y t in
    in_square p plane at n v r samples left top x y h (column ∙ ap (λ (g : Format). n * (at % columns_of g)) (sym e))
    (row ∙ ap (λ (g : Format). n * (at / columns_of g)) (sym e)) here.from here.to here.below here.above
    ∙ same_predicted p plane other x y v r here.same)

-- what is put into one plane after the other
pub each_plane : (plane : Plane) (t : Bool) (now with_cb with_y old v : ℕ) →
    now ≡ cond (same_plane Cr plane && t) v with_cb → with_cb ≡ cond (same_plane Cb plane && t) v with_y →
    with_y ≡ cond (same_plane Y plane && t) v old → now ≡ cond t v old
each_plane Y t now with_cb with_y old v cr cb y = cr ∙ cb ∙ y
each_plane Cb t now with_cb with_y old v cr cb y = cr ∙ cb ∙ ap (λ (n : ℕ). cond t v n) y
each_plane Cr t now with_cb with_y old v cr cb y = cr ∙ ap (λ (n : ℕ). cond t v n) (cb ∙ y)

-- the rows of a macroblock's samples lie in the plane
pub whole_square : (f g : Format) (plane : Plane) (s : Square) (n : ℕ) → g ≡ f → s.size ≡ n → 1 ≤ n → IsInside f plane s
    → Inside g plane s.x (s.y + (n - 1)) n
whole_square f g plane s n same size some is =
    subst (λ (k : Format). Inside k plane s.x (s.y + (n - 1)) n) (sym same)
    (record { in_row = omega (arith, is.across, size); in_plane = omega (arith, is.down, size, some) })
