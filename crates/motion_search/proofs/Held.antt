-- Sums of areas that are kept of the reference.
use Rattle.std.proofs.Common.{◌≡◌, ◌⊎◌, inl, inr, refl, sym, ap, subst, ◌∙◌, arith, ℕ, zero, suc, replicate, ◌+◌, ◌-◌, ◌*◌, ◌/◌, ◌%◌, ◌<◌, ◌≤◌, List, length, get_or, slice_index}
use Rattle.std.specs.Int.{abs_diff}
use Rattle.std.specs.List.{CopiedTo, SameFrom}
use lib.Lanes.{put_chunk}
use Rattle.std.proofs.lemmas.Bool.{cases_order}
use Rattle.std.proofs.lemmas.Simd.{get_or-put_chunk_below, get_or-put_chunk_above}
use Rattle.h263_types.specs.declared.format.Format.{Format}
use Rattle.h263_types.specs.declared.format.Format.TheVariants.{SubQcif, Qcif, Cif}
use Rattle.h263_types.specs.Sizes.{columns_of, height_of, mbs_of, width_of}
use Rattle.h263_planes.specs.Picture.{Picture}
use Rattle.h263_planes.specs.Samples.{sample_at, IsPicture}
use Rattle.h263_planes.specs.declared.Plane.TheVariants.{Y}
use Rattle.sad_kernel.specs.Differences.{differences}
use Rattle.motion_search.specs.Cost.{square}
use Rattle.motion_search.specs.declared.areas.Quarters.{Quarters}
use Rattle.motion_search.specs.declared.kept.AreaRows.{AreaRows}
use Rattle.motion_search.specs.declared.kept.KeptSums.{KeptSums}
use Rattle.motion_search.specs.Areas.{area_sum, sixteen, AreSamplesAt, AreQuarters, AreSomeBeside, AreSumsOf, IsBeside, IsRow, LeavesRest, samples_from}
use Rattle.motion_search.proofs.AreaSums.{area_is, area_small, at_sixteen, more_than, ruled_out}

-- a number reaches another, or not
cases_le : (a b : ℕ) → (a ≤ b) ⊎ (b < a)
cases_le a b = by (cases_order a b)
  where
    by : (a ≡ b) ⊎ ((a < b) ⊎ (b < a)) → (a ≤ b) ⊎ (b < a)
    by (inl e) = inl (omega (arith, e))
    by (inr (inl h)) = inl (omega (arith, h))
    by (inr (inr h)) = inr h

pub height_small : (f : Format) → height_of f ≤ 288
height_small SubQcif = omega arith
height_small Qcif = omega arith
height_small Cif = omega arith

pub zeros_small : (n k : ℕ) → get_or (replicate n 0) k 0 ≤ 16320
zeros_small zero k = omega arith
zeros_small (suc n) zero = omega arith
zeros_small (suc n) (suc k) = zeros_small n k

-- ---- columns of the picture beside each other

-- two lent parts of a row
pub lent_beside : (p : Picture) (x z y row : ℕ) (f : ℕ → ℕ → ℕ) (xs ys : List ℕ) → IsBeside p x z f → y ≡ row →
    ((i : ℕ) → i < 16 → slice_index xs i ≡ sample_at p Y (x + i) y)
    → ((i : ℕ) → i < 16 → slice_index ys i ≡ sample_at p Y (z + i) y) → IsRow f row xs ys
lent_beside p x z y row f xs ys b e hx hy =
    record {
      left = λ i hi. hx i hi ∙ ap (sample_at p Y (x + i)) e ∙ sym (b.left i row hi);
      right = λ i hi. hy i hi ∙ ap (sample_at p Y (z + i)) e ∙ sym (b.right i row hi);
    }

-- the same of row m of rows that are lent together
pub lent_rows_beside : (p : Picture) (x z first width count at m row : ℕ) (f : ℕ → ℕ
    → ℕ) (lefts rights xs ys : List ℕ) →
    IsBeside p x z f → m < count → at ≡ width * m → first + m ≡ row
    → ((i k : ℕ) → i < 16 → k < count → slice_index lefts (width * k + i) ≡ sample_at p Y (x + i) (first + k))
    → ((i k : ℕ) → i < 16 → k < count → slice_index rights (width * k + i) ≡ sample_at p Y (z + i) (first + k))
    → ((i : ℕ) → i < 16 → slice_index xs i ≡ slice_index lefts (at + i))
    → ((i : ℕ) → i < 16 → slice_index ys i ≡ slice_index rights (at + i)) → IsRow f row xs ys
lent_rows_beside p x z first width count at m row f lefts rights xs ys b hm e er ls rs hx hy =
    lent_beside p x z (first + m) row f xs ys b er
    (λ i hi. hx i hi ∙ ap (λ (n : ℕ). slice_index lefts (n + i)) e ∙ ls i m hi hm)
    (λ i hi. hy i hi ∙ ap (λ (n : ℕ). slice_index rights (n + i)) e ∙ rs i m hi hm)

-- the place of row k, of which the rows before row b aren't counted
pub place_of_row : (width b k at : ℕ) → b ≤ k → at + width * b ≡ width * k → at ≡ width * (k - b)
place_of_row width b k at h e =
    let parts : width * k ≡ width * (b + (k - b)) = ap (λ (n : ℕ). width * n) (omega (arith, h)) in
    omega (arith, e, parts)

-- the next sixteen columns
pub next_beside : (p : Picture) (x z : ℕ) → z ≡ x + 16 → IsBeside p x z (samples_from p x)
next_beside p x z e =
    record {
      left = λ i j hi. refl;
      right = λ i j hi. let place : x + (16 + i) ≡ z + i = omega (arith, e) in ap (λ (k : ℕ). sample_at p Y k j) place;
    }

-- the same sixteen columns again
abbrev pub again : Picture → ℕ → ℕ → ℕ → ℕ
again p x i j = sample_at p Y (x + i % 16) j

pub again_beside : (p : Picture) (x : ℕ) → IsBeside p x x (again p x)
again_beside p x =
    record {
      left = λ i j hi. let place : x + i % 16 ≡ x + i = omega (arith, hi) in ap (λ (k : ℕ). sample_at p Y k j) place;
      right = λ i j hi. let place : x + (16 + i) % 16 ≡ x + i = omega (arith, hi) in
          ap (λ (k : ℕ). sample_at p Y k j) place;
    }

pub again_bytes : (p : Picture) (x : ℕ) → IsPicture p → AreSamplesAt (again p x)
again_bytes p x h = λ i j. h.samples Y _

pub next_bytes : (p : Picture) (x : ℕ) → IsPicture p → AreSamplesAt (samples_from p x)
next_bytes p x h = λ i j. h.samples Y _

pub some_next : (p : Picture) (x z : ℕ) → IsPicture p → z ≡ x + 16 → AreSomeBeside p x z
some_next p x z h e = record { samples = samples_from p x; bytes = next_bytes p x h; beside = next_beside p x z e }

pub some_again : (p : Picture) (x : ℕ) → IsPicture p → AreSomeBeside p x x
some_again p x h = record { samples = again p x; bytes = again_bytes p x h; beside = again_beside p x }

-- an area of the columns from x on is an area of the picture
pub area_next : (p : Picture) (x i y : ℕ) → area_sum (samples_from p x) i y ≡ area_sum (sample_at p Y) (x + i) y
area_next p x i y =
    area_is (samples_from p x) (sample_at p Y) i y (x + i) y
    (λ u v hu hv. let place : x + (i + u) ≡ x + i + u = omega arith in ap (λ (k : ℕ). sample_at p Y k (y + v)) place)

-- where it ends within the sixteen columns, it is one whatever is to their right
pub area_again : (p : Picture) (x i y : ℕ) → i ≤ 8 → area_sum (again p x) i y ≡ area_sum (sample_at p Y) (x + i) y
area_again p x i y h =
    area_is (again p x) (sample_at p Y) i y (x + i) y
    (λ u v hu hv. let place : x + (i + u) % 16 ≡ x + i + u = omega (arith, h, hu) in
    ap (λ (k : ℕ). sample_at p Y k (y + v)) place)

-- ---- what the sums that are kept say of a vector

-- one that is kept is the sum of an area of the columns from x on
pub kept_area : (p : Picture) (s : KeptSums) (x y i n : ℕ) → AreSumsOf p s → s.first ≤ y → y < s.end
    → x + i + 8 ≤ width_of p.format →
    n ≡ 384 * (y - s.first) + (x + i) → get_or s.sums n 0 ≡ area_sum (samples_from p x) i y
kept_area p s x y i n are low high inside e =
    let row : s.first + (y - s.first) ≡ y = omega (arith, low) in
    ap (λ (k : ℕ). get_or s.sums k 0) e
    ∙ are.sums (x + i) (y - s.first) (omega (arith, inside)) (omega (arith, low, high))
    ∙ ap (area_sum (sample_at p Y) (x + i)) row ∙ sym (area_next p x i y)

-- what the sums of quarters leave between a block and the one that a vector leads to is no more than
-- their samples leave: where that is more than the most, the vector is ruled out
pub ruled_out_by_kept : (p : Picture) (s : KeptSums) (block : List ℕ) (q : Quarters) (x y i at most : ℕ) → AreSumsOf p s
    → AreQuarters block q →
    s.first ≤ y → y + 8 < s.end → x + i + 16 ≤ width_of p.format → at ≡ 384 * (y - s.first) + x →
    most < abs_diff (get_or s.sums (at + i) 0) q.top_left + abs_diff (get_or s.sums (at + 8 + i) 0) q.top_right
    + (abs_diff (get_or s.sums (at + 3072 + i) 0) q.bottom_left + abs_diff (get_or s.sums (at + 3072 + 8 + i) 0)
    q.bottom_right) →
    most < differences block (square (λ k j. samples_from p x (i + k) (y + j)))
ruled_out_by_kept p s block q x y i at most are own low high inside e more =
    let f = samples_from p x in
    let tl = kept_area p s x y i (at + i) are low (omega (arith, high)) (omega (arith, inside)) (omega (arith, e)) in
    let tr = kept_area p s x y (8 + i) (at + 8 + i) are low (omega (arith, high)) (omega (arith, inside))
    (omega (arith, e)) in
    let bl = kept_area p s x (y + 8) i (at + 3072 + i) are (omega (arith, low)) high (omega (arith, inside))
    (omega (arith, e, low)) in
    let br = kept_area p s x (y + 8) (8 + i) (at + 3072 + 8 + i) are (omega (arith, low)) high (omega (arith, inside))
    (omega (arith, e, low)) in
    let same : abs_diff (get_or s.sums (at + i) 0) q.top_left + abs_diff (get_or s.sums (at + 8 + i) 0) q.top_right
    + (abs_diff (get_or s.sums (at + 3072 + i) 0) q.bottom_left + abs_diff (get_or s.sums (at + 3072 + 8 + i) 0)
    q.bottom_right)
    ≡ abs_diff (area_sum f i y) q.top_left + abs_diff (area_sum f (8 + i) y) q.top_right
    + (abs_diff (area_sum f i (y + 8)) q.bottom_left + abs_diff (area_sum f (8 + i) (y + 8)) q.bottom_right) =
    cc (tl, tr, bl, br) in
    more_than most _ (differences block (square (λ k j. f (i + k) (y + j)))) (subst (λ (n : ℕ). most < n) same more)
    (ruled_out f y i q.top_left q.top_right q.bottom_left q.bottom_right block own.long own.top_left own.top_right
    own.bottom_left own.bottom_right)

-- ---- sums written down

pub put_apart : (at : ℕ) (xs ys : List ℕ) → length ys ≡ 16 → (k : ℕ) → (k < at) ⊎ (at + 16 ≤ k)
    → get_or (put_chunk at xs ys) k 0 ≡ get_or xs k 0
put_apart at xs ys long k (inl below) = get_or-put_chunk_below at xs ys k 0 below
put_apart at xs ys long k (inr above) = get_or-put_chunk_above at xs ys k 0 (omega (arith, above, long))

-- what two lists of sixteen sums, the second one eight places further on, leave as it was
pub apart_twice : (old mid new : List ℕ) (at : ℕ) → ((k : ℕ) → (k < at) ⊎ (at + 16 ≤ k)
    → get_or mid k 0 ≡ get_or old k 0) →
    ((k : ℕ) → (k < at + 8) ⊎ (at + 8 + 16 ≤ k) → get_or new k 0 ≡ get_or mid k 0) → (k : ℕ) → (k < at) ⊎ (at + 24 ≤ k)
    → get_or new k 0 ≡ get_or old k 0
apart_twice old mid new at first second k (inl below) = second k (inl (omega (arith, below))) ∙ first k (inl below)
apart_twice old mid new at first second k (inr above) = second k (inr (omega (arith, above)))
    ∙ first k (inr (omega (arith, above)))

pub stored_twice : (f : ℕ → ℕ → ℕ) (y : ℕ) (mid new l r : List ℕ) (at i : ℕ) → l ≡ sixteen (λ i. area_sum f i y)
    → r ≡ sixteen (λ i. area_sum f (8 + i) y) →
    ((i : ℕ) → i < 16 → get_or mid (at + i) 0 ≡ get_or l i 0)
    → ((i : ℕ) → i < 16 → get_or new (at + 8 + i) 0 ≡ get_or r i 0) →
    ((k : ℕ) → (k < at + 8) ⊎ (at + 8 + 16 ≤ k) → get_or new k 0 ≡ get_or mid k 0) → i < 24
    → get_or new (at + i) 0 ≡ area_sum f i y
stored_twice f y mid new l r at i el er first second kept hi = by (cases_le 8 i)
  where
    by : (8 ≤ i) ⊎ (i < 8) → get_or new (at + i) 0 ≡ area_sum f i y
    by (inl h) =
        let e : at + i ≡ at + 8 + (i - 8) = omega (arith, h) in
        let column : 8 + (i - 8) ≡ i = omega (arith, h) in
        ap (λ (k : ℕ). get_or new k 0) e ∙ second (i - 8) (omega (arith, h, hi))
        ∙ ap (λ (xs : List ℕ). get_or xs (i - 8) 0) er
        ∙ at_sixteen (λ i. area_sum f (8 + i) y) (i - 8) (omega (arith, h, hi)) ∙ ap (λ (k : ℕ). area_sum f k y) column
    by (inr h) =
        kept (at + i) (inl (omega (arith, h))) ∙ first i (omega (arith, h)) ∙ ap (λ (xs : List ℕ). get_or xs i 0) el
        ∙ at_sixteen (λ i. area_sum f i y) i (omega (arith, h))

-- sums that were small stay so where areas are written among them
pub some_small : (f : ℕ → ℕ → ℕ) (y : ℕ) (old new : List ℕ) (at : ℕ) → AreSamplesAt f
    → ((k : ℕ) → (k < at) ⊎ (at + 24 ≤ k)
    → get_or new k 0 ≡ get_or old k 0) →
    ((i : ℕ) → i < 24 → get_or new (at + i) 0 ≡ area_sum f i y) → ((k : ℕ) → get_or old k 0 ≤ 16320) → (k : ℕ)
    → get_or new k 0 ≤ 16320
some_small f y old new at bytes others stored small k = by (cases_le at k) (cases_le (at + 24) k)
  where
    by : (at ≤ k) ⊎ (k < at) → (at + 24 ≤ k) ⊎ (k < at + 24) → get_or new k 0 ≤ 16320
    by (inr below) within = omega (arith, others k (inl below), small k)
    by (inl h) (inl above) = omega (arith, others k (inr above), small k)
    by (inl h) (inr within) =
        let e : at + (k - at) ≡ k = omega (arith, h) in
        subst (λ (m : ℕ). get_or new m 0 ≤ 16320) e (omega (
          arith,
          stored (k - at) (omega (arith, h, within)),
          area_small f (k - at) y bytes,
        ))

-- the columns to the left of a strip are no places of it
pub row_apart : (x k n c : ℕ) → c < x → x + 24 ≤ 384 → (384 * n + c < 384 * k + x) ⊎ (384 * k + x + 24 ≤ 384 * n + c)
row_apart x k n c hc hx = by (cases_le n k)
  where
    by : (n ≤ k) ⊎ (k < n) → (384 * n + c < 384 * k + x) ⊎ (384 * k + x + 24 ≤ 384 * n + c)
    by (inl h) = inl (omega (arith, h, hc))
    by (inr h) = inr (omega (arith, h, hx))

-- ---- strips of 24 areas beside each other

-- all strips but the last one end inside the picture
pub strips_fit : (f : Format) (w s : ℕ) → width_of f ≡ w → s < w / 24 → 24 * s + 32 ≤ width_of f
strips_fit SubQcif w s e h = omega (arith, e, h)
strips_fit Qcif w s e h = omega (arith, e, h)
strips_fit Cif w s e h = omega (arith, e, h)

-- they leave no more than sixteen columns to the last one, which fits a row's places
pub strips_end : (f : Format) (w : ℕ) → width_of f ≡ w → (w ≤ 24 * (w / 24) + 16) × (16 ≤ w) × (w + 8 ≤ 384)
strips_end SubQcif w e = (omega (arith, e), omega (arith, e), omega (arith, e))
strips_end Qcif w e = (omega (arith, e), omega (arith, e), omega (arith, e))
strips_end Cif w e = (omega (arith, e), omega (arith, e), omega (arith, e))

-- one more strip, from column x on, whose first areas are those of the picture
pub strip_kept : (p : Picture) (x many first k : ℕ) (old new : List ℕ) (n : ℕ) → n < x + many →
    (n < x → get_or old (384 * k + n) 0 ≡ area_sum (sample_at p Y) n (first + k)) →
    ((k c : ℕ) → c < x → get_or new (384 * k + c) 0 ≡ get_or old (384 * k + c) 0) →
    ((i : ℕ) → i < many → get_or new (384 * k + (x + i)) 0 ≡ area_sum (sample_at p Y) (x + i) (first + k)) →
    get_or new (384 * k + n) 0 ≡ area_sum (sample_at p Y) n (first + k)
strip_kept p x many first k old new n hn seen kept stored = by (cases_le x n)
  where
    by : (x ≤ n) ⊎ (n < x) → get_or new (384 * k + n) 0 ≡ area_sum (sample_at p Y) n (first + k)
    by (inl h) =
        let e : x + (n - x) ≡ n = omega (arith, h) in
        subst (λ (m : ℕ). get_or new (384 * k + m) 0 ≡ area_sum (sample_at p Y) m (first + k)) e
        (stored (n - x) (omega (arith, h, hn)))
    by (inr h) = kept k n h ∙ seen h

pub width_small : (f : Format) → width_of f ≤ 352
width_small SubQcif = omega arith
width_small Qcif = omega arith
width_small Cif = omega arith

-- ---- rows of areas that are kept, and more of them

-- what two strips leave after each other
pub rest_twice : (rows : AreaRows) (old mid new : List ℕ) → LeavesRest rows old mid → LeavesRest rows mid new
    → LeavesRest rows old new
rest_twice rows old mid new one two =
    record {
      whole = two.whole;
      above = λ k hk. two.above k hk ∙ one.above k hk;
      small = λ h. two.small (one.small h);
    }

-- those that were kept reach no further than those that are wanted
pub begins_before : (old_first old_end new_end from end : ℕ)
    → (new_end ≡ from) ⊎ ((old_first ≤ from) × (from < old_end) × (new_end ≡ old_end)) →
    (from < old_first) ⊎ (old_end < end) → from ≤ end → (from ≤ new_end) × (new_end ≤ end)
begins_before old_first old_end new_end from end (inl e) more h = (omega (arith, e), omega (arith, e, h))
begins_before old_first old_end new_end from end (inr is) (inl above) h = absurd (omega (arith, is.0, above))
begins_before old_first old_end new_end from end (inr is) (inr below) h = (
  omega (arith, is.1, is.2),
  omega (arith, is.2, below),
)

-- rows that are added to those that were kept
pub rows_added : (p : Picture) (s t : KeptSums) (end : ℕ) → AreSumsOf p s → length t.sums ≡ 14976 → t.first ≡ s.first
    → t.end ≡ end →
    s.end ≤ end → end ≤ s.first + 39 →
    ((x k : ℕ) → x + 8 ≤ width_of p.format → s.end - s.first ≤ k → k < end - s.first → get_or t.sums (384 * k + x) 0
    ≡ area_sum (sample_at p Y) x (s.first + k)) →
    ((k : ℕ) → k < 384 * (s.end - s.first) → get_or t.sums k 0 ≡ get_or s.sums k 0)
    → ((k : ℕ) → get_or t.sums k 0 ≤ 16320) → AreSumsOf p t
rows_added p s t end are whole first at_end more room added above small =
    record {
      whole = whole;
      order = omega (arith, first, at_end, are.order, more);
      room = omega (arith, first, at_end, room);
      sums = λ x k hx hk.
          by x k hx (omega (arith, hk, first, at_end)) (cases_le (s.end - s.first) k)
          ∙ (let e : s.first + k ≡ t.first + k = omega (arith, first) in ap (area_sum (sample_at p Y) x) e);
      small = small;
    }
  where
    by : (x k : ℕ) → x + 8 ≤ width_of p.format → s.first + k < end → (s.end - s.first ≤ k) ⊎ (k < s.end - s.first)
        → get_or t.sums (384 * k + x) 0 ≡ area_sum (sample_at p Y) x (s.first + k)
    by x k hx hk (inl h) = added x k hx h (omega (arith, hk))
    by x k hx hk (inr h) = above (384 * k + x) (omega (arith, h, hx, width_small p.format))
        ∙ are.sums x k hx (omega (arith, h, are.order))

-- sums moved up by some rows
pub rows_dropped : (p : Picture) (s t : KeptSums) (dropped : ℕ) → AreSumsOf p s → length t.sums ≡ 14976
    → t.first ≡ s.first + dropped → t.end ≡ s.end → s.first + dropped ≤ s.end →
    ((k : ℕ) → k < 384 * (s.end - s.first - dropped) → get_or t.sums k 0 ≡ get_or s.sums (384 * dropped + k) 0) →
    ((k : ℕ) → 384 * (s.end - s.first - dropped) ≤ k → get_or t.sums k 0 ≡ get_or s.sums k 0) → AreSumsOf p t
rows_dropped p s t dropped are whole first at_end few moved others =
    record {
      whole = whole;
      order = omega (arith, first, at_end, few);
      room = omega (arith, first, at_end, are.room);
      sums = λ x k hx hk.
          let place : 384 * dropped + (384 * k + x) ≡ 384 * (dropped + k) + x = omega arith in
          let row : s.first + (dropped + k) ≡ t.first + k = omega (arith, first) in
          moved (384 * k + x) (omega (arith, hk, hx, first, at_end, width_small p.format))
          ∙ ap (λ (n : ℕ). get_or s.sums n 0) place
          ∙ are.sums x (dropped + k) hx (omega (arith, hk, first, at_end)) ∙ ap (area_sum (sample_at p Y) x) row;
      small = λ k. by k (cases_le (384 * (s.end - s.first - dropped)) k);
    }
  where
    by : (k : ℕ) → (384 * (s.end - s.first - dropped) ≤ k) ⊎ (k < 384 * (s.end - s.first - dropped))
        → get_or t.sums k 0 ≤ 16320
    by k (inl h) = omega (arith, others k h, are.small k)
    by k (inr h) = omega (arith, moved k h, are.small (384 * dropped + k))

-- what was copied from further on
pub moved_rows : (old new : List ℕ) (dropped kept : ℕ) → dropped ≤ kept
    → CopiedTo old new (384 * dropped) 0 (384 * kept - 384 * dropped) →
    (k : ℕ) → k < 384 * (kept - dropped) → get_or new k 0 ≡ get_or old (384 * dropped + k) 0
moved_rows old new dropped kept h copied k hk =
    let place : 384 * dropped + (k - 0) ≡ 384 * dropped + k = omega arith in
    copied k 0 (omega arith) (omega (arith, hk, h)) ∙ ap (λ (n : ℕ). get_or old n 0) place

-- what wasn't written stayed
pub others_stay : (old new : List ℕ) (dropped kept : ℕ) → dropped ≤ kept
    → SameFrom old new (0 + (384 * kept - 384 * dropped)) →
    (k : ℕ) → 384 * (kept - dropped) ≤ k → get_or new k 0 ≡ get_or old k 0
others_stay old new dropped kept h same k hk = same k 0 (omega (arith, hk, h))

-- no rows are those of any picture
pub no_rows_kept : (p : Picture) (s t : KeptSums) → AreSumsOf p s → t.sums ≡ s.sums → t.end ≡ t.first → AreSumsOf p t
no_rows_kept p s t are same none =
    record {
      whole = ap length same ∙ are.whole;
      order = omega (arith, none);
      room = omega (arith, none);
      sums = λ x k hx hk. absurd (omega (arith, hk, none));
      small = λ k. let e : get_or t.sums k 0 ≡ get_or s.sums k 0 = ap (λ (xs : List ℕ). get_or xs k 0) same in
          omega (arith, e, are.small k);
    }

-- a row of macroblocks ends inside the picture
pub top_inside : (f : Format) (mb : ℕ) → mb < mbs_of f → 16 * (mb / columns_of f) + 16 ≤ height_of f
top_inside SubQcif mb h = omega (arith, h)
top_inside Qcif mb h = omega (arith, h)
top_inside Cif mb h = omega (arith, h)

-- what else stands beside the sums doesn't matter
pub sums_alone : (p : Picture) (s t : KeptSums) → AreSumsOf p s → t.sums ≡ s.sums → t.first ≡ s.first → t.end ≡ s.end
    → AreSumsOf p t
sums_alone p s t are same first end = record {
  whole = ap length same ∙ are.whole;
  order = omega (arith, are.order, first, end);
  room = omega (arith, are.room, first, end);
  sums = λ x k hx hk. ap (λ (xs : List ℕ). get_or xs (384 * k + x) 0) same
      ∙ are.sums x k hx (omega (arith, hk, first, end))
      ∙ ap (λ (n : ℕ). area_sum (sample_at p Y) x (n + k)) (sym first);
  small = λ k. let e : get_or t.sums k 0 ≡ get_or s.sums k 0 = ap (λ (xs : List ℕ). get_or xs k 0) same in
      omega (arith, e, are.small k);
}
