-- Rows that are stored in a block.
use Rattle.std.proofs.Common.{◌≡◌, ◌+◌, ◌*◌, ◌-◌, ◌<◌, ◌≤◌, ◌∙◌, ◌++◌, List, [], ℕ, ℤ, pos, take, drop, length, length-drop, ap, sym, subst, arith, below_more}
use lib.Lanes.{put_chunk}
use Rattle.std.proofs.Math.Seq.{take-length}
use Rattle.std.proofs.Math.ListN.{drop_of_length-le}
use Rattle.std.proofs.lemmas.List.{append-nil}
use Rattle.std.proofs.lemmas.Simd.{put_chunk_is, get_or-put_chunk_below, get_or-put_chunk_at}
use Rattle.idct8.specs.Transform.{entry}
use Rattle.idct8.specs.Vectors.{lane}

-- a part to the end, written at its begin
pub stored : (xs ys : List ℤ) (a k : ℕ) → k ≡ length xs - a → a + length ys ≤ length xs
    → take a xs ++ (put_chunk 0 (take k (drop a xs)) ys ++ drop k (drop a xs)) ≡ put_chunk a xs ys
stored xs ys a k e h =
    let long : length (drop a xs) ≡ k = length-drop a xs ∙ sym e in
    let whole : take k (drop a xs) ≡ drop a xs = subst (λ (n : ℕ). take n (drop a xs) ≡ drop a xs) long
    (take-length (drop a xs)) in
    let nothing : drop k (drop a xs) ≡ [] = drop_of_length-le (drop a xs) (omega (arith, long)) in
    ap (λ (l : List ℤ). take a xs ++ (put_chunk 0 l ys ++ drop k (drop a xs))) whole
    ∙ ap (λ (l : List ℤ). take a xs ++ (put_chunk 0 (drop a xs) ys ++ l)) nothing
    ∙ ap (λ (l : List ℤ). take a xs ++ l) (append-nil (put_chunk 0 (drop a xs) ys)
    ∙ put_chunk_is 0 (drop a xs) ys (omega (arith, long)))
    ∙ sym (put_chunk_is a xs ys h)

-- one more row is put into a block
pub row_step : (f : ℕ → ℕ → ℤ) (out v : List ℤ) (r : ℕ) → length out ≡ 64 → length v ≡ 8 → r < 8
    → ((k : ℕ) → k < 8 → lane v k ≡ f r k) →
    ((j k : ℕ) → j < r → k < 8 → entry out j k ≡ f j k) → (j k : ℕ) → j < r + 1 → k < 8
    → entry (put_chunk (8 * r) out v) j k ≡ f j k
row_step f out v r lo lv hr own above j k hj hk =
    below_more (λ j. entry (put_chunk (8 * r) out v) j k ≡ f j k) r
    (λ j hj. get_or-put_chunk_below (8 * r) out v (8 * j + k) (pos 0) (omega arith) ∙ above j k hj hk)
    (get_or-put_chunk_at (8 * r) out v k (pos 0) (omega (arith, lv)) (omega (arith, lv, lo)) ∙ own k hk) j hj
