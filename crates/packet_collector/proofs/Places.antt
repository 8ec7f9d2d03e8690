-- Where a slice stands to what is kept, and to what was taken.
use Rattle.std.proofs.Common.{◌≡◌, ℕ, ◌+◌, ◌*◌, ◌≤◌, Bool, true, false, List, length, take, drop, get_or, not, ap, ◌∙◌, arith}
use Rattle.std.specs.List.{list_all}
use Rattle.std.proofs.lemmas.Nat.{mul-le}
use Rattle.call_model.specs.Numbers.{all_below}
use Rattle.h263_types.specs.declared.blocks.SliceHead.{SliceHead}
use Rattle.h263_types.specs.Sizes.{mbs_of}
use Rattle.h263_types.specs.Blocks.{IsHeadOf}
use Rattle.packet_collector.specs.declared.collector.Collector.{Collector}
use Rattle.packet_collector.specs.Taken.{Taken, is_mb_taken, all_in_head, none_in_head}
use Rattle.packet_collector.specs.Collected.{Collects, IsInRow, format_of, row_of, row_place_of, has_in}
use Rattle.packet_collector.proofs.AllMarks.{all_same, all_marks, not_both}
use Rattle.packet_collector.proofs.Rows.{below}

-- the marks of a slice of a picture
abbrev pub marks_of : Collector → ℕ → SliceHead → List Bool
marks_of c n head = take head.count (drop (row_place_of c n * mbs_of (format_of c) + head.first) c.marks.items.items)

module _ (c : Collector) (n : ℕ) (head : SliceHead) (is : IsHeadOf (format_of c) head) where
  tests : (f : Bool → Bool) → list_all f (marks_of c n head)
      ≡ all_below head.count (λ i. f (has_in c n (head.first + i)))
  tests f =
      let m = mbs_of (format_of c) in
      let p = row_place_of c n in
      let fits : p * m + head.first + head.count ≤ length c.marks.items.items = omega (
        arith,
        c.each,
        is.within,
        mul-le (p + 1) m (row_of c) m (omega (arith, below c n)) (omega arith),
      ) in
      all_marks f c.marks.items.items (p * m + head.first) head.count fits
      ∙ all_same head.count _ _ (λ i lt. ap (λ (k : ℕ). f (get_or c.marks.items.items k false)) (omega arith))

  -- all marks of a piece are set exactly where all of its macroblocks are there
  pub all_kept : list_all (λ mark. mark) (marks_of c n head) ≡ all_in_head head (has_in c n)
  all_kept = tests (λ mark. mark)

  pub none_kept : list_all not (marks_of c n head) ≡ none_in_head head (has_in c n)
  none_kept = tests not

  pub not_both_kept : all_in_head head (has_in c n) ≡ true → none_in_head head (has_in c n) ≡ true → ⊥
  not_both_kept = not_both head.count (λ i. has_in c n (head.first + i)) is.some

  module _ (first : ℕ) (taken : List Taken) (so : Collects c first taken) (row : IsInRow c n) where
    -- these were taken
    pub all_is : all_in_head head (has_in c n) ≡ all_in_head head (is_mb_taken taken n)
    all_is = all_same head.count _ _ (λ i lt. so.marks n (head.first + i) row (omega (arith, is.within)))

    pub none_is : none_in_head head (has_in c n) ≡ none_in_head head (is_mb_taken taken n)
    none_is = all_same head.count _ _ (λ i lt. ap not (so.marks n (head.first + i) row (omega (arith, is.within))))

-- no test both holds and fails
pub clash : (b : Bool) → b ≡ true → b ≡ false → ⊥
clash true e f = absurd cc
clash false e f = absurd cc
