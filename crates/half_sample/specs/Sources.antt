-- Rows that are read in sixteen lanes: sixteen samples of luma, or eight of each colour beside one another.
use Rattle.std.specs.Prelude.{◌≡◌, ℕ, ◌+◌, ◌*◌, ◌-◌, ◌<◌, ◌≤◌, Bool, cond, ◌&&◌, nat_le, List, length, slice_index}
use Rattle.half_sample.specs.Averages.{average, average4}
use Rattle.half_sample.specs.Rows.{AreMeans, IsRowOfSamples}
use Rattle.half_sample.specs.declared.source.Means.{Means}
use Rattle.half_sample.specs.declared.source.Source.{Source}
use Rattle.half_sample.specs.declared.place.Half.{Half}

-- how many columns of each list are read at once
abbrev pub columns_beside : Bool → ℕ
columns_beside colours = cond colours 8 16

-- the sample in lane i of those at a place
abbrev pub lane_of : Source → ℕ → ℕ → ℕ
lane_of s at i =
    cond (s.colours && nat_le 8 i) (slice_index s.others.now (at + (i - 8))) (slice_index s.rows.now (at + i))

-- the two lists reach n places further than a place
pub record Reaches (s : Source) (at n : ℕ) : Type 0 where
  pub rows : at + n ≤ length s.rows.now
  pub others : at + n ≤ length s.others.now

-- what a line knows of the samples at a place and, where `right` says so, of those one column further right: their
-- averages, rounded up
pub record IsLineOf (s : Source) (at : ℕ) (right : Bool) (line : Means) : Type 0 where
  pub here : List ℕ
  pub further : List ℕ
  pub here_samples : IsRowOfSamples 16 here
  pub further_samples : IsRowOfSamples 16 further
  pub here_is : (i : ℕ) → i < 16 → slice_index here i ≡ lane_of s at i
  pub further_is : (i : ℕ) → i < 16 → slice_index further i ≡ lane_of s (at + cond right 1 0) i
  pub means : IsRowOfSamples 16 line.means
  pub odd : length line.odd ≡ 16
  pub are : AreMeans here further line.means line.odd

-- what is predicted in lane i at a place
abbrev pub lane_between : Source → Half → ℕ → ℕ → ℕ → ℕ
lane_between s half r at i =
    cond half.y (average4 r (lane_of s at i) (lane_of s (at + cond half.x 1 0) i) (lane_of s (at + s.width) i)
    (lane_of s (at + s.width + cond half.x 1 0) i)) (average r (lane_of s at i) (lane_of s (at + cond half.x 1 0) i))

-- the rows that n predicted ones read, each of n columns
pub record HasRows (s : Source) (half : Half) (n : ℕ) : Type 0 where
  pub columns : n ≡ columns_beside s.colours
  pub width : s.width ≤ 352
  pub reach : Reaches s (s.width * (n - 1 + cond half.y 1 0)) (n + cond half.x 1 0)

-- `count` rows of n predicted samples, which stand in the lanes from `first` on
abbrev pub AreLanesFrom : ℕ → Source → Half → ℕ → ℕ → ℕ → List ℕ → Type 0
AreLanesFrom n s half r first count samples =
    (k i : ℕ) → k < count → i < n
    → slice_index samples (n * k + i) ≡ lane_between s half r (s.width * k) (first + i)
