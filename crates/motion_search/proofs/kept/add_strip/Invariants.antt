use Rattle.std.proofs.Common.{◌≡◌, ℕ, ◌≤◌, ◌<◌, ◌+◌, ◌*◌, slice_index}
use Rattle.h263_planes.specs.Lent.{picture}
use Rattle.motion_search.specs.Areas.{area_sum, AreSamplesAt, AreColumns, IsBeside, LeavesRest}
use Rattle.motion_search.proofs.kept.add_strip.Given as goal

-- the rows before are written, and seven rows of the next one are summed up
abbrev pub invariant-loop-k : goal.invariant-loop-k
invariant-loop-k l = record {
  low : l.fn.rows.begin ≤ l.k;
  few : l.k ≤ l.fn.rows.end;
  place : l.at + l.width * l.fn.rows.begin ≡ l.width * l.k;
  rest : LeavesRest l.fn.rows l.fn.out l.out;
  columns : (f : ℕ → ℕ → ℕ) → AreSamplesAt f → IsBeside (picture l.fn.reference) l.x l.fn.z f
      → AreColumns f (l.fn.rows.first + l.k) 7 l.columns;
  stored : (f : ℕ → ℕ → ℕ) → AreSamplesAt f → IsBeside (picture l.fn.reference) l.x l.fn.z f → (k i : ℕ)
      → l.fn.rows.begin ≤ k → k < l.k → i < 24
      → slice_index l.out (384 * k + (l.x + i)) ≡ area_sum f i (l.fn.rows.first + k);
  before : (k c : ℕ) → c < l.x → slice_index l.out (384 * k + c) ≡ slice_index l.fn.out (384 * k + c);
}
