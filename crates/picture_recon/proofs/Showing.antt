-- A sample by the macroblock that holds it, while more macroblocks are shown.
use Rattle.std.proofs.Common.{◌≡◌, ℕ, ◌+◌, ◌<◌, ◌≤◌, Bool, true, false, cond, ◌&&◌, nat_eq, nat_le, nat_lt, refl, arith}
use Rattle.std.proofs.lemmas.Bool.{lt-ltb, leb-true, leb-false}
use Rattle.std.proofs.lemmas.Bool.Decides.{nat_tests}

-- one more macroblock: m is the sample's, `at` the one that was set, `val` what the sample is to be
pub one_more : (m at now mb before val : ℕ) → now ≡ cond (nat_eq m at) mb before → (m < at → before ≡ val)
    → (m ≡ at → mb ≡ val) → m < at + 1 → now ≡ val
one_more m at now mb before val is earlier there below = grind (arith, nat_tests)

-- a choice by place k of n from `low` on, where both sides are v
pub by_place : (low n k a b v : ℕ) → (k < low → b ≡ v) → (low ≤ k → a ≡ v) → k < low + n
    → cond (nat_le low k && nat_lt k (low + n)) a b ≡ v
by_place low n k a b v before there below = at_test (nat_le low k) refl
  where
    at_test : (t : Bool) → nat_le low k ≡ t → cond (t && nat_lt k (low + n)) a b ≡ v
    at_test true e = rw (lt-ltb k (low + n) below) (there (leb-true low k e))
    at_test false e = before (leb-false low k e)
