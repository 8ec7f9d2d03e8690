-- The search for a target.
use Rattle.std.proofs.Common.{◌≢◌, ℕ, ◌-◌, ◌*◌, ◌/◌, ◌<◌, ◌≤◌, arith}
use Rattle.std.proofs.Math.Nat.{div-mul-le_self, mul-le-mul_left}
use Rattle.std.proofs.lemmas.Nat.{le-div}
use Rattle.line_follower.specs.declared.four.Four.{Four}
use Rattle.line_follower.specs.declared.sizes.Sizes.{Sizes}
use Rattle.line_follower.specs.Bucket.{IsTargetFor, four_level, bucket_level, quant_for}

pub record Between (quant finest most : ℕ) (s : Sizes) (low high : ℕ) : Type 0 where
  pub some : 1 ≤ low
  pub order : low ≤ high
  pub gives : low ≢ 1 → quant ≤ quant_for finest low s
  pub above : (t : ℕ) → high < t → t ≤ most → quant_for finest t s < quant

-- ---- a greater target gives no coarser quantiser

four_less : (t u : ℕ) (f : Four) (a b : ℕ) → t ≤ u → b ≤ a → four_level u b f ≤ four_level t a f
unfolding four_level
four_less t u f a b h i = omega arith

level_less : (t u : ℕ) (s : Sizes) → t ≤ u → bucket_level u s ≤ bucket_level t s
unfolding bucket_level
level_less t u s h =
    four_less t u s.newest _ _ h
    (four_less t u s.newer _ _ h (four_less t u s.older _ _ h (four_less t u s.oldest 0 0 h (omega arith))))

div_less : (a b t u : ℕ) → 1 ≤ t → t ≤ u → a ≤ b → a / u ≤ b / t
div_less a b t u i h j =
    let m = div-mul-le_self a u in
    let k = mul-le-mul_left (a / u) h in
    le-div (a / u) b t (omega arith) (omega (arith, m, k))

pub quant_less : (finest t u : ℕ) (s : Sizes) → 1 ≤ t → t ≤ u → quant_for finest u s ≤ quant_for finest t s
unfolding quant_for
quant_less finest t u s i h =
    let l = level_less t u s h in
    let d = div_less (4 * bucket_level u s) (4 * bucket_level t s) t u i h (omega arith) in
    omega arith

pub raises_low : (quant finest most : ℕ) (s : Sizes) (low high middle : ℕ) → Between quant finest most s low high
    → low < middle → middle ≤ high → quant ≤ quant_for finest middle s → Between quant finest most s middle high
raises_low quant finest most s low high middle h lt le e =
    let o = h.some in
    record { some = omega arith; order = le; gives = λ n. e; above = h.above }

pub lowers_high : (quant finest most : ℕ) (s : Sizes) (low high middle : ℕ) → Between quant finest most s low high
    → low < middle → quant_for finest middle s < quant → Between quant finest most s low (middle - 1)
lowers_high quant finest most s low high middle h lt e =
    let o = h.some in
    record {
      some = o;
      order = omega arith;
      gives = h.gives;
      above = λ t a b. let q = quant_less finest middle t s (omega arith) (omega arith) in omega arith;
    }

pub found : (quant finest most : ℕ) (s : Sizes) (low high : ℕ) → Between quant finest most s low high → high ≤ low
    → IsTargetFor quant finest most s low
found quant finest most s low high h e =
    let o = h.order in
    record { some = h.some; gives = h.gives; greatest = λ t a b. h.above t (omega arith) b }
