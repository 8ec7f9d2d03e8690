-- The quantiser against what is wanted.
use Rattle.std.proofs.Common.{◌≡◌, ℕ, ◌+◌, ◌*◌, ◌/◌, ◌<◌, ◌≤◌, Bool, true, false, cond, ltb, arith, true≢false, mul_comm, div-mul-le_self, div-lt_iff_lt-mul, le-ltb}
use Rattle.std.proofs.lemmas.Nat.{mul-le}
use Rattle.picture_pace.specs.Fitting.{difficulty_of, fitting, bytes_wanted}
use Rattle.picture_pace.specs.Laws.{FinestThatFits}

next_above : (d w : ℕ) → 1 ≤ w → d < (d / w + 1) * w
next_above d w h = (div-lt_iff_lt-mul h).0 (omega arith)

fewer : (b : Bool) (d w : ℕ) → 1 ≤ w → cond b 31 (fitting d w) < 31 → d < w * cond b 31 (fitting d w)
fewer true d w some h = omega arith
fewer false d w some h =
    let above = next_above d w some in
    let more = mul-le (d / w + 1) w (fitting d w) w (omega arith) (omega arith) in
    let turned = mul_comm w (fitting d w) in
    omega (arith, above, more, turned)

no_finer : (b : Bool) (d w r : ℕ) → b ≡ false → 2 ≤ r → r < cond b 31 (fitting d w) → w * r ≤ d
no_finer true d w r e two less = absurd (true≢false e)
no_finer false d w r e two less =
    let few : r ≤ d / w = omega arith in
    let more = mul-le r w (d / w) w few (omega arith) in
    let all = div-mul-le_self d w in
    let turned = mul_comm w r in
    omega (arith, more, all, turned)

pub fits : FinestThatFits
fits kind p = (
  fewer (ltb p.room p.level) (difficulty_of kind p) (bytes_wanted kind p) (omega arith),
  λ calm r two less. no_finer (ltb p.room p.level) (difficulty_of kind p) (bytes_wanted kind p) r
      (le-ltb p.room p.level calm) two less,
)
