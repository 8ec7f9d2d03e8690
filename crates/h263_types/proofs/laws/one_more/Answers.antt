use Rattle.std.proofs.Common.{◌≡◌, ◌≢◌, get_or, slice_set, ◌∙◌, arith, below_more, get_or-set_same, get_or-set_other}
use Rattle.h263_types.proofs.laws.one_more.Goals as goal

pub returns : goal.returns
returns g c f xs at v d room now before =
    below_more (λ k. get_or (slice_set xs at v) k d ≡ f k) at
    (λ k h. let other : k ≢ at = omega arith in get_or-set_other xs at k v d other ∙ before k h)
    (get_or-set_same xs at v d room ∙ now)
