-- What the searches below a bound find.
use Rattle.call_model.specs.Numbers.{OneRestIsFar, GreatestIs, GreatestIsNone, AllBelowIs}
use Rattle.call_model.proofs.ListLemmas.{greatest_passes, greatest_above, greatest_found, greatest_none, greatest_none_below, all_below_at, all_below_from}
use Rattle.call_model.proofs.Slots.{same_rest_far}

pub one_rest_is_far : OneRestIsFar
one_rest_is_far period m n pos same less = same_rest_far period m n pos same less

pub greatest_is : GreatestIs
greatest_is test bound m = (
  λ e. let p = greatest_passes test bound m e in (p.0, p.1, greatest_above test bound m e),
  λ h. greatest_found test bound m h.0 h.1 h.2,
)

pub greatest_is_none : GreatestIsNone
greatest_is_none test bound = (greatest_none_below test bound, greatest_none test bound)

pub all_below_is : AllBelowIs
all_below_is bound test = (λ all k lt. all_below_at bound test k all lt, λ each. all_below_from bound test each)
