-- What a role has gained, part by part.
use Rattle.std.proofs.Common.{◌≡◌, ℕ, List, [], ◌++◌, Option, Some, None, refl, sym, ap, ◌∙◌, append_assoc, append-nil}
use Rattle.h263_outside.specs.Gains.{gained, Front}

-- nothing is gained by no bytes
pub gained-nil : (o : Option (List ℕ)) → gained o [] ≡ o
gained-nil None = refl
gained-nil (Some xs) = ap (λ (l : List ℕ). Some l) (append-nil xs)

-- what was gained by one and by the next is gained by both
pub gained-gained : (o : Option (List ℕ)) (a b : List ℕ) → gained (gained o a) b ≡ gained o (a ++ b)
gained-gained None a b = refl
gained-gained (Some xs) a b = ap (λ (l : List ℕ). Some l) (append_assoc xs a b)
