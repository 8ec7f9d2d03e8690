use Rattle.std.proofs.Common.{ℤ, pos, ap, arith, ◌∙◌}
use Rattle.std.specs.Prelude.{unsigned_abs}
use Rattle.std.proofs.lemmas.Int.{ints}
use Rattle.std.proofs.lemmas.List.{get_or-replicate}
use Rattle.picture_recon.proofs.Kept.{same_dc}
use Rattle.picture_recon.proofs.values.flat.Goals as goal

pub returns : goal.returns
returns c = λ at less.
    ap pos (get_or-replicate 64 at _ 0 less)
    ∙ ap (λ (z : ℤ). pos (unsigned_abs z)) (same_dc c.args.dc c.requires)
    ∙ omega (arith, ints)
