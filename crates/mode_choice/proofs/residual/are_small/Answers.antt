use Rattle.std.proofs.Common.{arith, subst, ℕ, ◌+◌, ◌*◌, ◌/◌, ◌%◌, ◌<◌, unsigned_abs}
use Rattle.quantiser.specs.Zigzag.{block_place_of}
use Rattle.mode_choice.specs.Choice.{coefficient_at}
use Rattle.mode_choice.proofs.Levels.{no_level}
use Rattle.mode_choice.proofs.Walk.{block_place_below}
use Rattle.mode_choice.proofs.residual.are_small.Goals as goal

pub returns-then-squares-least : goal.returns-then-squares-least
returns-then-squares-least c = λ _ k.
    let at : ℕ = block_place_of k in
    let below : at < 64 = block_place_below k in
    let least : ℕ = c.least_size-least.result in
    let less : c.sum_of_squares-squares.result + least + 1 < least * least = c.if-squares-least.true in
    no_level c.args.quant (coefficient_at c.args.residuals.now k) c.requires.quant
    (subst (λ (n : ℕ). unsigned_abs (coefficient_at c.args.residuals.now k) < n) c.least_size-least.ensures.value
    (c.small_squares.ensures c.args.residuals.now (at / 8) (at % 8) least (omega arith)
    (omega arith) c.least_size-least.ensures.most
    (subst (λ (n : ℕ). n + least + 1 < least * least) c.sum_of_squares-squares.ensures.sum less)))

pub returns-then-squares-least-2 : goal.returns-then-squares-least-2
returns-then-squares-least-2 c = λ small k.
    let at : ℕ = block_place_of k in
    let below : at < 64 = block_place_below k in
    no_level c.args.quant (coefficient_at c.args.residuals.now k) c.requires.quant
    (subst (λ (n : ℕ). unsigned_abs (coefficient_at c.args.residuals.now k) < n) c.least_size-least.ensures.value
    (c.are_below.ensures small (at / 8) (at % 8) (omega arith) (omega arith)))
