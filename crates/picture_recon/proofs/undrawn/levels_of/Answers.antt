use Rattle.std.proofs.Common.{◌≡◌, ℕ, ◌<◌, ℤ, pos, List, get_or, ap, ◌∙◌, arith, to_z, of_z, w16}
use Rattle.std.proofs.lemmas.Int.{ints}
use Rattle.h263_types.specs.declared.blocks.Block.{Block}
use Rattle.picture_recon.specs.Undrawn.{level_by_byte}
use Rattle.picture_recon.proofs.Bytes.{later_byte}
use Rattle.picture_recon.proofs.Steps.{first_put}
use Rattle.picture_recon.proofs.undrawn.levels_of.Goals as goal

byte_again : (z : ℤ) (n : ℕ) → z ≡ pos n → n < 256 → to_z w16 (of_z w16 z) ≡ pos n
byte_again z n e less = omega (arith, ints)

abbrev block : List ℤ → Block
block levels = record { levels = levels }

pub returns : goal.returns
returns c =
    let byte = λ (k : ℕ). get_or c.args.bytes.now k 0 in
    ap block (first_put (λ k. level_by_byte k (byte k)) c.loop-k.levels _ c.loop-k.invariant.0
    (byte_again c.dc.result (byte 0) c.dc.ensures.value c.dc.ensures.range)
    (λ k some less. c.loop-k.invariant.1 k (omega (arith, less)) ∙ later_byte k (byte k) some))
