-- Levels that sixteenths of coefficients tell.
use Rattle.std.proofs.Common.{◌≡◌, ◌∙◌, ◌-◌, ap, arith, sym, ℕ, ◌+◌, ◌*◌, ◌/◌, ◌%◌, ◌<◌, ℤ, pos, subst, get_or, List, unsigned_abs, mod-lt}
use Rattle.h263_types.specs.Blocks.{IsQuant}
use Rattle.idct8.specs.Near.{IsBracketed, near_at}
use Rattle.idct8.specs.Transform.{entry, forward_at}
use Rattle.quantiser.specs.Levels.{inter_level, signed_of}
use Rattle.quantiser.specs.Settled.{AreSettled, IsSizeBetween, rest_of, steps_of}
use Rattle.quantiser.specs.Zigzag.{block_place_of}
use Rattle.mode_choice.specs.Choice.{coefficient_at}
use Rattle.mode_choice.specs.Walk.{half_quant, level_by, standing_place}
use Rattle.mode_choice.specs.declared.coefficients.Coding.{Coding}
use Rattle.mode_choice.specs.declared.coefficients.Coding.TheVariants.{Intra, Inter}
use Rattle.mode_choice.specs.declared.order.Standing.TheVariants.{ByColumns}
use Rattle.mode_choice.proofs.Levels.{no_level}
use Rattle.mode_choice.proofs.Walk.{block_place_below}

less_none : (q n : ℕ) → steps_of q (n - 0) ≡ steps_of q n
less_none q n = let same : n - 0 ≡ n = omega arith in ap (λ (k : ℕ). steps_of q k) same

between : (t f : ℤ) → IsBracketed t f → IsSizeBetween ((unsigned_abs t + 6) / 16) ((unsigned_abs t + 9) / 16) t f
between t f h = record { low = h.least; high = h.most; up = h.up; down = h.down }

settled_level : AreSettled → (coding : Coding) (quant : ℕ) (t level f : ℤ) → IsQuant quant → IsBracketed t f →
    level ≡ signed_of t (pos (steps_of quant ((unsigned_abs t + 6) / 16 - half_quant coding quant))) →
    steps_of quant ((unsigned_abs t + 6) / 16 - half_quant coding quant)
    ≡ steps_of quant ((unsigned_abs t + 9) / 16 - half_quant coding quant) →
    level ≡ level_by coding quant f
settled_level settled Intra quant t level f h near is same =
    let least : ℕ = (unsigned_abs t + 6) / 16 in
    let most : ℕ = (unsigned_abs t + 9) / 16 in
    is
    ∙ ap (λ (k : ℕ). signed_of t (pos k)) (less_none quant least)
    ∙ sym (settled.intra quant least most t f h (between t f near) (sym (less_none quant least) ∙ same
    ∙ less_none quant most))
settled_level settled Inter quant t level f h near is same =
    is ∙ sym (settled.inter quant ((unsigned_abs t + 6) / 16) ((unsigned_abs t + 9) / 16) t f h (between t f near) same)

-- where the least and the most that a coefficient can be have as many steps, the level of the one is the coefficient's
pub sure_level : AreSettled → (coding : Coding) (quant half : ℕ) (t level f : ℤ) → half ≡ half_quant coding quant
    → IsQuant quant → IsBracketed t f →
    level ≡ signed_of t (pos (steps_of quant ((unsigned_abs t + 6) / 16 - half))) →
    steps_of quant ((unsigned_abs t + 6) / 16 - half) ≡ steps_of quant ((unsigned_abs t + 9) / 16 - half) →
    level ≡ level_by coding quant f
sure_level settled coding quant half t level f e h near is same =
    let least : ℕ = (unsigned_abs t + 6) / 16 in
    let most : ℕ = (unsigned_abs t + 9) / 16 in
    settled_level settled coding quant t level f h near
    (is ∙ ap (λ (k : ℕ). signed_of t (pos (steps_of quant (least - k)))) e)
    (ap (λ (k : ℕ). steps_of quant (least - k)) (sym e) ∙ same ∙ ap (λ (k : ℕ). steps_of quant (most - k)) e)

-- where the most that a coefficient can be is below the least size that has a level, it has none
pub none_below : (quant least : ℕ) (t f : ℤ) → least ≡ 2 * quant + quant / 2 → IsQuant quant → IsBracketed t f
    → unsigned_abs t + 9 < 16 * least → inter_level quant f ≡ pos 0
none_below quant least t f e h near small = no_level quant f h (omega (arith, e, near.most, small))

-- what is left is less than a step
pub rest_small : (quant half : ℕ) (t : ℤ) → IsQuant quant → rest_of quant half t < 1024
rest_small quant half t h =
    let some : 0 < 32 * quant = omega (arith, h.low) in
    let less : rest_of quant half t < 32 * quant = mod-lt (unsigned_abs t + 6 - 16 * half) some in
    omega (arith, less, h.high)

-- the sixteenths at the place by columns of place k of the zigzag order bracket its coefficient
pub brackets : (samples sixteenths : List ℤ) → ((s : List ℤ) (v u : ℕ) → v < 8 → u < 8
    → IsBracketed (near_at s v u) (forward_at s v u)) →
    ((u v : ℕ) → u < 8 → v < 8 → entry sixteenths u v ≡ near_at samples v u) →
    (k : ℕ) → IsBracketed (get_or sixteenths (standing_place ByColumns k) (pos 0)) (coefficient_at samples k)
brackets samples sixteenths near each k =
    let at : ℕ = block_place_of k in
    let below : at < 64 = block_place_below k in
    subst (λ (t : ℤ). IsBracketed t (coefficient_at samples k))
    (sym (each (at % 8) (at / 8) (omega arith) (omega (arith, below))))
    (near samples (at / 8) (at % 8) (omega (arith, below)) (omega arith))
