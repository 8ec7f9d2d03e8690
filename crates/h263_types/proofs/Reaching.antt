-- The reach of a macroblock, by its two components.
use Rattle.std.proofs.Common.{◌≡◌, ℕ, ◌*◌, ◌/◌, ◌%◌, refl, ℤ, pos, ◌≤ℤ◌, neg_ℤ, ◌↔◌}
use Rattle.h263_types.specs.declared.format.Format.{Format}
use Rattle.h263_types.specs.declared.format.Format.TheVariants.{SubQcif, Qcif, Cif}
use Rattle.h263_types.specs.Sizes.{width_of, height_of, columns_of, rows_of}
use Rattle.h263_types.specs.Vectors.{InReach, InSide}

-- a format's sizes are whole numbers of macroblocks
width_whole : (f : Format) → 16 * columns_of f ≡ width_of f
width_whole SubQcif = refl
width_whole Qcif = refl
width_whole Cif = refl

height_whole : (f : Format) → 16 * rows_of f ≡ height_of f
height_whole SubQcif = refl
height_whole Qcif = refl
height_whole Cif = refl

-- the components that reach from macroblock `at` of `count` are those from least to most
abbrev pub Reaches : ℕ → ℕ → ℤ → ℤ → ℤ → Type 0
Reaches at count least most v = ((neg_ℤ (pos 32) ≤ℤ v) × (v ≤ℤ pos 31) × InSide (16 * at) (16 * count) v)
    ↔ ((least ≤ℤ v) × (v ≤ℤ most))

pub both_components : (f : Format) (mb columns rows : ℕ) (left right up down x y : ℤ) → columns ≡ columns_of f
    → rows ≡ rows_of f →
    Reaches (mb % columns) columns left right x → Reaches (mb / columns) rows up down y →
    InReach f mb x y ↔ (((left ≤ℤ x) × (x ≤ℤ right)) × ((up ≤ℤ y) × (y ≤ℤ down)))
both_components f mb columns rows left right up down x y ec er hx hy =
    let across = rw (ec, width_whole f) at hx in
    let along = rw (ec, er, height_whole f) at hy in
    (λ h. (across.0 h.0, along.0 h.1), λ h. (across.1 h.0, along.1 h.1))
