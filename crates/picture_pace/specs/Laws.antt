-- What holds of a pace that fits, whatever is coded.
use Rattle.std.specs.Prelude.{◌≡◌, ℕ, ◌+◌, ◌*◌, ◌<◌, ◌≤◌, List, [], ◌∷◌, ◌++◌, length, map, sum}
use Rattle.std.specs.List.{AllZip}
use Rattle.h263_types.specs.declared.format.Format.{Format}
use Rattle.h263_types.specs.declared.Kind.{Kind}
use Rattle.picture_pace.specs.declared.fit.FitPace.{FitPace}
use Rattle.picture_pace.specs.Fitting.{after_coded, difficulty_of, fitting_quant, pace_at_start, bytes_wanted}

-- ---- one quantiser

abbrev pub InRange : Type 0
InRange = (kind : Kind) (p : FitPace) → (2 ≤ fitting_quant kind p) × (fitting_quant kind p ≤ 31)

-- Below 31 the picture is expected to have fewer bytes than are wanted, since its difficulty is less
-- than they times the quantiser. With each finer one it isn't, but where the bucket holds more than
-- the room.
abbrev pub FinestThatFits : Type 0
FinestThatFits =
    (kind : Kind) (p : FitPace)
    → (fitting_quant kind p < 31 → difficulty_of kind p < bytes_wanted kind p * fitting_quant kind p)
    × (p.level ≤ p.room → (finer : ℕ) → 2 ≤ finer → finer < fitting_quant kind p
    → bytes_wanted kind p * finer ≤ difficulty_of kind p)

-- ---- what was coded

-- a picture: its kind, its quantiser and its bytes
pub record Shot : Type 0 where
  pub kind : Kind
  pub quant : ℕ
  pub bytes : ℕ

-- after these pictures, the oldest first
abbrev pub after_shots : FitPace → List Shot → FitPace
after_shots p [] = p
after_shots p (x ∷ xs) = after_shots (after_coded x.kind x.quant x.bytes p) xs

-- a greater target and a greater room never give a coarser quantiser
abbrev pub MoreIsFiner : Type 0
MoreIsFiner =
    (f : Format) (target more room more_room : ℕ) (xs : List Shot) (kind : Kind)
    → target ≤ more → room ≤ more_room
    → fitting_quant kind (after_shots (pace_at_start f more more_room) xs)
    ≤ fitting_quant kind (after_shots (pace_at_start f target room) xs)

-- of the same kind, and no smaller
pub record IsNoSmaller (x y : Shot) : Type 0 where
  pub kind : x.kind ≡ y.kind
  pub quant : x.quant ≤ y.quant
  pub bytes : x.bytes ≤ y.bytes

-- larger pictures never give a finer quantiser
abbrev pub LargerIsCoarser : Type 0
LargerIsCoarser =
    (f : Format) (target room : ℕ) (xs ys : List Shot) (kind : Kind) → AllZip IsNoSmaller xs ys
    → fitting_quant kind (after_shots (pace_at_start f target room) xs)
    ≤ fitting_quant kind (after_shots (pace_at_start f target room) ys)

-- ---- where it is followed

-- a picture that was coded as it says: its kind and its bytes
pub record PacedPicture : Type 0 where
  pub kind : Kind
  pub bytes : ℕ

abbrev pub after_followed : FitPace → PacedPicture → FitPace
after_followed p x = after_coded x.kind (fitting_quant x.kind p) x.bytes p

-- the oldest first
abbrev pub after_pictures : FitPace → List PacedPicture → FitPace
after_pictures p [] = p
after_pictures p (x ∷ xs) = after_pictures (after_followed p x) xs

-- No picture has more bytes than the most, and one that is coded with 31 none above the target.
abbrev pub KeepsTo : ℕ → FitPace → List PacedPicture → Type 0
KeepsTo most p [] = Unit {0}
KeepsTo most p (x ∷ xs) =
    (x.bytes ≤ most) × (fitting_quant x.kind p ≡ 31 → x.bytes ≤ p.target)
    × KeepsTo most (after_followed p x) xs

-- The level stays below the room and one picture's most.
abbrev pub LevelStays : Type 0
LevelStays =
    (f : Format) (target room most : ℕ) (xs : List PacedPicture)
    → KeepsTo most (pace_at_start f target room) xs
    → (after_pictures (pace_at_start f target room) xs).level ≤ room + most

-- So pictures in a row exceed their targets by no more, wherever they stand. (Room and most are
-- numbers of 32 bits.)
abbrev pub SumStays : Type 0
SumStays =
    (f : Format) (target room most : ℕ) (front back : List PacedPicture)
    → room ≤ 4294967295 → most ≤ 4294967295
    → KeepsTo most (pace_at_start f target room) (front ++ back)
    → sum (map (λ x. x.bytes) back) ≤ length back * target + (room + most)
