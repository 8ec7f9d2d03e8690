-- A picture that is coded into a store.
use Rattle.std.specs.Prelude.{◌≡◌, ℕ, ◌<◌, length, Option, Some, None}
use Rattle.std.specs.Option.{option_map}
use Rattle.h263_types.specs.declared.Kind.{Kind}
use Rattle.h263_types.specs.declared.Kind.TheVariants.{I, P}
use Rattle.h263_planes.specs.Picture.{Picture}
use Rattle.picture_store.specs.Pictures.{StoredPictures, IsKept, slot_of, slots_of, picture_in, work_in}

-- a P picture, and no other, has a reference, which is kept
abbrev pub HasKept : Kind → StoredPictures → Option ℕ → Type 0
HasKept I store None = Unit {0}
HasKept I store (Some m) = ⊥
HasKept P store None = ⊥
HasKept P store (Some m) = IsKept store m

-- the kept picture of this number
abbrev pub kept_picture : StoredPictures → Option ℕ → Option Picture
kept_picture store reference = option_map (λ m. picture_in store (slot_of store m)) reference

-- work picture 0 is this one now, and nothing else of the store changed
pub record IsCodedInto (old new : StoredPictures) (picture : Picture) : Type 0 where
  pub format : new.format ≡ old.format
  pub numbers : new.numbers ≡ old.numbers
  pub pictures : length new.pictures ≡ length old.pictures
  pub work : work_in new 0 ≡ picture
  pub others : (k : ℕ) → k < slots_of old → picture_in new k ≡ picture_in old k
