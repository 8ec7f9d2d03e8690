-- A store of pictures of which some aren't drawn yet: in place of its samples such a picture has its levels.
use Rattle.std.specs.Prelude.{◌≡◌, ℕ, zero, suc, ◌+◌, ◌<◌, true, Bool, List, length, map, slice_index_or, None}
use Rattle.std.specs.List.{range_with_len}
use Rattle.h263_types.specs.Blocks.{IsMb, IsQuant}
use Rattle.h263_types.specs.Sizes.{mbs_of}
use Rattle.h263_planes.specs.Picture.{Picture}
use Rattle.picture_recon.specs.Samples.{reconstruction}
use Rattle.picture_recon.specs.Undrawn.{undrawn_mb, undrawn_mbs}
use Rattle.picture_store.specs.Pictures.{StoredPictures, picture_in, slots_of}

-- the quantiser of a picture that isn't drawn, by its place in the store; 0 where it is drawn
abbrev pub quant_at : List ℕ → ℕ → ℕ
quant_at quants k = slice_index_or quants k 0

-- the picture once it is drawn
unfoldable pub once_drawn : ℕ → Picture → Picture
once_drawn zero p = p
once_drawn (suc q) p = reconstruction p.format 0 None (undrawn_mbs (suc q) p)

-- what is in the place of its samples can be drawn
pub record CanBeDrawn (quant : ℕ) (p : Picture) : Type 0 where
  pub quant_is : IsQuant quant
  pub in_range : (at : ℕ) → at < mbs_of p.format → IsMb (undrawn_mb quant p at)

-- the pictures of a store once all are drawn
unfoldable pub pictures_once_drawn : List ℕ → StoredPictures → List Picture
pictures_once_drawn quants store =
    map (λ k. once_drawn (quant_at quants k) (picture_in store k)) (range_with_len 0 (length store.pictures))

-- the store once all its pictures are drawn
abbrev pub store_once_drawn : List ℕ → StoredPictures → StoredPictures
store_once_drawn quants store = record store { pictures = pictures_once_drawn quants store }

-- each picture has its quantiser, the only work picture the last one, and can be drawn if it isn't
pub record AreLate (quants : List ℕ) (store : StoredPictures) : Type 0 where
  pub count : length quants ≡ length store.pictures
  pub works : length store.pictures ≡ slots_of store + 1
  pub some : 0 < slots_of store
  pub late : (k : ℕ) → k < length store.pictures → 0 < quant_at quants k
      → CanBeDrawn (quant_at quants k) (picture_in store k)

-- all are drawn
abbrev pub AreDrawn : List ℕ → Type 0
AreDrawn quants = (k : ℕ) → quant_at quants k ≡ 0

-- what contracts see: whether each picture is drawn as it is coded, their quantisers, and the store
-- once all are drawn
pub record LatePictures : Type 0 where
  pub draws_all : Bool
  pub quants : List ℕ
  pub store : StoredPictures

-- what a store keeps of its parts
pub record IsLateStore (draws_all : Bool) (quants : List ℕ) (store : StoredPictures) : Type 0 where
  pub late : AreLate quants store
  pub drawn : draws_all ≡ true → AreDrawn quants

-- the kept pictures are the same, once they are drawn
pub record AreKeptAs (old new : StoredPictures) : Type 0 where
  pub format : new.format ≡ old.format
  pub numbers : new.numbers ≡ old.numbers
  pub pictures : length new.pictures ≡ length old.pictures
  pub room : new.room ≡ old.room
  pub others : (k : ℕ) → k < slots_of old → picture_in new k ≡ picture_in old k
