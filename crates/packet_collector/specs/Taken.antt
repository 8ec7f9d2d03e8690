-- Which slices were taken of which pictures, and where another one stands to them.
use Rattle.std.specs.Prelude.{◌≡◌, ◌≢◌, ℕ, ◌+◌, Bool, true, false, ◌&&◌, not, ◌==◌, nat_le, nat_lt, List, ◌∷◌}
use Rattle.std.specs.List.{list_any}
use Rattle.call_model.specs.Numbers.{all_below}
use Rattle.h263_bits.specs.Syntax.{IsIn}
use Rattle.h263_types.specs.declared.format.Format.{Format}
use Rattle.h263_types.specs.declared.blocks.SliceHead.{SliceHead}
use Rattle.h263_types.specs.Sizes.{mbs_of}
use Rattle.picture_header.specs.declared.header.Header.{Header}
use Rattle.packet_collector.specs.declared.piece.Piece.{Piece}
use Rattle.packet_collector.specs.declared.piece.Place.{Place}
use Rattle.packet_collector.specs.declared.piece.Place.TheVariants.{HeaderDiffers, Repeat, Overlap, Fresh}

-- a slice that was taken: its picture's number and header, and which macroblocks it holds
pub record Taken : Type 0 where
  pub number : ℕ
  pub piece : Piece

-- the slice holds macroblock k of its picture
abbrev pub head_holds : SliceHead → ℕ → Bool
head_holds head k = nat_le head.first k && nat_lt k (head.first + head.count)

-- macroblock k of picture n was taken
unfoldable pub is_mb_taken : List Taken → ℕ → ℕ → Bool
is_mb_taken taken n k = list_any (λ t. (t.number == n) && head_holds t.piece.head k) taken

-- something of picture n was taken
unfoldable pub is_any_taken : List Taken → ℕ → Bool
is_any_taken taken n = list_any (λ t. t.number == n) taken

-- all macroblocks of picture n were taken
abbrev pub is_whole : Format → List Taken → ℕ → Bool
is_whole format taken n = all_below (mbs_of format) (is_mb_taken taken n)

-- the test holds of each macroblock of the slice
abbrev pub all_in_head : SliceHead → (ℕ → Bool) → Bool
all_in_head head test = all_below head.count (λ i. test (head.first + i))

-- the test holds of no macroblock of the slice
abbrev pub none_in_head : SliceHead → (ℕ → Bool) → Bool
none_in_head head test = all_below head.count (λ i. not (test (head.first + i)))

-- a slice of picture n was taken with another header
abbrev pub HasOther : List Taken → ℕ → Header → Type 0
HasOther taken n h = (t : Taken) × IsIn t taken × (t.number ≡ n) × (t.piece.header ≢ h)

-- each slice of picture n was taken with this header
abbrev pub HasNoOther : List Taken → ℕ → Header → Type 0
HasNoOther taken n h = (t : Taken) → IsIn t taken → t.number ≡ n → t.piece.header ≡ h

-- where a slice of picture n stands to those that were taken
abbrev pub IsPlace : List Taken → ℕ → Piece → Place → Type 0
IsPlace taken n piece HeaderDiffers = HasOther taken n piece.header
IsPlace taken n piece Repeat = HasNoOther taken n piece.header × (all_in_head piece.head (is_mb_taken taken n) ≡ true)
IsPlace taken n piece Overlap =
    HasNoOther taken n piece.header × (all_in_head piece.head (is_mb_taken taken n) ≡ false)
    × (none_in_head piece.head (is_mb_taken taken n) ≡ false)
IsPlace taken n piece Fresh =
    HasNoOther taken n piece.header × (all_in_head piece.head (is_mb_taken taken n) ≡ false)
    × (none_in_head piece.head (is_mb_taken taken n) ≡ true)

-- What lists of taken slices say of a picture and of its macroblocks.
pub record TakenLaws : Type 0 where
  -- something of a picture was taken where it is in the list, and nowhere else
  pub member : (taken : List Taken) (n : ℕ) → is_any_taken taken n ≡ true → (t : Taken) × IsIn t taken × (t.number ≡ n)
  pub absent : (taken : List Taken) (n : ℕ) → is_any_taken taken n ≡ false → (t : Taken) → IsIn t taken → t.number ≢ n
  -- a picture of which nothing was taken has no macroblock
  pub never : (taken : List Taken) (n k : ℕ) → is_any_taken taken n ≡ false → is_mb_taken taken n k ≡ false
  -- with one slice more
  pub same : (t : Taken) (taken : List Taken) → is_any_taken (t ∷ taken) t.number ≡ true
  pub other : (t : Taken) (taken : List Taken) (n : ℕ) → t.number ≢ n → is_any_taken (t ∷ taken) n
      ≡ is_any_taken taken n
  pub held : (t : Taken) (taken : List Taken) (k : ℕ)
      → head_holds t.piece.head k ≡ true → is_mb_taken (t ∷ taken) t.number k ≡ true
  pub not_held : (t : Taken) (taken : List Taken) (n k : ℕ)
      → head_holds t.piece.head k ≡ false → is_mb_taken (t ∷ taken) n k ≡ is_mb_taken taken n k
  pub other_held : (t : Taken) (taken : List Taken) (n k : ℕ)
      → t.number ≢ n → is_mb_taken (t ∷ taken) n k ≡ is_mb_taken taken n k
