-- What a collector keeps: of each picture in a row the header of its slices, and which macroblocks were taken.
use Rattle.std.specs.Box.{boxed_slice_items}
use Rattle.std.specs.Prelude.{◌≡◌, ℕ, ◌+◌, ◌*◌, ◌%◌, ◌<◌, ◌≤◌, Bool, true, false, nat_le, List, length, slice_index_or, Option, Some, None}
use Rattle.std.specs.List.{filter}
use Rattle.h263_bits.specs.Syntax.{IsIn}
use Rattle.h263_types.specs.declared.format.Format.{Format}
use Rattle.h263_types.specs.Sizes.{mbs_of}
use Rattle.picture_header.specs.declared.header.Header.{Header}
use Rattle.packet_collector.specs.declared.piece.Piece.{Piece}
use Rattle.packet_collector.specs.declared.collector.Collector.{Collector}
use Rattle.packet_collector.specs.Taken.{Taken, is_mb_taken, is_any_taken, none_in_head, HasNoOther}

-- the pictures' format
abbrev pub format_of : Collector → Format
format_of c = c.format

-- the row's first number
abbrev pub first_of : Collector → ℕ
first_of c = c.first

-- how many pictures there are in the row
abbrev pub row_of : Collector → ℕ
row_of c = length (boxed_slice_items c.headers)

-- a number of the row
pub record IsInRow (c : Collector) (n : ℕ) : Type 0 where
  pub low : first_of c ≤ n
  pub high : n < first_of c + row_of c

-- the place of a number, which the row's next round has again
abbrev pub row_place_of : Collector → ℕ → ℕ
row_place_of c n = n % row_of c

-- the header that is kept of picture n
abbrev pub header_in : Collector → ℕ → Option Header
header_in c n = slice_index_or (boxed_slice_items c.headers) (row_place_of c n) None

-- whether macroblock k of picture n is marked
abbrev pub has_in : Collector → ℕ → ℕ → Bool
has_in c n k = slice_index_or (boxed_slice_items c.marks) (row_place_of c n * mbs_of (format_of c) + k) false

-- the header of what was taken of picture n, or none where nothing was
abbrev pub IsHeaderKept : List Taken → ℕ → Option Header → Type 0
IsHeaderKept taken n None = is_any_taken taken n ≡ false
IsHeaderKept taken n (Some h) = (is_any_taken taken n ≡ true) × HasNoOther taken n h

-- The collector, whose row begins with this number, keeps what is needed of the slices that were
-- taken, of whatever numbers before the row's end; the newest is the first of the list.
pub record Collects (c : Collector) (first : ℕ) (taken : List Taken) : Type 0 where
  pub begins : first_of c ≡ first
  pub below : (t : Taken) → IsIn t taken → t.number < first + row_of c
  pub headers : (n : ℕ) → IsInRow c n → IsHeaderKept taken n (header_in c n)
  pub marks : (n k : ℕ) → IsInRow c n → k < mbs_of (format_of c) → has_in c n k ≡ is_mb_taken taken n k

-- the slices of the pictures from a number on
abbrev pub from_number : ℕ → List Taken → List Taken
from_number first taken = filter (λ t. nat_le first t.number) taken

-- a header that may stand beside one that is kept
abbrev pub FitsKept : Option Header → Header → Type 0
FitsKept None h = Unit {0}
FitsKept (Some kept) h = kept ≡ h

-- nothing of the slice is kept, and no other header
pub record IsFreshIn (c : Collector) (n : ℕ) (piece : Piece) : Type 0 where
  pub header : FitsKept (header_in c n) piece.header
  pub none : none_in_head piece.head (has_in c n) ≡ true

-- a row of as many pictures of the same format, from a number on
pub record IsRowFrom (first : ℕ) (old new : Collector) : Type 0 where
  pub format : format_of new ≡ format_of old
  pub begins : first_of new ≡ first
  pub many : row_of new ≡ row_of old
