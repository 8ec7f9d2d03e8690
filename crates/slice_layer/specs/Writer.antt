-- What a slice's writer holds: the slice's text up to its last macroblock, and what the next one depends on.
use Rattle.std.specs.Prelude.{◌≡◌, ℕ, ◌+◌, List, length, take, Bool, nat_lt, if◌then◌else◌}
use Rattle.std.specs.Borrow.{GName}
use Rattle.h263_types.specs.declared.Kind.{Kind}
use Rattle.h263_types.specs.declared.format.Format.{Format}
use Rattle.h263_types.specs.declared.blocks.Mb.{Mb}
use Rattle.picture_header.specs.declared.header.Header.{Header}
use Rattle.slice_layer.specs.declared.writing.SliceWriter.{SliceWriter}
use Rattle.slice_layer.specs.declared.writing.Added.{Added}
use Rattle.slice_layer.specs.declared.writing.Added.TheVariants.{Fits, Full}
use Rattle.slice_layer.specs.Around.{vectors_of}
use Rattle.slice_layer.specs.Written.{slice_text, quant_after_all, IsPaddedFront}

-- the kind and the format of the picture
abbrev pub slice_kind : SliceWriter → Kind
slice_kind w = w.kind

abbrev pub slice_format : SliceWriter → Format
slice_format w = w.format

-- the numbers of the slice's first macroblock and of the next one
abbrev pub first_mb_of : SliceWriter → ℕ
first_mb_of w = w.first

abbrev pub next_mb_of : SliceWriter → ℕ
next_mb_of w = w.next

-- the quantiser in force
abbrev pub quant_of : SliceWriter → ℕ
quant_of w = w.quant

-- the bytes that were lent, as they are now, and the name of their loan
abbrev pub bytes_lent : SliceWriter → List ℕ
bytes_lent w = w.bytes.now

abbrev pub writer_loan : SliceWriter → GName
writer_loan w = w.bytes.ghost_name

-- a writer goes on with its slice: of the same picture, from the same macroblock on, in the same loan
pub record GoesOn (old new : SliceWriter) : Type 0 where
  pub kind : slice_kind new ≡ slice_kind old
  pub format : slice_format new ≡ slice_format old
  pub first : first_mb_of new ≡ first_mb_of old
  pub loan : writer_loan new ≡ writer_loan old

-- the writer holds these macroblocks of the slice that begins with macroblock `first`: the bytes begin with their text
pub record HoldsSlice (w : SliceWriter) (h : Header) (begins : Bool) (first : ℕ) (mbs : List Mb) : Type 0 where
  pub text : IsPaddedFront (slice_text h begins first mbs) (bytes_lent w)
  pub len : w.len ≡ length (slice_text h begins first mbs)
  pub kind : slice_kind w ≡ h.kind
  pub format : slice_format w ≡ h.format
  pub from : first_mb_of w ≡ first
  pub next : next_mb_of w ≡ first + length mbs
  pub quant : quant_of w ≡ quant_after_all h.quant mbs
  pub vectors : take (next_mb_of w) w.vectors ≡ vectors_of first mbs

-- whether a text of this many bytes fits
abbrev pub added_within : ℕ → ℕ → Added
added_within room bytes = if nat_lt room bytes then Full else Fits
