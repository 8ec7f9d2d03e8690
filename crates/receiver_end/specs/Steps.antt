-- What is judged of a slice, and the parts of what a slice and a play change.
use Rattle.std.specs.Prelude.{◌≡◌, ℕ, ◌+◌, ◌%◌, ◌<◌, Bool, true, false, ◌||◌, List, length, Option, Some, None, Result, Ok, Err, if◌then◌else◌, option_and_then}
use Rattle.h263_bits.specs.declared.fault.Fault.{Fault}
use Rattle.h263_types.specs.declared.blocks.Mb.{Mb}
use Rattle.h263_types.specs.declared.Kind.{Kind}
use Rattle.h263_types.specs.declared.Kind.TheVariants as kinds
use Rattle.h263_types.specs.declared.format.Format.{Format}
use Rattle.h263_types.specs.declared.params.Params.{Params}
use Rattle.h263_types.specs.Blocks.{mb_in}
use Rattle.h263_types.specs.Sizes.{mbs_of}
use Rattle.h263_planes.specs.declared.Plane.{Plane}
use Rattle.h263_planes.specs.Picture.{Picture}
use Rattle.h263_planes.specs.Blocks.{mb_of}
use Rattle.h263_planes.specs.Samples.{Inside, IsPicture, sample_at}
use Rattle.picture_recon.specs.Samples.{sample_in}
use Rattle.picture_store.specs.Pictures.{StoredPictures, slots_of, slot_of, picture_in, work_in, IsKept, Keeps}
use Rattle.packet_collector.specs.declared.collector.Collector.{Collector}
use Rattle.packet_collector.specs.declared.piece.Piece.{Piece}
use Rattle.packet_collector.specs.Collected.{Collects, IsInRow, IsFreshIn, header_in, has_in}
use Rattle.packet_collector.specs.Taken.{Taken}
use Rattle.packet_collector.specs.Taken.{head_holds as has_piece}
use Rattle.packet_collector.specs.Filled.{slice_in}
use Rattle.call_model.specs.Coding as call
use Rattle.call_model.specs.Numbers.{flags_of}
use Rattle.call_model.specs.Receiving as runs
use Rattle.call_model.specs.Sending.{nearest, nearest_below}
use Rattle.call_model.specs.ReceiverStanding.{completes}
use Rattle.call_decoding.specs.Rules.{rules_of}
use Rattle.call_decoding.specs.Styles.{Style, call_header_of}
use Rattle.receiver_end.specs.declared.kept.Kept.{Kept}
use Rattle.receiver_end.specs.declared.judging.Fresh.{Fresh}
use Rattle.receiver_end.specs.declared.answers.Heard.{Heard}
use Rattle.receiver_end.specs.Decoding.{decoding, piece_of}
use Rattle.receiver_end.specs.State.{slot_holds, screen_in, seen, work_of}
use Rattle.receiver_end.specs.Answers.{IsHeard, takes}

-- ---- judging

-- the piece of the call has this header and these macroblocks
pub record IsPieceOf (piece : Piece) (p : call.Piece Style Mb) : Type 0 where
  pub header : p.header ≡ call_header_of piece.header
  pub first : p.slice.first ≡ piece.head.first
  pub count : length p.slice.mbs ≡ piece.head.count

-- the piece of the call that was read, with its macroblocks out of those of the picture
abbrev pub piece_in : Piece → List Mb → call.Piece Style Mb
piece_in piece mbs = piece_of (slice_in piece mbs)

-- the message that a receiver says of picture n where it is complete
abbrev pub ack_of : Params → StoredPictures → ℕ → call.Message
ack_of p s n =
    call.Ack (n % call.period (rules_of p)) (flags_of (call.Rules.flags (rules_of p)) (slot_holds p s) n)

-- the answer to a piece of picture n that is taken
abbrev pub taking : Kept → ℕ → call.Piece Style Mb → runs.Heard Fault
taking r n p =
    if completes (decoding r.params.format) (rules_of r.params) (seen r) n p
    then runs.Completed (ack_of r.params r.store n)
    else runs.Taken

-- the picture that a header names is kept, or it names none
abbrev pub IsReferenceOf : Kept → ℕ → Option ℕ → Option ℕ → Type 0
IsReferenceOf r n trp None = trp ≡ None
IsReferenceOf r n trp (Some m) =
    (option_and_then (nearest_below (rules_of r.params) n) trp ≡ Some m) × IsKept r.store m

-- a slice of picture n that may be taken
pub record IsFreshOf (r : Kept) (n : ℕ) (piece : Piece) (f : Fresh) : Type 0 where
  pub number : f.number ≡ n
  pub row : IsInRow r.collector n
  pub fresh : IsFreshIn r.collector n piece
  pub named : IsReferenceOf r n piece.header.trp f.reference

-- the same, of the picture that the slice is of
abbrev pub IsFreshPiece : Kept → Piece → Fresh → Type 0
IsFreshPiece r piece f =
    (nearest (rules_of r.params) r.played piece.header.tr ≡ Some f.number)
    × IsFreshOf r f.number piece f

-- what is judged of a piece is this answer
abbrev pub IsJudged : Kept → Result Fresh Heard → call.Piece Style Mb → runs.Heard Fault → Type 0
IsJudged r (Ok f) p answer = answer ≡ taking r f.number p
IsJudged r (Err heard) p answer = IsHeard r.params.clock heard answer

-- where no slice may be taken the answer takes none
abbrev pub IsUntaken : Result Fresh Heard → Type 0
IsUntaken (Ok f) = Unit {0}
IsUntaken (Err heard) = takes heard ≡ false

-- ---- drawing

-- a whole picture of this format
abbrev pub IsWholeOf : Format → Picture → Type 0
IsWholeOf f p = (p.format ≡ f) × IsPicture p

-- nothing but work picture w changed
pub record IsSameBut (old new : StoredPictures) (w : ℕ) : Type 0 where
  pub format : new.format ≡ old.format
  pub numbers : new.numbers ≡ old.numbers
  pub many : length new.pictures ≡ length old.pictures
  pub room : new.room ≡ old.room
  pub others : (k : ℕ) → (k ≡ slots_of old + w → ⊥) → picture_in new k ≡ picture_in old k

abbrev pub picture_of_reference : StoredPictures → Option ℕ → Option Picture
picture_of_reference s None = None
picture_of_reference s (Some m) = Some (picture_in s (slot_of s m))

-- the samples of the slice's macroblocks are the reconstructed ones, and the others are as before
abbrev pub SetsPiece : Format → List Mb → Piece → Option Picture → Picture → Picture → Type 0
SetsPiece f mbs piece reference old new =
    (plane : Plane) (x y : ℕ) → Inside f plane x y 1 → sample_at new plane x y
    ≡ (if has_piece piece.head (mb_of f plane x y)
    then sample_in piece.header.rounding reference (mb_in mbs (mb_of f plane x y)) plane x y
    else sample_at old plane x y)

-- a P picture's reference is kept, and an I picture has none
abbrev pub HasItsReference : StoredPictures → Kind → Option ℕ → Type 0
HasItsReference s kind None = kind ≡ kinds.I
HasItsReference s kind (Some m) = IsKept s m

-- What a slice that is drawn and marked leaves in the collector and in the store. Its picture has
-- its header and its macroblocks, and the samples of these; no other picture of the row changes.
pub record IsDrawn (r : Kept) (c : Collector) (s : StoredPictures) (mbs : List Mb) (piece : Piece)
    (f : Fresh) : Type 0 where
  pub store : IsSameBut r.store s (work_of r.params f.number)
  pub whole : IsWholeOf r.params.format (work_in s (work_of r.params f.number))
  pub sets : SetsPiece r.params.format mbs piece (picture_of_reference r.store f.reference)
      (work_in r.store (work_of r.params f.number)) (work_in s (work_of r.params f.number))
  pub header : header_in c f.number ≡ Some piece.header
  pub has : (k : ℕ) → k < mbs_of r.params.format
      → has_in c f.number k ≡ (has_piece piece.head k || has_in r.collector f.number k)
  pub rows : (m : ℕ) → IsInRow r.collector m → (m ≡ f.number → ⊥)
      → (header_in c m ≡ header_in r.collector m)
      × ((k : ℕ) → k < mbs_of r.params.format → has_in c m k ≡ has_in r.collector m k)

abbrev pub IsAdded : Kept → Kept → List Mb → Piece → Fresh → Type 0
IsAdded old new mbs piece f =
    (new ≡ record old { collector = new.collector; store = new.store })
    × IsDrawn old new.collector new.store mbs piece f

-- What a picture that is complete leaves: it is in its slot, and nothing else changes.
abbrev pub IsCompleted : Kept → Kept → ℕ → Type 0
IsCompleted old new n =
    (new ≡ record old { store = new.store }) × Keeps old.store new.store n (work_of old.params n)

-- ---- playing

-- the samples of the macroblocks that pass the test are as before, the others are another picture's
abbrev pub Patches : Format → (ℕ → Bool) → Picture → Picture → Picture → Type 0
Patches f test screen old new =
    (plane : Plane) (x y : ℕ) → Inside f plane x y 1 → sample_at new plane x y
    ≡ (if test (mb_of f plane x y) then sample_at old plane x y else sample_at screen plane x y)

-- the collector stands for some list of slices
pub record Counts (c : Collector) : Type 0 where
  pub first : ℕ
  pub taken : List Taken
  pub collects : Collects c first taken

-- what was taken of the next picture lies over the picture on the screen, in the work picture
pub record LiesOver (r : Kept) (s : StoredPictures) : Type 0 where
  pub store : IsSameBut r.store s (work_of r.params r.played)
  pub whole : IsWholeOf r.params.format (work_in s (work_of r.params r.played))
  pub patches : Patches r.params.format (has_in r.collector r.played) (screen_in r.params r.store r.exact r.played)
      (work_in r.store (work_of r.params r.played)) (work_in s (work_of r.params r.played))

abbrev pub IsPatched : Kept → Kept → Type 0
IsPatched old new = (new ≡ record old { store = new.store }) × LiesOver old new.store

-- the store is as it was where the next picture is kept, else its work picture is patched
abbrev pub IsShownIn : Kept → Bool → StoredPictures → Type 0
IsShownIn r true s = s ≡ r.store
IsShownIn r false s = LiesOver r s

abbrev pub IsShown : Kept → Kept → Type 0
IsShown old new =
    (new ≡ record old { exact = slot_holds old.params old.store old.played; store = new.store })
    × IsShownIn old (slot_holds old.params old.store old.played) new.store
