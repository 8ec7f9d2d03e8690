-- What an audit keeps, and the log that it stands for.
use Rattle.std.specs.Prelude.{◌≡◌, ℕ, ◌-◌, ◌^◌, ◌<◌, ◌≤◌, true, false, List, length, Option, Some, None, Ok}
use Rattle.std.specs.Option.{option_map}
use Rattle.h263_bits.specs.Syntax.{IsIn}
use Rattle.h263_types.specs.declared.blocks.Mb.{Mb}
use Rattle.h263_types.specs.declared.params.Params.{Params}
use Rattle.h263_types.specs.Params.{IsParams}
use Rattle.h263_types.specs.Sizes.{mbs_of}
use Rattle.packet_collector.specs.declared.piece.Piece.{Piece}
use Rattle.packet_collector.specs.Collected.{Collects, row_of, format_of}
use Rattle.packet_collector.specs.Taken.{Taken, is_any_taken, is_mb_taken}
use Rattle.reference_selector.specs.Stands.{SelectorStands}
use Rattle.call_model.specs.Coding as call
use Rattle.call_model.specs.CodedPictures.{is_among}
use Rattle.call_decoding.specs.Rules.{rules_of}
use Rattle.call_decoding.specs.Styles.{Style, call_header_of}
use Rattle.call_encoding.specs.Messages.{read_message}
use Rattle.stream_audit.specs.declared.kept.Kept.{Kept}
use Rattle.stream_audit.specs.Logs.{Stream, broken_by_on, first_broken_on, stream_on}
use Rattle.stream_audit.specs.Stream.{LogEntry, StreamPart, StreamPicture, items_with_packet, pictures_in, last_picture, known_of}
use Rattle.stream_audit.specs.Verdict.{has}

-- the parts of an audit fit one another: the collector's row is the last picture alone
pub record AuditFits (k : Kept) : Type 0 where
  pub params : IsParams k.params
  pub format : format_of k.collector ≡ k.params.format
  pub row : row_of k.collector ≡ 1
  pub few : k.pictures ≤ 2 ^ 24
  -- the collector stands for some list of slices, and before the first picture for none
  pub taken : List Taken
  pub collects : Collects k.collector (k.pictures - 1) taken
  pub before_first : k.pictures ≡ 0 → (k.tr ≡ None) × (is_any_taken taken 0 ≡ false)

-- the piece has the header and the macroblocks of what a packet spells
pub record SpellsSlice (piece : Piece) (q : call.Piece Style Mb) : Type 0 where
  pub header : q.header ≡ call_header_of piece.header
  pub first : q.slice.first ≡ piece.head.first
  pub count : length q.slice.mbs ≡ piece.head.count

-- what was taken as picture n is what the picture has
pub record IsTakenOf (p : StreamPicture Style Mb) (n mbs : ℕ) (taken : List Taken) : Type 0 where
  pub some : is_any_taken taken n ≡ true
  pub header : (t : Taken) → IsIn t taken → t.number ≡ n → call_header_of t.piece.header ≡ p.header
  pub marks : (k : ℕ) → k < mbs → is_mb_taken taken n k ≡ has p k

-- the same of the last picture. Where there is none, nothing was taken
abbrev pub IsLast : Option (StreamPicture Style Mb) → (n mbs : ℕ) → List Taken → Type 0
IsLast None n mbs taken = is_any_taken taken n ≡ false
IsLast (Some p) n mbs taken = IsTakenOf p n mbs taken

-- it keeps what the rules ask of a stream: how many pictures there are, the last one's temporal
-- reference and what was taken of it, and which of the last ones are known
pub record AuditKeeps (k : Kept) (items : Stream) : Type 0 where
  pub count : k.pictures ≡ pictures_in items
  pub tr : k.tr ≡ option_map (λ p. p.header.number) (last_picture items)
  pub taken : List Taken
  pub collects : Collects k.collector (k.pictures - 1) taken
  pub last : IsLast (last_picture items) (k.pictures - 1) (mbs_of k.params.format) taken
  pub known : SelectorStands (rules_of k.params) k.selector k.pictures
      (λ m. 0) (is_among (known_of (read_message k.params.clock) (rules_of k.params) items))

-- The audit stands for this log, the newest first. After a broken rule it keeps nothing more.
pub record StandsForLog (k : Kept) (past : List LogEntry) : Type 0 where
  pub broken : k.broken ≡ first_broken_on k.params past
  pub keeps : k.broken ≡ None → AuditKeeps k (stream_on k.params past)

-- A packet was judged after a stream: what it breaks is broken, and where it breaks nothing it is
-- kept.
pub record IsPacketJudged (p : Params) (items : Stream) (part : StreamPart Style Mb) (k : Kept) : Type 0 where
  pub broken : k.broken ≡ broken_by_on p items (Ok part.piece)
  pub keeps : k.broken ≡ None → AuditKeeps k (items_with_packet items part)
