-- What it means that a picture of a stream breaks a rule, rule by rule, and that a log breaks it first.
use Rattle.std.specs.Prelude.{◌≡◌, ◌⊎◌, ℕ, ◌+◌, ◌%◌, ◌<◌, ◌≤◌, ⊤, true, false, List, [], ◌∷◌, ◌++◌, Some, Result, Ok}
use Rattle.call_model.specs.Coding.{Rules, window, period, has_mb, Piece, Message, Decoding}
use Rattle.call_model.specs.CodedPictures.{is_among}
use Rattle.call_model.specs.Sending.{nearest_below}
use Rattle.stream_audit.specs.declared.verdict.Rule.{Rule}
use Rattle.stream_audit.specs.declared.verdict.Rule.TheVariants as rule
use Rattle.stream_audit.specs.declared.verdict.Verdict.TheVariants.{No}
use Rattle.stream_audit.specs.Sound.{IsReadable}
use Rattle.stream_audit.specs.Stream.{LogEntry, Sent, Fed, StreamPicture, Item, pictures_in, last_picture, known_of, stream_of}
use Rattle.stream_audit.specs.Verdict.{has, present, verdict_of}

-- the last picture, if there is one, has all its macroblocks
abbrev pub LastIsWhole : {Style Mb : Type 0} → Rules → List (Item Style Mb) → Type 0
LastIsWhole {Style} {Mb} rules items =
    (p : StreamPicture Style Mb) → last_picture items ≡ Some p → (k : ℕ) → k < rules.mbs → has p k ≡ true

module _ {Style Mb P Fault : Type 0} (decoding : Decoding Style Mb P Fault) (rules : Rules) where
  -- these bytes are a packet of the last of these pictures, since it has that one's temporal reference
  pub record IsOfLast (items : List (Item Style Mb)) (bytes : List ℕ) : Type 0 where
    pub picture : StreamPicture Style Mb
    pub last : last_picture items ≡ Some picture
    pub piece : Piece Style Mb
    pub read_as : decoding.read bytes ≡ Ok piece
    pub half : piece.header.half ≡ rules.half
    pub number : picture.header.number ≡ piece.header.number

  -- they are one of the next picture, since the last one, if there is one, has another
  pub record IsOfNext (items : List (Item Style Mb)) (bytes : List ℕ) : Type 0 where
    pub piece : Piece Style Mb
    pub read_as : decoding.read bytes ≡ Ok piece
    pub half : piece.header.half ≡ rules.half
    pub number : (p : StreamPicture Style Mb) → last_picture items ≡ Some p
        → p.header.number ≡ piece.header.number → ⊥

module _ {Style Mb P Fault MessageFault : Type 0} (decoding : Decoding Style Mb P Fault)
    (read : List ℕ → Result Message MessageFault) (rules : Rules) where
  -- With these bytes picture n breaks this rule, after these items: they are no packet of the picture
  -- clock; they have another header than their picture, or a macroblock that it has already; or they
  -- begin the next picture, where the last one isn't whole, or with another temporal reference than the
  -- next one's, or it refers to what is not known and in the window.
  abbrev pub Breaks : List (Item Style Mb) → List ℕ → ℕ → Rule → Type 0
  Breaks items bytes n rule.Packet = (n ≡ present items) × (IsReadable decoding rules bytes → ⊥)
  Breaks items bytes n rule.Header =
      (n ≡ present items) × (x : IsOfLast decoding rules items bytes) × (x.piece.header ≡ x.picture.header → ⊥)
  Breaks items bytes n rule.Overlap =
      (n ≡ present items) × (x : IsOfLast decoding rules items bytes)
      × (((k : ℕ) → has_mb x.piece.slice k ≡ true → has x.picture k ≡ false) → ⊥)
  Breaks items bytes n rule.Gap =
      (n ≡ present items) × IsOfNext decoding rules items bytes × (LastIsWhole rules items → ⊥)
  Breaks items bytes n rule.Number =
      (n ≡ pictures_in items) × (x : IsOfNext decoding rules items bytes)
      × (x.piece.header.number ≡ n % period rules → ⊥)
  Breaks items bytes n rule.Reference =
      (n ≡ pictures_in items) × (x : IsOfNext decoding rules items bytes)
      × (rest : ℕ) × (x.piece.header.reference ≡ Some rest)
      × ((m : ℕ) → nearest_below rules n rest ≡ Some m → n ≤ m + window rules
      → is_among (known_of read rules items) m ≡ true → ⊥)

  -- no packet of a log breaks a rule, the newest first
  abbrev pub NoneBreaks : List LogEntry → Type 0
  NoneBreaks [] = ⊤
  NoneBreaks (Sent bytes ∷ past) =
      ((n : ℕ) (r : Rule) → Breaks (stream_of decoding past) bytes n r → ⊥) × NoneBreaks past
  NoneBreaks (Fed bytes ∷ past) = NoneBreaks past

  -- a packet breaks it, and none before it breaks one
  pub record BreaksFirst (log : List LogEntry) (n : ℕ) (r : Rule) : Type 0 where
    pub later : List LogEntry
    pub bytes : List ℕ
    pub past : List LogEntry
    pub split : log ≡ later ++ Sent bytes ∷ past
    pub breaks : Breaks (stream_of decoding past) bytes n r
    pub none : NoneBreaks past

  -- no packet breaks one, and at the end the last picture isn't whole
  pub record LacksAtEnd (log : List LogEntry) (n : ℕ) (r : Rule) : Type 0 where
    pub rule : r ≡ rule.Gap
    pub number : n ≡ present (stream_of decoding log)
    pub lacks : LastIsWhole rules (stream_of decoding log) → ⊥
    pub none : NoneBreaks log

  -- where the verdict on a log is no, its picture breaks its rule, and nothing before it breaks one
  abbrev pub NoIsFirst : Type 0
  NoIsFirst = (log : List LogEntry) (n : ℕ) (r : Rule) → verdict_of decoding read rules log ≡ No n r
      → BreaksFirst log n r ⊎ LacksAtEnd log n r
