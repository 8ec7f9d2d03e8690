-- What a video is, as a text that is put together: a line of a head, then frames, each a line and planes.
use Rattle.std.specs.Prelude.{ℕ, zero, suc, ◌≡◌, ◌<◌, ◌≤◌, false, List, [], ◌∷◌, ◌++◌, length, map, All, codes, Some, None}
use Rattle.std.specs.List.{flat_map}
use Rattle.h263_types.specs.declared.format.Format.{Format}
use Rattle.h263_types.specs.Sizes.{size_of_picture}
use Rattle.h263_outside.specs.Lines.{NoNewline}
use Rattle.y4m.specs.Line.{is_gap, tags_of}
use Rattle.y4m.specs.Head.{tag_fault, format_in}
use Rattle.y4m.specs.Video.{most_frames}

-- nothing, or something that a space stands before
abbrev pub StandsApart : List ℕ → Type 0
StandsApart [] = Unit {0}
StandsApart (b ∷ tail) = b ≡ 32

-- a whole line: a word, nothing or a space with anything after it, and a newline; 256 bytes at most
pub record IsTextLine (word line : List ℕ) : Type 0 where
  pub tail : List ℕ
  pub text : line ≡ word ++ tail ++ 10 ∷ []
  pub apart : StandsApart tail
  pub one : NoNewline tail
  pub short : length line ≤ 256

-- one byte at least, and no gap
pub record IsHeadWord (text : List ℕ) : Type 0 where
  pub some : 0 < length text
  pub gapless : All (λ b. is_gap b ≡ false) text

-- a word of a line, and how many spaces more than one stand before it
pub record Word : Type 0 where
  pub more : ℕ
  pub text : List ℕ

abbrev pub spaces : ℕ → List ℕ
spaces zero = []
spaces (suc n) = 32 ∷ spaces n

-- words, each after one space or more, and this many spaces after the last
abbrev pub spaced : List Word → ℕ → List ℕ
spaced [] n = spaces n
spaced (word ∷ words) n = 32 ∷ (spaces word.more ++ (word.text ++ spaced words n))

-- the line of a head: its tags are of the accepted forms, and the last W and the last H are those of the format
pub record IsHead (line : List ℕ) (f : Format) : Type 0 where
  pub spelled : IsTextLine (codes "YUV4MPEG2") line
  pub accepted : All (λ tag. tag_fault tag ≡ None) (tags_of line)
  pub sized : format_in (tags_of line) ≡ Some f

-- a frame in its text
pub record SpelledFrame : Type 0 where
  pub line : List ℕ
  pub planes : List ℕ

-- a frame of a format, with any tags
pub record IsFrame (f : Format) (frame : SpelledFrame) : Type 0 where
  pub spelled : IsTextLine (codes "FRAME") frame.line
  pub size : length frame.planes ≡ size_of_picture f

-- the text of a video in a format whose frames have these planes, 1,048,576 frames at most
pub record IsVideo (video : List ℕ) (f : Format) (planes : List (List ℕ)) : Type 0 where
  pub head : List ℕ
  pub frames : List SpelledFrame
  pub text : video ≡ head ++ flat_map (λ frame. frame.line ++ frame.planes) frames
  pub of_head : IsHead head f
  pub of_frames : All (IsFrame f) frames
  pub of_planes : planes ≡ map (λ frame. frame.planes) frames
  pub count : length frames ≤ most_frames
