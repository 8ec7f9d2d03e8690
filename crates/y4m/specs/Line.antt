-- The line of a head or of a frame: a word, then tags, each after one space or more, and a newline.
use Rattle.std.specs.Prelude.{ℕ, suc, ◌+◌, ◌-◌, ◌==◌, ◌&&◌, ◌||◌, nat_lt, nat_le, slice_index, Bool, List, [], ◌∷◌, length, take, Option, Some, None, if◌then◌else◌, All, ◌≢◌}

-- what stands after a tag: a space or a newline
abbrev pub is_gap : ℕ → Bool
is_gap b = b == 32 || b == 10

-- how many bytes a line has in common with a word and a gap after it, from the start
abbrev pub agreement : List ℕ → List ℕ → ℕ
agreement word [] = 0
agreement [] (b ∷ line) = if is_gap b then 1 else 0
agreement (a ∷ word) (b ∷ line) = if a == b then suc (agreement word line) else 0

-- the bytes up to the first newline, with it
abbrev pub through_newline : List ℕ → List ℕ
through_newline [] = []
through_newline (b ∷ bytes) = b ∷ (if b == 10 then [] else through_newline bytes)

-- what there is of a line among the first n bytes
abbrev pub line_within : ℕ → List ℕ → List ℕ
line_within n bytes = through_newline (take n bytes)

-- a line that ends with its newline, 256 bytes at most
abbrev pub is_line_whole : List ℕ → Bool
is_line_whole line = nat_le (length line) 256 && slice_index line (length line - 1) == 10

-- a tag, and the place of its letter
pub record Tag : Type 0 where
  pub at : ℕ
  pub text : List ℕ

-- the bytes before the first gap
abbrev pub before_gap : List ℕ → List ℕ
before_gap [] = []
before_gap (b ∷ bytes) = if is_gap b then [] else b ∷ before_gap bytes

-- the tag that begins where these bytes of a line stand after a byte: that one is a space, the tag
-- has one byte at least, and a gap is after it
abbrev pub tag_after : ℕ → List ℕ → Option (List ℕ)
tag_after before bytes =
    if before == 32 && nat_lt 0 (length (before_gap bytes))
    && nat_lt (length (before_gap bytes)) (length bytes) then Some (before_gap bytes) else None

abbrev pub with_tag : ℕ → Option (List ℕ) → List Tag → List Tag
with_tag at None tags = tags
with_tag at (Some text) tags = record { at = at; text = text } ∷ tags

-- the tags that begin in these bytes, which stand at a place after a byte
abbrev pub tags_from : ℕ → ℕ → List ℕ → List Tag
tags_from at before [] = []
tags_from at before (b ∷ bytes) = with_tag at (tag_after before (b ∷ bytes)) (tags_from (at + 1) b bytes)

-- the tags of a line in their order
abbrev pub tags_of : List ℕ → List Tag
tags_of line = tags_from 0 0 line
