-- The head of a video: the word `YUV4MPEG2` and tags, of which W, H, I and C are looked at.
use Rattle.std.specs.Prelude.{ℕ, ◌-◌, ◌==◌, ◌&&◌, ◌||◌, nat_lt, slice_index, Bool, List, [], ◌∷◌, length, codes, Option, Some, None, is_some, Result, Ok, Err, if◌then◌else◌}
use Rattle.std.specs.Str.{bytes_eq}
use Rattle.h263_types.specs.declared.format.Format.{Format}
use Rattle.h263_types.specs.declared.format.Format.TheVariants.{SubQcif, Qcif, Cif}
use Rattle.y4m.specs.declared.fault.Y4mFault.{Y4mFault}
use Rattle.y4m.specs.declared.fault.Y4mFault.TheVariants.{NotY4m, Size, Interlaced, Colour}
use Rattle.y4m.specs.Line.{Tag, agreement, line_within, is_line_whole, tags_of}

-- the width and the height that a tag gives
abbrev pub width_tagged : List ℕ → Option ℕ
width_tagged tag = if bytes_eq tag (codes "W128") then Some 128 else if bytes_eq tag (codes "W176")
    then Some 176 else if bytes_eq tag (codes "W352") then Some 352 else None

abbrev pub height_tagged : List ℕ → Option ℕ
height_tagged tag = if bytes_eq tag (codes "H96") then Some 96 else if bytes_eq tag (codes "H144")
    then Some 144 else if bytes_eq tag (codes "H288") then Some 288 else None

-- progressive, or not known
abbrev pub is_progressive : List ℕ → Bool
is_progressive tag = bytes_eq tag (codes "Ip") || bytes_eq tag (codes "I?")

-- 4:2:0 of 8 bits; where the colours' samples lie between those of luma is passed over
abbrev pub is_quarter : List ℕ → Bool
is_quarter tag = bytes_eq tag (codes "C420") || bytes_eq tag (codes "C420jpeg")
    || bytes_eq tag (codes "C420mpeg2") || bytes_eq tag (codes "C420paldv")

-- the fault of a tag, at its letter: the tags of W, H, I and C are of the forms above
abbrev pub tag_fault : Tag → Option Y4mFault
tag_fault tag =
    if slice_index tag.text 0 == 87 then (if is_some (width_tagged tag.text) then None else Some (Size tag.at))
    else if slice_index tag.text 0 == 72 then (if is_some (height_tagged tag.text) then None else Some (Size tag.at))
    else if slice_index tag.text 0 == 73 then (if is_progressive tag.text then None else Some (Interlaced tag.at))
    else if slice_index tag.text 0 == 67 then (if is_quarter tag.text then None else Some (Colour tag.at))
    else None

-- the first, or else the second
abbrev pub or_else : {A : Type 0} → Option A → Option A → Option A
or_else None other = other
or_else (Some x) other = Some x

-- the fault of the first tag that has one
abbrev pub tags_fault : List Tag → Option Y4mFault
tags_fault [] = None
tags_fault (tag ∷ tags) = or_else (tag_fault tag) (tags_fault tags)

-- what the last tag gives that gives something
abbrev pub last_in : (List ℕ → Option ℕ) → List Tag → Option ℕ
last_in gives [] = None
last_in gives (tag ∷ tags) = or_else (last_in gives tags) (gives tag.text)

-- the format of a width and a height
abbrev pub format_with : Option ℕ → Option ℕ → Option Format
format_with (Some w) (Some h) =
    if w == 128 && h == 96 then Some SubQcif else if w == 176 && h == 144 then Some Qcif
    else if w == 352 && h == 288 then Some Cif else None
format_with None h = None
format_with (Some w) None = None

-- the format by the last W and the last H
abbrev pub format_in : List Tag → Option Format
format_in tags = format_with (last_in width_tagged tags) (last_in height_tagged tags)

-- a format, or a fault of its size at a place
abbrev pub format_sized : Option Format → ℕ → Result Format Y4mFault
format_sized (Some format) at = Ok format
format_sized None at = Err (Size at)

abbrev pub format_unless : Option Y4mFault → Result Format Y4mFault → Result Format Y4mFault
format_unless None more = more
format_unless (Some fault) more = Err fault

-- the format that a head's line gives, or its first fault: the word, then the tags in their order, then the newline
unfoldable pub format_of_line : List ℕ → Result Format Y4mFault
format_of_line line =
    if nat_lt (agreement (codes "YUV4MPEG2") line) 10 then Err (NotY4m (agreement (codes "YUV4MPEG2") line))
    else format_unless (tags_fault (tags_of line)) (if is_line_whole line
    then format_sized (format_in (tags_of line)) (length line - 1) else Err (NotY4m (length line)))

-- the head's line: no byte after the first 256 is looked at
abbrev pub head_line : List ℕ → List ℕ
head_line video = line_within 256 video

abbrev pub head_size : List ℕ → ℕ
head_size video = length (head_line video)

-- the format of a video, or the first fault of its head
abbrev pub head_of : List ℕ → Result Format Y4mFault
head_of video = format_of_line (head_line video)
