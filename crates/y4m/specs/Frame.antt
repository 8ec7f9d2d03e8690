-- A frame: a line of the word `FRAME` and tags, which are passed over, and the bytes of its planes.
use Rattle.std.specs.Prelude.{ℕ, zero, suc, ◌+◌, ◌==◌, nat_lt, min, List, length, take, drop, codes, Option, Some, None, Result, Ok, Err, if◌then◌else◌}
use Rattle.h263_types.specs.declared.format.Format.{Format}
use Rattle.h263_types.specs.Sizes.{size_of_picture}
use Rattle.y4m.specs.declared.fault.Y4mFault.{Y4mFault}
use Rattle.y4m.specs.declared.fault.Y4mFault.TheVariants.{NotY4m, ShortFrame, TooMany}
use Rattle.y4m.specs.Line.{agreement, line_within, is_line_whole}

-- the frame's line; where it isn't whole, byte 256 is the last that is looked at
abbrev pub frame_line : List ℕ → List ℕ
frame_line rest = line_within 257 rest

abbrev pub frame_size : Format → List ℕ → ℕ
frame_size f rest = length (frame_line rest) + size_of_picture f

-- where a frame's line can't go on, if it isn't whole: after what it has in common with the word
-- and a gap; else at byte 256 or where it ends
abbrev pub line_stop : List ℕ → Option ℕ
line_stop line =
    if nat_lt (agreement (codes "FRAME") line) 6 then Some (agreement (codes "FRAME") line)
    else if is_line_whole line then None else Some (min (length line) 256)

-- the fault of a line that can't go on: a short frame where the input ends
abbrev pub stop_fault : ℕ → ℕ → ℕ → Y4mFault
stop_fault at size stop = if stop == size then ShortFrame (at + stop) else NotY4m (at + stop)

-- the planes after a line of this many bytes
abbrev pub planes_of : Format → ℕ → ℕ → List ℕ → Result (List ℕ) Y4mFault
planes_of f at line rest =
    if nat_lt (length rest) (line + size_of_picture f) then Err (ShortFrame (at + length rest))
    else Ok (take (size_of_picture f) (drop line rest))

abbrev pub frame_after_line : Option ℕ → Format → ℕ → ℕ → List ℕ → Result (List ℕ) Y4mFault
frame_after_line (Some stop) f at line rest = Err (stop_fault at line stop)
frame_after_line None f at line rest = planes_of f at line rest

-- the planes of the frame at a place, or its fault; rest is what stands there, and isn't empty
unfoldable pub frame_of : Format → ℕ → List ℕ → Result (List ℕ) Y4mFault
frame_of f at rest = frame_after_line (line_stop (frame_line rest)) f at (length (frame_line rest)) rest

-- the same where this many frames may still come
abbrev pub next_frame : ℕ → Format → ℕ → List ℕ → Result (List ℕ) Y4mFault
next_frame zero f at rest = Err (TooMany at)
next_frame (suc n) f at rest = frame_of f at rest
