-- Whether bytes may go on: to the text of some video, or, where a frame stands, to some frame of a format.
use Rattle.std.specs.Prelude.{ℕ, ◌≡◌, List, ◌++◌}
use Rattle.h263_types.specs.declared.format.Format.{Format}
use Rattle.y4m.specs.Spelled.{SpelledFrame, IsFrame, IsVideo}

-- the bytes begin the text of a video
abbrev pub BeginsVideo : List ℕ → Type 0
BeginsVideo bytes = (more : List ℕ) × (f : Format) × (planes : List (List ℕ)) × IsVideo (bytes ++ more) f planes

-- the bytes begin a frame
abbrev pub BeginsFrame : Format → List ℕ → Type 0
BeginsFrame f bytes = (more : List ℕ) × (frame : SpelledFrame) × IsFrame f frame
    × (bytes ++ more ≡ frame.line ++ frame.planes)
