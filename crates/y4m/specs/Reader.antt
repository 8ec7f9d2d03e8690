-- What the reader of a video says, call by call.
use Rattle.std.specs.Prelude.{ℕ, ◌≡◌, ◌+◌, ◌<◌, Bool, true, false, List, [], length, take, drop, Option, Some, Result, Ok, Err, IsErr}
use Rattle.y4m.specs.declared.fault.VideoStop.{VideoStop}
use Rattle.y4m.specs.declared.fault.VideoStop.TheVariants.{Read, Refused}
use Rattle.y4m.specs.Place.{Y4mPlace}
use Rattle.y4m.specs.Head.{head_of, head_size}
use Rattle.y4m.specs.Frame.{frame_of, next_frame, frame_size}

-- what the reader of the head says of a video, and of what is left of it; where a read failed, no
-- whole head is in what was taken
abbrev pub HeadGives : Result Y4mPlace VideoStop → List ℕ → Option (List ℕ) → Type 0
HeadGives (Ok reader) video left = (head_of video ≡ Ok reader.format)
    × (reader.at ≡ head_size video) × (left ≡ Some (drop (head_size video) video))
HeadGives (Err (Refused fault)) video left = head_of video ≡ Err fault
HeadGives (Err Read) video left = (k : ℕ) × (left ≡ Some (drop k video)) × IsErr (head_of (take k video))

-- what a reader says of what stands where it is, with the planes in the buffer, of where it is
-- then, and of what is left; where a read failed, no whole frame is in what was taken
abbrev pub FrameGives : Result Bool VideoStop → Y4mPlace → List ℕ → List ℕ → Y4mPlace → Option (List ℕ) → Type 0
FrameGives (Ok true) old rest out new left =
    (0 < length rest) × (next_frame old.more old.format old.at rest ≡ Ok out)
    × (new.at ≡ old.at + frame_size old.format rest)
    × (left ≡ Some (drop (frame_size old.format rest) rest))
FrameGives (Ok false) old rest out new left = (rest ≡ []) × (left ≡ Some [])
FrameGives (Err (Refused fault)) old rest out new left =
    (0 < length rest) × (next_frame old.more old.format old.at rest ≡ Err fault)
FrameGives (Err Read) old rest out new left =
    (k : ℕ) × (left ≡ Some (drop k rest)) × IsErr (frame_of old.format old.at (take k rest))

-- how a call moves the reader: one frame less may come after a frame, and nothing changes without one
abbrev pub MovesVideo : Result Bool VideoStop → Y4mPlace → Y4mPlace → Type 0
MovesVideo (Ok true) old new = (new.format ≡ old.format) × (new.more + 1 ≡ old.more)
MovesVideo (Ok false) old new = new ≡ old
MovesVideo (Err stop) old new = new ≡ old
