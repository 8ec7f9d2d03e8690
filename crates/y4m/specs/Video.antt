-- A whole video: its head and its frames.
use Rattle.std.specs.Prelude.{ℕ, zero, suc, ◌+◌, List, [], ◌∷◌, drop, Option, Some, None, Result, Ok, Err}
use Rattle.h263_types.specs.declared.format.Format.{Format}
use Rattle.y4m.specs.declared.fault.Y4mFault.{Y4mFault}
use Rattle.y4m.specs.declared.fault.Y4mFault.TheVariants.{TooMany}
use Rattle.y4m.specs.Head.{head_of, head_size}
use Rattle.y4m.specs.Frame.{frame_of, frame_size}

-- the most frames of a video
abbrev pub most_frames : ℕ
most_frames = 1048576

-- the bytes after the frame that stands first
abbrev pub after_frame : Format → List ℕ → List ℕ
after_frame f rest = drop (frame_size f rest) rest

-- a frame, and those after it
abbrev pub frame_then : Result (List ℕ) Y4mFault → List (List ℕ) → List (List ℕ)
frame_then (Ok frame) more = frame ∷ more
frame_then (Err fault) more = []

abbrev pub video_fault_from : Result (List ℕ) Y4mFault → Option Y4mFault → Option Y4mFault
video_fault_from (Ok frame) more = more
video_fault_from (Err fault) more = Some fault

-- the frames of the rest, where this many may still come, up to the first fault
unfoldable pub frames_of : Format → ℕ → ℕ → List ℕ → List (List ℕ)
frames_of f zero at rest = []
frames_of f (suc n) at [] = []
frames_of f (suc n) at (b ∷ rest) =
    frame_then (frame_of f at (b ∷ rest))
    (frames_of f n (at + frame_size f (b ∷ rest)) (drop (frame_size f (b ∷ rest)) (b ∷ rest)))

-- the first fault of the rest
unfoldable pub first_video_fault : Format → ℕ → ℕ → List ℕ → Option Y4mFault
first_video_fault f n at [] = None
first_video_fault f zero at (b ∷ rest) = Some (TooMany at)
first_video_fault f (suc n) at (b ∷ rest) =
    video_fault_from (frame_of f at (b ∷ rest))
    (first_video_fault f n (at + frame_size f (b ∷ rest)) (drop (frame_size f (b ∷ rest)) (b ∷ rest)))

-- after a head
abbrev pub fault_after_head : Result Format Y4mFault → ℕ → List ℕ → Option Y4mFault
fault_after_head (Err fault) at body = Some fault
fault_after_head (Ok f) at body = first_video_fault f most_frames at body

abbrev pub frames_after_head : Result Format Y4mFault → ℕ → List ℕ → List (List ℕ)
frames_after_head (Err fault) at body = []
frames_after_head (Ok f) at body = frames_of f most_frames at body

-- the first fault of a video, and its frames up to there
unfoldable pub video_fault : List ℕ → Option Y4mFault
video_fault video = fault_after_head (head_of video) (head_size video) (drop (head_size video) video)

unfoldable pub video_frames : List ℕ → List (List ℕ)
video_frames video = frames_after_head (head_of video) (head_size video) (drop (head_size video) video)
