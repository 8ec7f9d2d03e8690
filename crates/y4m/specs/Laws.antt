-- How the frames of a video and its first fault go on, frame by frame.
use Rattle.std.specs.Prelude.{◌≡◌, ℕ, ◌+◌, ◌<◌, List, [], ◌∷◌, length, take, Some, None, Ok, Err, IsErr}
use Rattle.h263_types.specs.declared.format.Format.{Format}
use Rattle.y4m.specs.declared.fault.Y4mFault.{Y4mFault}
use Rattle.y4m.specs.Frame.{frame_of, frame_size, next_frame}
use Rattle.y4m.specs.Video.{after_frame, frames_of, first_video_fault}

-- a frame that stands first is followed by those after it, of which one less may come
pub record IsFollowed (f : Format) (n m at : ℕ) (rest frame : List ℕ) : Type 0 where
  pub frames : frames_of f n at rest ≡ frame ∷ frames_of f m (at + frame_size f rest) (after_frame f rest)
  pub fault : first_video_fault f n at rest ≡ first_video_fault f m (at + frame_size f rest) (after_frame f rest)
  -- also where only k bytes after it are looked at
  pub cut : (k : ℕ) → frames_of f n at (take (frame_size f rest + k) rest)
      ≡ frame ∷ frames_of f m (at + frame_size f rest) (take k (after_frame f rest))

pub record FrameLaws : Type 0 where
  pub next : (f : Format) (n m at : ℕ) (rest frame : List ℕ)
      → m + 1 ≡ n → 0 < length rest → next_frame n f at rest ≡ Ok frame
      → IsFollowed f n m at rest frame
  -- at its end a video has no frame more, and no fault
  pub ends : (f : Format) (n at : ℕ) → (frames_of f n at [] ≡ []) × (first_video_fault f n at [] ≡ None)
  -- a fault ends the frames
  pub stops : (f : Format) (n at : ℕ) (rest : List ℕ) (fault : Y4mFault)
      → 0 < length rest → next_frame n f at rest ≡ Err fault
      → (frames_of f n at rest ≡ []) × (first_video_fault f n at rest ≡ Some fault)
  -- where the first frame isn't whole there is none
  pub lost : (f : Format) (n at : ℕ) (rest : List ℕ) → IsErr (frame_of f at rest) → frames_of f n at rest ≡ []
