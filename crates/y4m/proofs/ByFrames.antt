-- How the frames of a video and its first fault go on.
use Rattle.std.proofs.Common.{◌≡◌, ℕ, zero, suc, ◌+◌, ◌<◌, List, [], ◌∷◌, length, take, drop, Some, None, Result, Ok, Err, IsErr, refl, ap, ◌∙◌, arith, length-take}
use Rattle.std.proofs.lemmas.List.{drop-take}
use Rattle.h263_types.specs.declared.format.Format.{Format}
use Rattle.h263_types.specs.declared.format.Format.TheVariants.{SubQcif, Qcif, Cif}
use Rattle.h263_types.specs.Sizes.{size_of_picture}
use Rattle.y4m.specs.declared.fault.Y4mFault.{Y4mFault}
use Rattle.y4m.specs.Frame.{frame_of, frame_size, next_frame}
use Rattle.y4m.specs.Video.{after_frame, frame_then, frames_of, video_fault_from, first_video_fault}
use Rattle.y4m.specs.Laws.{IsFollowed}
use Rattle.y4m.proofs.Cuts.{frame_stays}

frames_step : (f : Format) (n m at : ℕ) (rest frame : List ℕ) → m + 1 ≡ n → 0 < length rest → next_frame n f at rest
    ≡ Ok frame → frames_of f n at rest ≡ frame ∷ frames_of f m (at + frame_size f rest) (after_frame f rest)
unfolding frames_of
frames_step f zero m at rest frame less some is = absurd (omega (arith, less))
frames_step f (suc n) m at [] frame less some is = absurd (omega arith)
frames_step f (suc n) m at (b ∷ rest) frame less some is =
    let same : n ≡ m = omega (arith, less) in
    ap (λ (r : Result (List ℕ) Y4mFault). frame_then r (frames_of f n (at + frame_size f (b ∷ rest))
    (after_frame f (b ∷ rest)))) is
    ∙ ap (λ (k : ℕ). frame ∷ frames_of f k (at + frame_size f (b ∷ rest)) (after_frame f (b ∷ rest))) same

fault_step : (f : Format) (n m at : ℕ) (rest frame : List ℕ) → m + 1 ≡ n → 0 < length rest → next_frame n f at rest
    ≡ Ok frame → first_video_fault f n at rest ≡ first_video_fault f m (at + frame_size f rest) (after_frame f rest)
unfolding first_video_fault
fault_step f zero m at rest frame less some is = absurd (omega (arith, less))
fault_step f (suc n) m at [] frame less some is = absurd (omega arith)
fault_step f (suc n) m at (b ∷ rest) frame less some is =
    let same : n ≡ m = omega (arith, less) in
    ap (λ (r : Result (List ℕ) Y4mFault). video_fault_from r (first_video_fault f n (at + frame_size f (b ∷ rest))
    (after_frame f (b ∷ rest)))) is
    ∙ ap (λ (k : ℕ). first_video_fault f k (at + frame_size f (b ∷ rest)) (after_frame f (b ∷ rest))) same

pub frames_stop : (f : Format) (n at : ℕ) (rest : List ℕ) (fault : Y4mFault) → next_frame n f at rest ≡ Err fault
    → frames_of f n at rest ≡ []
unfolding frames_of
frames_stop f zero at rest fault is = refl
frames_stop f (suc n) at [] fault is = refl
frames_stop f (suc n) at (b ∷ rest) fault is =
    ap (λ (r : Result (List ℕ) Y4mFault). frame_then r (frames_of f n (at + frame_size f (b ∷ rest))
    (after_frame f (b ∷ rest)))) is

pub fault_stop : (f : Format) (n at : ℕ) (rest : List ℕ) (fault : Y4mFault) → 0 < length rest → next_frame n f at rest
    ≡ Err fault → first_video_fault f n at rest ≡ Some fault
unfolding first_video_fault
fault_stop f n at [] fault some is = absurd (omega arith)
fault_stop f zero at (b ∷ rest) fault some is = full (b ∷ rest) is
  where
    full : (rest : List ℕ) → next_frame 0 f at rest ≡ Err fault → first_video_fault f 0 at (b ∷ rest) ≡ Some fault
    full rest is = cc
fault_stop f (suc n) at (b ∷ rest) fault some is =
    ap (λ (r : Result (List ℕ) Y4mFault). video_fault_from r (first_video_fault f n (at + frame_size f (b ∷ rest))
    (after_frame f (b ∷ rest)))) is

pub frames-nil : (f : Format) (n at : ℕ) → frames_of f n at [] ≡ []
unfolding frames_of
frames-nil f zero at = refl
frames-nil f (suc n) at = refl

pub fault-nil : (f : Format) (n at : ℕ) → first_video_fault f n at [] ≡ None
unfolding first_video_fault
fault-nil f zero at = refl
fault-nil f (suc n) at = refl

-- ---- where what follows is cut

some_size : (f : Format) → 0 < size_of_picture f
some_size SubQcif = omega arith
some_size Qcif = omega arith
some_size Cif = omega arith

-- a whole frame, and those of the k bytes after it
frames_cut : (f : Format) (n m at k : ℕ) (rest frame : List ℕ) → m + 1 ≡ n → 0 < length rest → next_frame n f at rest
    ≡ Ok frame
    → frames_of f n at (take (frame_size f rest + k) rest) ≡ frame ∷ frames_of f m (at + frame_size f rest)
    (take k (after_frame f rest))
frames_cut f zero m at k rest frame less some is = absurd (omega (arith, less))
frames_cut f (suc n) m at k rest frame less some is =
    let size = frame_size f rest in
    let cut = take (size + k) rest in
    let stays = frame_stays f at (size + k) rest frame is (omega arith) in
    frames_step f (suc n) m at cut frame less (omega (arith, some, some_size f, length-take (size + k) rest)) stays.0
    ∙ ap (λ (s : ℕ). frame ∷ frames_of f m (at + s) (drop s cut)) stays.1
    ∙ ap (λ (l : List ℕ). frame ∷ frames_of f m (at + size) l) (drop-take size k rest)

pub followed : (f : Format) (n m at : ℕ) (rest frame : List ℕ) → m + 1 ≡ n → 0 < length rest → next_frame n f at rest
    ≡ Ok frame → IsFollowed f n m at rest frame
followed f n m at rest frame less some is = record {
  frames = frames_step f n m at rest frame less some is;
  fault = fault_step f n m at rest frame less some is;
  cut = λ k. frames_cut f n m at k rest frame less some is;
}

none_from : (r : Result (List ℕ) Y4mFault) (more : List (List ℕ)) → IsErr r → frame_then r more ≡ []
none_from (Ok frame) more lost = absurd (cc lost)
none_from (Err fault) more lost = refl

-- there are no frames where the first isn't whole
pub frames_lost : (f : Format) (n at : ℕ) (rest : List ℕ) → IsErr (frame_of f at rest) → frames_of f n at rest ≡ []
unfolding frames_of
frames_lost f zero at rest lost = refl
frames_lost f (suc n) at [] lost = refl
frames_lost f (suc n) at (b ∷ rest) lost = none_from (frame_of f at (b ∷ rest))
    (frames_of f n (at + frame_size f (b ∷ rest)) (after_frame f (b ∷ rest))) lost
