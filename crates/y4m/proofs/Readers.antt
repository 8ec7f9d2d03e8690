-- How a stop is handed out.
use Rattle.std.proofs.Common.{◌≡◌, ℕ, ◌+◌, ◌<◌, List, length, take, drop, Option, Some, None, Bool, Result, Err, IsErr, IsErrAnd, sym, subst, ap, ◌∙◌}
use Rattle.std.proofs.lemmas.List.{drop-drop}
use Rattle.h263_types.specs.Sizes.{size_of_picture}
use Rattle.y4m.specs.declared.fault.Y4mFault.{Y4mFault}
use Rattle.y4m.specs.declared.fault.Y4mFault.TheVariants.{ShortFrame}
use Rattle.y4m.specs.declared.fault.VideoStop.{VideoStop}
use Rattle.y4m.specs.declared.fault.VideoStop.TheVariants.{Read, Refused}
use Rattle.y4m.specs.Place.{Y4mPlace}
use Rattle.y4m.specs.Head.{head_of}
use Rattle.y4m.specs.Frame.{frame_line, line_stop, frame_of, next_frame}
use Rattle.y4m.specs.Planes.{PlanesGive, IsVideoCut}
use Rattle.y4m.specs.Reader.{HeadGives, FrameGives}
use Rattle.y4m.proofs.Cuts.{head_cut, frame_cut, planes_cut}
use Rattle.y4m.proofs.Results.{err_is}

-- a read failed within a line
pub head_stopped : (video : List ℕ) (left : Option (List ℕ)) (r : Result Y4mPlace VideoStop) (stop : VideoStop)
    → IsErrAnd r (λ x. x ≡ stop) → stop ≡ Read → IsVideoCut 10 video left → HeadGives r video left
head_stopped video left r stop is read cut =
    subst (λ (r : Result Y4mPlace VideoStop). HeadGives r video left) (sym (err_is r stop is
    ∙ ap (λ (s : VideoStop). Err s) read)) (cut.taken, cut.gone, head_cut cut.taken video cut.free)

pub frame_stopped : (old new : Y4mPlace) (rest out : List ℕ) (left : Option (List ℕ)) (r : Result Bool VideoStop)
    (stop : VideoStop) → IsErrAnd r (λ x. x ≡ stop) → stop ≡ Read → IsVideoCut 6 rest left
    → FrameGives r old rest out new left
frame_stopped old new rest out left r stop is read cut =
    subst (λ (r : Result Bool VideoStop). FrameGives r old rest out new left) (sym (err_is r stop is
    ∙ ap (λ (s : VideoStop). Err s) read))
    (cut.taken, cut.gone, frame_cut old.format old.at cut.taken rest cut.free)

-- the video has a fault
pub head_refused : (video : List ℕ) (left : Option (List ℕ)) (r : Result Y4mPlace VideoStop) (fault : Y4mFault)
    → IsErrAnd r (λ x. x ≡ Refused fault) → head_of video ≡ Err fault → HeadGives r video left
head_refused video left r fault is found = subst (λ (r : Result Y4mPlace VideoStop). HeadGives r video left)
    (sym (err_is r (Refused fault) is)) found

pub frame_refused : (old new : Y4mPlace) (rest out : List ℕ) (left : Option (List ℕ)) (r : Result Bool VideoStop)
    (fault : Y4mFault) → IsErrAnd r (λ x. x ≡ Refused fault) → 0 < length rest
    → next_frame old.more old.format old.at rest ≡ Err fault → FrameGives r old rest out new left
frame_refused old new rest out left r fault is some found =
    subst (λ (r : Result Bool VideoStop). FrameGives r old rest out new left) (sym (err_is r (Refused fault) is)) (
      some,
      found,
    )

-- the planes were short, which is what the frame says, or a read failed within them; n bytes of the rest are the line
module _ (old new : Y4mPlace) (rest out : List ℕ) (n at : ℕ) (left : Option (List ℕ)) (some : 0 < length rest)
    (size : length out ≡ size_of_picture old.format) (line : n ≡ length (frame_line rest))
    (whole : line_stop (frame_line rest) ≡ None) (short : length (drop n rest) < length out
    → next_frame old.more old.format old.at rest ≡ Err (ShortFrame (at + length (drop n rest)))) where
  stop_gives : (stop : VideoStop) → PlanesGive (Err stop) at (drop n rest) out left
      → FrameGives (Err stop) old rest out new left
  stop_gives Read gives =
      let below : gives.0 < size_of_picture old.format = subst (λ (m : ℕ). gives.0 < m) size gives.1 in (
        n + gives.0,
        gives.2 ∙ ap (λ (l : List ℕ). Some l) (drop-drop gives.0 n rest),
        subst (λ (m : ℕ). IsErr (frame_of old.format old.at (take (m + gives.0) rest))) (sym line)
            (planes_cut old.format old.at gives.0 rest whole below),
      )
  stop_gives (Refused fault) gives = (some, short gives.0 ∙ ap (λ (f : Y4mFault). Err f) (sym gives.1))

  pub stopped : (r : Result Bool VideoStop) (stop : VideoStop) → IsErrAnd r (λ x. x ≡ stop)
      → PlanesGive (Err stop) at (drop n rest) out left → FrameGives r old rest out new left
  stopped r stop is gives = subst (λ (r : Result Bool VideoStop). FrameGives r old rest out new left)
      (sym (err_is r stop is)) (stop_gives stop gives)
