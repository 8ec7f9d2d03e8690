-- What a call over its plain trace comes to: each frame's picture is coded by itself, and shown as
-- it was coded.
use Rattle.std.specs.Prelude.{◌≡◌, ℕ, ◌+◌, List, [], ◌∷◌, ◌++◌, length, Option, Some, None}
use Rattle.std.specs.List.{flat_map}
use Rattle.h263_types.specs.declared.Mark.TheVariants.{Exact}
use Rattle.h263_types.specs.declared.format.Format.{Format}
use Rattle.h263_types.specs.declared.params.Params.{Params}
use Rattle.h263_planes.specs.Layout.{picture_of}
use Rattle.h263_planes.specs.Picture.{Picture}
use Rattle.h263_outside.specs.declared.desk.Role.TheVariants.{Pictures, Report}
use Rattle.y4m.specs.Text.{head_text, frame_text}
use Rattle.y4m.specs.declared.fault.Y4mFault.{Y4mFault}
use Rattle.call_report.specs.declared.status.Status.{Status}
use Rattle.call_report.specs.declared.status.Status.TheVariants.{Ok as Fine, VideoRefused}
use Rattle.h263_types.specs.Texts.{Text}
use Rattle.call_report.specs.Text.{picture_text}
use Rattle.call_model.specs.CodedPictures.{capture}
use Rattle.call_decoding.specs.Samples.{pictures}
use Rattle.call_encoding.specs.Encoding.{encoding}
use Rattle.desk_program.specs.Run.{Run, text_of}
use Rattle.one_way.specs.Both.{bare}
use Rattle.call_command.specs.Counts.{counts_text}

-- the reconstruction of a frame in these planes, coded by itself
abbrev pub coded_alone : Params → List ℕ → Picture
coded_alone p planes =
    (capture (pictures p.format) (encoding p) p.quant (bare (picture_of p.format planes)) [] None).picture

-- what is shown of frames
abbrev pub pictures_of_frames : Params → List (List ℕ) → Text
pictures_of_frames p frames = flat_map (λ planes. frame_text Exact (coded_alone p planes)) frames

-- the lines of this many pictures from number n on
abbrev pub lines_of_frames : ℕ → List (List ℕ) → Text
lines_of_frames n [] = []
lines_of_frames n (planes ∷ frames) =
    picture_text n (Some Exact) (Some None) None ++ lines_of_frames (n + 1) frames

-- how a call ends that meets this fault of its video, or none
abbrev pub status_for : Option Y4mFault → Status
status_for None = Fine
status_for (Some fault) = VideoRefused fault

-- its counts, which it tells where it met none
abbrev pub counts_for : Option Y4mFault → ℕ → Text
counts_for None n = counts_text n n n 0 0
counts_for (Some fault) n = []

-- the run shows each frame's reconstruction, exactly, in order, up to the fault of its video, if it
-- has one
pub record ShowsEachFrame (p : Params) (f : Format) (frames : List (List ℕ))
    (fault : Option Y4mFault) (run : Run) : Type 0 where
  pub status : run.last.status ≡ status_for fault
  pub pictures : text_of run Pictures ≡ head_text f ++ pictures_of_frames (record p { format = f }) frames
  pub report : text_of run Report ≡ lines_of_frames 0 frames ++ counts_for fault (length frames)
