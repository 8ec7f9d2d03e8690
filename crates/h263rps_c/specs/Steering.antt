-- A sender that is steered while it runs: what is done to it, and what it stands for.
use Rattle.std.specs.Prelude.{◌≡◌, ℕ, ◌≤◌, List, [], ◌∷◌, ◌++◌, length, map, Option, Some, None, Bool, true, false}
use Rattle.h263_types.specs.declared.blocks.Mb.{Mb}
use Rattle.h263_types.specs.declared.params.Params.{Params}
use Rattle.h263_planes.specs.Picture.{Picture}
use Rattle.call_model.specs.CodedPictures.{Coded}
use Rattle.call_model.specs.Sending as call
use Rattle.call_model.specs.Sending.{SenderEntry, last_sizes}
use Rattle.call_model.specs.Steering.{after_forget, nothing_done}
use Rattle.call_decoding.specs.Rules.{rules_of}
use Rattle.call_decoding.specs.Styles.{Style}
use Rattle.call_encoding.specs.Encoding.{encoding}
use Rattle.call_encoding.specs.Frames.{Frame}
use Rattle.sender_end.specs.Stands.{Holds, SentRun, entries_run}
use Rattle.rate_control.specs.Pace.{quant_after_sizes}
use Rattle.picture_pace.specs.declared.fit.FitPace.{FitPace}
use Rattle.picture_pace.specs.Fitting.{fitting_quant}
use Rattle.fitted_sender.specs.declared.aim.Aim.{Aim}
use Rattle.fitted_sender.specs.Aiming.{Sent, sent_after_heard, after_sent, first_aim, fixed, next_kind, next_sent, refitted}
use Rattle.h263rps_c.specs.Sending.{AimedSender}
use Rattle.h263rps_c.specs.Pace.{target_pace, target_if_any}

-- what is done to it: a frame is coded, the bytes of a message come back, it follows another target
-- or none, it is told its quantiser, or it forgets the pictures before
pub data Steering : Type 0 where
  Capture : Frame → Steering
  Feedback : List ℕ → Steering
  Target : Option ℕ → Steering
  Quant : ℕ → Steering
  Forget : Steering

-- a target is fitted, or followed by the sizes of the last 16 pictures
abbrev pub first_in : Params → Bool → Option ℕ → Aim
first_in p true target = first_aim p None target
first_in p false target = first_aim p target None

-- the same from the next picture on; a pace that fits keeps what it was told
abbrev pub aimed_anew : Params → Bool → Option ℕ → Aim → Aim
aimed_anew p true target a = refitted p target a
aimed_anew p false target a = first_aim p target None

-- what it has done, and what its next quantiser follows, the newest first
abbrev pub steered_sent : Params → Bool → Option ℕ → List Steering → Sent
steered_sent p fits first [] = record { run = nothing_done; aim = first_in p fits first }
steered_sent p fits first (Capture frame ∷ past) = after_sent p frame (steered_sent p fits first past)
steered_sent p fits first (Feedback bytes ∷ past) = sent_after_heard p bytes (steered_sent p fits first past)
steered_sent p fits first (Target target ∷ past) =
    let s = steered_sent p fits first past in record { run = s.run; aim = aimed_anew p fits target s.aim }
steered_sent p fits first (Quant quant ∷ past) =
    record { run = (steered_sent p fits first past).run; aim = fixed quant }
steered_sent p fits first (Forget ∷ past) =
    let s = steered_sent p fits first past in record { run = after_forget s.run; aim = s.aim }

abbrev pub steered_run : Params → Bool → Option ℕ → List Steering → SentRun
steered_run p fits first past = (steered_sent p fits first past).run

-- its next picture, of this frame
abbrev pub steered_next : Params → Bool → Option ℕ → Frame → List Steering → Coded Style Mb Picture
steered_next p fits first frame past = next_sent p frame (steered_sent p fits first past)

-- a sender with these parameters and this first target, after all this, the newest first
pub record Steers (p : Params) (fits : Bool) (first : ℕ) (past : List Steering) (s : AimedSender) : Type 0 where
  pub params : s.sender.params ≡ p
  pub fits_as : s.fits ≡ fits
  pub follows : s.aim ≡ (steered_sent p fits (target_if_any first) past).aim
  pub holds : Holds s.sender (steered_run p fits (target_if_any first) past)

-- ---- what its pictures are

-- the target in force after this, of a sender that began with the first one; the newest first
abbrev pub target_after : Option ℕ → List Steering → Option ℕ
target_after first [] = first
target_after first (Target target ∷ past) = target
target_after first (Quant quant ∷ past) = None
target_after first (Capture frame ∷ past) = target_after first past
target_after first (Feedback bytes ∷ past) = target_after first past
target_after first (Forget ∷ past) = target_after first past

-- the first quantiser in force: that of the parameters, or the one that it was told
abbrev pub first_after : ℕ → List Steering → ℕ
first_after quant [] = quant
first_after quant (Target target ∷ past) = quant
first_after quant (Quant told ∷ past) = told
first_after quant (Capture frame ∷ past) = first_after quant past
first_after quant (Feedback bytes ∷ past) = first_after quant past
first_after quant (Forget ∷ past) = first_after quant past

-- Where targets aren't fitted the quantiser follows the one in force, by the bytes of the last 16
-- pictures. Without one it is the parameters', or the one that it was told last.
abbrev pub QuantiserIs : Type 0
QuantiserIs = (p : Params) (first : Option ℕ) (frame : Frame) (past : List Steering) →
    (steered_next p false first frame past).style.quant
    ≡ quant_after_sizes (target_after first past) (first_after p.quant past)
    (last_sizes (encoding p) (rules_of p) (steered_run p false first past).run.coded)

-- Where one is fitted it is that of the pace for a picture of its kind.
abbrev pub QuantiserFits : Type 0
QuantiserFits = (p : Params) (first : Option ℕ) (frame : Frame) (past : List Steering) (pace : FitPace) →
    (steered_sent p true first past).aim.fit ≡ Some pace
    → (steered_next p true first frame past).style.quant
    ≡ fitting_quant (next_kind p (steered_run p true first past)) pace

-- the picture after a forget is coded intra
abbrev pub SteeredForgetIsIntra : Type 0
SteeredForgetIsIntra = (p : Params) (fits : Bool) (first : Option ℕ) (frame : Frame) (past : List Steering) →
    (steered_next p fits first frame (Forget ∷ past)).reference ≡ None

-- no picture that was coded before it is a reference any more, whatever comes after
abbrev pub ForgetIsForGood : Type 0
ForgetIsForGood = (p : Params) (fits : Bool) (first : Option ℕ) (frame : Frame) (later past : List Steering) (m : ℕ) →
    (steered_next p fits first frame (later ++ Forget ∷ past)).reference ≡ Some m
    → length (steered_run p fits first past).run.coded ≤ m

-- ---- where it isn't steered

abbrev pub plain : SenderEntry Frame → Steering
plain (call.Capture frame) = Capture frame
plain (call.Feedback bytes) = Feedback bytes

-- Its run is that of the entries, with one target for all. Where targets are fitted this holds without one.
abbrev pub PlainIsRun : Type 0
PlainIsRun = (p : Params) (fits : Bool) (first : ℕ) (entries : List (SenderEntry Frame)) →
    (fits ≡ true → first ≡ 0)
    → steered_run p fits (target_if_any first) (map plain entries)
    ≡ record { run = entries_run p (target_pace first p) entries; since = 0 }
