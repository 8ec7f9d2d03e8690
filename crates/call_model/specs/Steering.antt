-- A sender that is steered: its pace may be another one at each picture, and it may be told to
-- forget, so that no earlier picture is a reference any more.
use Rattle.std.specs.Prelude.{◌≡◌, ℕ, ◌+◌, ◌%◌, ◌<◌, ◌≤◌, Bool, true, false, ◌&&◌, nat_le, List, [], ◌∷◌, ◌++◌, length, filter, slice_get, Option, Some, None, is_some, option_and_then, if◌then◌else◌}
use Rattle.std.specs.Option.{option_map, option_map_or}
use Rattle.std.specs.Result.{result_ok}
use Rattle.call_model.specs.Coding.{Rules, Pictures, Encoding, Coding, pictures_of, decoded_picture}
use Rattle.call_model.specs.CodedPictures.{Coded, depth_at, is_among, reference_for, capture}
use Rattle.call_model.specs.IdealCall.{Event, Call, Source, AllMayHappenFrom}
use Rattle.call_model.specs.Sending.{SenderEntry, SenderRun, packets_at, known_by_feedback, feedback_answer, next_coded, after_feedback, sender_run}
use Rattle.call_model.specs.SenderStanding.{IsAfterCapture, IsAfterFeedback, is_noted, next_by_kept, reference_by_kept}
use Rattle.call_model.specs.Sound.{AllSound, FollowsTheCall}
use Rattle.call_model.specs.Stands.{Sender, SenderKeeps, SenderStands}

-- the known numbers from the floor on
abbrev pub known_from : ℕ → List ℕ → List ℕ
known_from floor known = filter (nat_le floor) known

-- a reference below the floor counts as none
abbrev pub from_floor : ℕ → Option ℕ → Option ℕ
from_floor floor reference = option_and_then (λ m. if nat_le floor m then Some m else None) reference

-- choosing among the known numbers from the floor on is choosing among all, where what lies below
-- the floor counts as none
abbrev pub FloorIsKnown : Type 0
FloorIsKnown = (rules : Rules) (depth : ℕ → ℕ) (known : ℕ → Bool) (floor n : ℕ) →
    reference_for rules depth (λ m. known m && nat_le floor m) n
    ≡ from_floor floor (reference_for rules depth known n)

-- where a sender never forgot, all that it knows counts
abbrev pub NoFloor : Type 0
NoFloor = (known : List ℕ) → known_from 0 known ≡ known

-- What a steered sender has done, and the number of the first picture that may be a reference: how
-- many were coded when it last forgot.
pub record SteeredRun (Style Mb Picture : Type 0) : Type 0 where
  pub run : SenderRun Style Mb Picture
  pub since : ℕ

-- a run with one more picture
abbrev pub run_with_picture : {Style Mb Picture : Type 0} → Coded Style Mb Picture
    → SenderRun Style Mb Picture → SenderRun Style Mb Picture
run_with_picture x run = record run { coded = run.coded ++ x ∷ [] }

-- the numbers that it knows were sent
abbrev pub KnowsSent : {Style Mb Picture : Type 0} → SenderRun Style Mb Picture → Type 0
KnowsSent run = (m : ℕ) → is_among run.known m ≡ true → m < length run.coded

module _ {Style Mb Picture : Type 0} where
  -- nothing was done
  abbrev pub nothing_done : SteeredRun Style Mb Picture
  nothing_done = record { run = record { coded = []; known = [] }; since = 0 }

  -- a quantiser from 1 to 31, whatever the call
  abbrev pub AreQuants : (Call Style Mb Picture → ℕ) → Type 0
  AreQuants quant = (c : Call Style Mb Picture) → (0 < quant c) × (quant c < 32)

  -- the sender forgets: no picture before the next one is a reference any more, also where it is
  -- acknowledged later
  abbrev pub after_forget : SteeredRun Style Mb Picture → SteeredRun Style Mb Picture
  after_forget r = record r { since = length r.run.coded }

module _ {Frame Style Mb Picture MessageFault : Type 0} (pictures : Pictures Style Mb Picture)
    (encoding : Encoding Frame Style Mb Picture MessageFault) (rules : Rules) where
  -- the next picture of this frame, with this pace
  abbrev pub next_steered : (List ℕ → ℕ) → Frame → SteeredRun Style Mb Picture → Coded Style Mb Picture
  next_steered pace frame r =
      next_coded pictures encoding rules pace frame r.run.coded (known_from r.since r.run.known)

  -- it is coded
  abbrev pub steered_capture : (List ℕ → ℕ) → Frame → SteeredRun Style Mb Picture
      → SteeredRun Style Mb Picture
  steered_capture pace frame r = record r { run = run_with_picture (next_steered pace frame r) r.run }

  -- the bytes of a message come back
  abbrev pub steered_feedback : List ℕ → SteeredRun Style Mb Picture → SteeredRun Style Mb Picture
  steered_feedback bytes r = record r { run = after_feedback encoding rules bytes r.run }

  -- no picture refers to one that was forgotten
  abbrev pub NeverBelow : Type 0
  NeverBelow = (pace : List ℕ → ℕ) (frame : Frame) (r : SteeredRun Style Mb Picture) (m : ℕ) →
      (next_steered pace frame r).reference ≡ Some m → r.since ≤ m

  -- the picture after a forget is coded intra
  abbrev pub ForgetIsIntra : Type 0
  ForgetIsIntra = (pace : List ℕ → ℕ) (frame : Frame) (r : SteeredRun Style Mb Picture) →
      (next_steered pace frame (after_forget r)).reference ≡ None

  -- ---- what a sender keeps of its run

  -- the sender keeps what is needed of its run, in which no known number is ahead
  pub record SenderHolds (s : Sender Picture) (run : SenderRun Style Mb Picture) : Type 0 where
    pub keeps : SenderKeeps pictures encoding rules s run
    pub known : KnowsSent run

  -- a picture of this frame, quantiser and reference, by what the sender keeps
  unfoldable pub made_by_kept : ℕ → Frame → Sender Picture → Option ℕ → Coded Style Mb Picture
  made_by_kept quant frame s reference =
      let depth = option_map_or (λ m. s.depth (m % rules.slots) + 1) reference 0 in
      let style = encoding.style frame (is_some reference) depth quant in
      let before = option_map (λ m. s.picture (m % rules.slots)) reference in
      let mbs = encoding.choice frame before style in
      record {
        reference = reference;
        depth = depth;
        style = style;
        slices = encoding.cut style mbs;
        picture = decoded_picture pictures style before mbs;
      }

  -- the next picture with this pace and this floor, by what the sender keeps
  abbrev pub next_above : (List ℕ → ℕ) → Frame → ℕ → Sender Picture → Coded Style Mb Picture
  next_above pace frame floor s =
      made_by_kept (pace s.sizes) frame s (from_floor floor (reference_by_kept rules s))

  -- with no floor it is the next picture of a sender that is not steered
  abbrev pub NextAboveNothing : Type 0
  NextAboveNothing = (pace : List ℕ → ℕ) (frame : Frame) (s : Sender Picture) →
      next_above pace frame 0 s ≡ next_by_kept pictures encoding rules pace frame s

  -- a sender that stands for entries holds their run, and the other way
  pub record StandingIsHolding (pace : List ℕ → ℕ) (s : Sender Picture)
      (entries : List (SenderEntry Frame)) : Type 0 where
    pub holds : SenderStands pictures encoding rules pace s entries
        → SenderHolds s (sender_run pictures encoding rules pace entries)
    pub stands : SenderHolds s (sender_run pictures encoding rules pace entries)
        → SenderStands pictures encoding rules pace s entries

  abbrev pub HoldsItsRun : Type 0
  HoldsItsRun = (pace : List ℕ → ℕ) (s : Sender Picture) (entries : List (SenderEntry Frame)) →
      StandingIsHolding pace s entries

  -- what is kept gives the next picture of the run
  abbrev pub NextIsSteered : Type 0
  NextIsSteered = (pace : List ℕ → ℕ) (frame : Frame) (s : Sender Picture) (r : SteeredRun Style Mb Picture) →
      SenderHolds s r.run → next_above pace frame r.since s ≡ next_steered pace frame r

  -- a sender to which nothing was done holds the run in which nothing was
  abbrev pub NewHolds : Type 0
  NewHolds = (s : Sender Picture) →
      s.sent ≡ 0 → s.sequence ≡ 0 → s.packets ≡ [] → s.sizes ≡ [] → SenderHolds s nothing_done.run

  -- what a capture leaves holds the run with that picture, whatever it is
  abbrev pub CaptureHolds : Type 0
  CaptureHolds = (s t : Sender Picture) (run : SenderRun Style Mb Picture) (x : Coded Style Mb Picture) →
      SenderHolds s run → IsAfterCapture pictures encoding rules s t x → SenderHolds t (run_with_picture x run)

  abbrev pub FeedbackHolds : Type 0
  FeedbackHolds = (bytes : List ℕ) (s t : Sender Picture) (run : SenderRun Style Mb Picture) →
      SenderHolds s run
      → IsAfterFeedback rules s t (known_by_feedback rules s.sent (result_ok (encoding.read_message bytes)))
      → SenderHolds t (after_feedback encoding rules bytes run)

  -- feedback that is refused or old changes nothing
  abbrev pub OtherFeedbackHolds : Type 0
  OtherFeedbackHolds = (bytes : List ℕ) (s : Sender Picture) (run : SenderRun Style Mb Picture) →
      SenderHolds s run → is_noted (feedback_answer rules s.sent (encoding.read_message bytes)) ≡ false
      → SenderHolds s (after_feedback encoding rules bytes run)

module _ {Frame Style Mb Picture Fault MessageFault : Type 0}
    (coding : Coding Frame Style Mb Picture Fault MessageFault) (rules : Rules) where
  -- The pictures of a steered encoder: of the call so far it takes a quantiser, and which of the
  -- known pictures may be a reference.
  abbrev pub steered : (Call Style Mb Picture → ℕ) → (Call Style Mb Picture → ℕ → Bool)
      → List Frame → Source Style Mb Picture
  steered quant may frames c =
      option_map (λ frame. capture (pictures_of coding) coding.encoding (quant c) frame c.coded
      (reference_for rules (depth_at c.coded) (is_among (filter (may c) c.known)) (length c.coded)))
      (slice_get frames (length c.coded))

  -- whatever it takes, its pictures are sound, and its packets are theirs
  abbrev pub SteeredIsSound : Type 0
  SteeredIsSound = (quant : Call Style Mb Picture → ℕ) (may : Call Style Mb Picture → ℕ → Bool)
      (frames : List Frame) (past : List Event) → AreQuants quant
      → AllSound coding.decoding rules (steered quant may frames) (packets_at coding.encoding rules) past

  -- so a receiver in a near call of it answers and plays as the call says
  abbrev pub SteeredIsFollowed : Type 0
  SteeredIsFollowed = (quant : Call Style Mb Picture → ℕ) (may : Call Style Mb Picture → ℕ → Bool)
      (frames : List Frame) (past : List Event) → AreQuants quant
      → AllMayHappenFrom coding.decoding.pictures rules (steered quant may frames) (length frames) past
      → FollowsTheCall coding.decoding rules (steered quant may frames) (packets_at coding.encoding rules)
      (length frames) past
