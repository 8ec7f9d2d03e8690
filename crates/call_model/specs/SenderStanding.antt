-- That a sender stands for the longer list after a capture and after feedback, from what it kept
-- before.
use Rattle.std.specs.Prelude.{◌≡◌, ℕ, ◌+◌, ◌-◌, ◌%◌, ◌^◌, ◌<◌, ◌≤◌, Bool, true, false, ◌||◌, List, [], ◌∷◌, ◌++◌, length, drop, Option, is_some}
use Rattle.std.specs.Option.{option_map, option_map_or}
use Rattle.std.specs.Result.{result_ok}
use Rattle.call_model.specs.Coding.{Rules, Pictures, Encoding, decoded_picture}
use Rattle.call_model.specs.CodedPictures.{Coded, depth_at, is_among, reference_for}
use Rattle.call_model.specs.Sending.{SenderEntry, Capture, Feedback, Reply, Noted, header_of, bytes_together, known_by_feedback, feedback_answer, next_coded, sender_run}
use Rattle.call_model.specs.Stands.{Sender, SenderStands}

-- the reference of the next picture, by what the sender keeps of the last slots pictures
abbrev pub reference_by_kept : {Picture : Type 0} → Rules → Sender Picture → Option ℕ
reference_by_kept rules s = reference_for rules (λ m. s.depth (m % rules.slots)) (λ m. s.known (m % rules.slots)) s.sent

-- one size more: the last 16 are kept
abbrev pub with_size : List ℕ → ℕ → List ℕ
with_size sizes size = drop (length (sizes ++ size ∷ []) - 16) (sizes ++ size ∷ [])

-- the answer is that the message was noted
abbrev pub is_noted : {MessageFault : Type 0} → Reply MessageFault → Bool
is_noted Noted = true
is_noted _ = false

-- What feedback leaves: of each of the last slots pictures, that it is known where it was or is
-- made so.
pub record IsAfterFeedback {Picture : Type 0} (rules : Rules) (s t : Sender Picture) (numbers : List ℕ) : Type 0 where
  pub sent : t.sent ≡ s.sent
  pub sequence : t.sequence ≡ s.sequence
  pub packets : t.packets ≡ s.packets
  pub sizes : t.sizes ≡ s.sizes
  pub picture : (rest : ℕ) → rest < rules.slots → t.picture rest ≡ s.picture rest
  pub depth : (rest : ℕ) → rest < rules.slots → t.depth rest ≡ s.depth rest
  pub known : (m : ℕ) → m < s.sent → s.sent ≤ m + rules.slots
      → t.known (m % rules.slots) ≡ (is_among numbers m || s.known (m % rules.slots))

module _ {Frame Style Mb Picture MessageFault : Type 0} (pictures : Pictures Style Mb Picture)
    (encoding : Encoding Frame Style Mb Picture MessageFault) (rules : Rules) where
  -- the next picture, by what the sender keeps
  unfoldable pub next_by_kept : (List ℕ → ℕ) → Frame → Sender Picture → Coded Style Mb Picture
  next_by_kept pace frame s =
      let reference = reference_by_kept rules s in
      let depth = option_map_or (λ m. s.depth (m % rules.slots) + 1) reference 0 in
      let style = encoding.style frame (is_some reference) depth (pace s.sizes) in
      let before = option_map (λ m. s.picture (m % rules.slots)) reference in
      let mbs = encoding.choice frame before style in
      record {
        reference = reference;
        depth = depth;
        style = style;
        slices = encoding.cut style mbs;
        picture = decoded_picture pictures style before mbs;
      }

  -- What a capture leaves: the new picture takes its slot and is not known, and no other slot
  -- changes.
  pub record IsAfterCapture (s t : Sender Picture) (x : Coded Style Mb Picture) : Type 0 where
    pub sent : t.sent ≡ s.sent + 1
    pub sequence : t.sequence ≡ (s.sequence + length x.slices) % 2 ^ 16
    pub packets : t.packets ≡ encoding.packets s.sent s.sequence (header_of rules s.sent x) x.slices
    pub sizes : t.sizes ≡ with_size s.sizes (bytes_together t.packets)
    pub picture : t.picture (s.sent % rules.slots) ≡ x.picture
    pub depth : t.depth (s.sent % rules.slots) ≡ x.depth
    pub known : t.known (s.sent % rules.slots) ≡ false
    pub others : (rest : ℕ) → rest < rules.slots → (rest ≡ s.sent % rules.slots → ⊥)
        → (t.picture rest ≡ s.picture rest) × (t.depth rest ≡ s.depth rest) × (t.known rest ≡ s.known rest)

  -- a known number was sent, also where the feedback lied
  abbrev pub KnownWereSent : Type 0
  KnownWereSent = (pace : List ℕ → ℕ) (entries : List (SenderEntry Frame)) (m : ℕ) →
      let run = sender_run pictures encoding rules pace entries in
      is_among run.known m ≡ true → m < length run.coded

  -- choosing from the last slots numbers is the rule of references
  abbrev pub ReferenceByKept : Type 0
  ReferenceByKept = (pace : List ℕ → ℕ) (s : Sender Picture) (entries : List (SenderEntry Frame)) →
      let run = sender_run pictures encoding rules pace entries in
      SenderStands pictures encoding rules pace s entries
      → reference_by_kept rules s ≡ reference_for rules (depth_at run.coded) (is_among run.known) (length run.coded)

  -- the next picture is that of the run
  abbrev pub NextByKept : Type 0
  NextByKept = (pace : List ℕ → ℕ) (frame : Frame) (s : Sender Picture) (entries : List (SenderEntry Frame)) →
      let run = sender_run pictures encoding rules pace entries in
      SenderStands pictures encoding rules pace s entries
      → next_by_kept pace frame s ≡ next_coded pictures encoding rules pace frame run.coded run.known

  -- a sender to which nothing was done stands for the empty list
  abbrev pub NewSenderStands : Type 0
  NewSenderStands = (pace : List ℕ → ℕ) (s : Sender Picture) →
      s.sent ≡ 0 → s.sequence ≡ 0 → s.packets ≡ [] → s.sizes ≡ [] → SenderStands pictures encoding rules pace s []

  abbrev pub CaptureStands : Type 0
  CaptureStands = (pace : List ℕ → ℕ) (frame : Frame) (s t : Sender Picture) (entries : List (SenderEntry Frame)) →
      SenderStands pictures encoding rules pace s entries → IsAfterCapture s t (next_by_kept pace frame s)
      → SenderStands pictures encoding rules pace t (Capture frame ∷ entries)

  abbrev pub FeedbackStands : Type 0
  FeedbackStands = (pace : List ℕ → ℕ) (bytes : List ℕ) (s t : Sender Picture) (entries : List (SenderEntry Frame)) →
      SenderStands pictures encoding rules pace s entries
      → IsAfterFeedback rules s t (known_by_feedback rules s.sent (result_ok (encoding.read_message bytes)))
      → SenderStands pictures encoding rules pace t (Feedback bytes ∷ entries)

  -- feedback that is refused or old changes nothing: the sender stands for the longer list as it is
  abbrev pub OtherFeedbackStands : Type 0
  OtherFeedbackStands = (pace : List ℕ → ℕ) (bytes : List ℕ) (s : Sender Picture) (entries : List (SenderEntry Frame)) →
      SenderStands pictures encoding rules pace s entries
      → is_noted (feedback_answer rules s.sent (encoding.read_message bytes)) ≡ false
      → SenderStands pictures encoding rules pace s (Feedback bytes ∷ entries)
