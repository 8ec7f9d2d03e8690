-- What holds of every group.
use Rattle.std.specs.Prelude.{◌≡◌, ◌↔◌, ℕ, ◌+◌, ◌<◌, ◌≤◌, true, false, List, [], ◌∷◌, length, Some, None}
use Rattle.call_model.specs.Coding.{Rules, window, Pictures, Encoding}
use Rattle.call_model.specs.CodedPictures.{depth_at}
use Rattle.call_model.specs.Sending.{SenderEntry, Capture, Feedback, sender_run}
use Rattle.group_sender.specs.Parties.{Party, all_have, may_go_by, party_at, party_has}
use Rattle.group_sender.specs.Running.{GroupRun, GroupEntry, CaptureAll, FeedbackOf, JoinsAt, after_feedback_of, after_join, after_leave, group_run, next_for_all, waited_for}

-- all have a picture where each receiver that is there is known to have it
abbrev pub AllHaveIs : Type 0
AllHaveIs = (parties : List Party) (m : ℕ) → (all_have parties m ≡ true)
    ↔ ((k : ℕ) → k < length parties → (party_at parties k).present ≡ true → party_has (party_at parties k) m ≡ true)

-- m is the newest picture in the window that all have
pub record IsNewestOfAll {Style Mb Picture : Type 0} (rules : Rules) (run : GroupRun Style Mb Picture)
    (m : ℕ) : Type 0 where
  pub sent : m < length run.coded
  pub near : length run.coded ≤ m + window rules
  pub all : all_have run.parties m ≡ true
  pub newest : (k : ℕ) → m < k → k < length run.coded → all_have run.parties k ≡ false

-- nobody else changes: each receiver but that at place k is as before
abbrev pub OthersStay : ℕ → List Party → List Party → Type 0
OthersStay k old new = (j : ℕ) → (j ≡ k → ⊥) → party_at new j ≡ party_at old j

module _ (Style Mb Picture : Type 0) where
  -- who joins has none of the pictures before: no other receiver's words make up for it
  abbrev pub JoinerHasNone : Type 0
  JoinerHasNone = (k m : ℕ) (run : GroupRun Style Mb Picture) → k < length run.parties → m < length run.coded
      → all_have (after_join k run).parties m ≡ false

  -- who leaves frees what the others have
  abbrev pub LeaverFrees : Type 0
  LeaverFrees = (k m : ℕ) (run : GroupRun Style Mb Picture)
      → ((j : ℕ) → j < length run.parties → (j ≡ k → ⊥) → may_go_by m (party_at run.parties j) ≡ true)
      → all_have (after_leave k run).parties m ≡ true

  abbrev pub JoinChangesOne : Type 0
  JoinChangesOne = (k : ℕ) (run : GroupRun Style Mb Picture) → OthersStay k run.parties (after_join k run).parties

  abbrev pub LeaveChangesOne : Type 0
  LeaveChangesOne = (k : ℕ) (run : GroupRun Style Mb Picture) → OthersStay k run.parties (after_leave k run).parties

module _ {Frame Style Mb Picture MessageFault : Type 0} (pictures : Pictures Style Mb Picture)
    (encoding : Encoding Frame Style Mb Picture MessageFault) (rules : Rules) where
  -- the reference of the next picture is the newest one that all have, if its chain may grow: without
  -- one, or at the chain limit, the picture is coded by itself
  abbrev pub ReferenceIsNewestOfAll : Type 0
  ReferenceIsNewestOfAll = (pace : List ℕ → ℕ) (frame : Frame) (run : GroupRun Style Mb Picture) (m : ℕ)
      → ((next_for_all pictures encoding rules pace frame run).reference ≡ Some m)
      ↔ (IsNewestOfAll rules run m × (depth_at run.coded m < rules.chain))

  -- while a receiver is waited for, the next picture is coded by itself
  abbrev pub WaitingIsIntra : Type 0
  WaitingIsIntra = (pace : List ℕ → ℕ) (frame : Frame) (run : GroupRun Style Mb Picture) (k : ℕ)
      → waited_for rules run ≡ Some k → (next_for_all pictures encoding rules pace frame run).reference ≡ None

  abbrev pub FeedbackChangesOne : Type 0
  FeedbackChangesOne = (k : ℕ) (bytes : List ℕ) (run : GroupRun Style Mb Picture)
      → OthersStay k run.parties (after_feedback_of pictures encoding rules k bytes run).parties

  -- what is done to a sender, done to a group whose only receiver is there from the start
  abbrev pub in_group_of_one : (List ℕ → ℕ) → List (SenderEntry Frame) → List (GroupEntry Frame)
  in_group_of_one pace [] = JoinsAt 0 ∷ []
  in_group_of_one pace (Capture frame ∷ past) = CaptureAll pace frame ∷ in_group_of_one pace past
  in_group_of_one pace (Feedback bytes ∷ past) = FeedbackOf 0 bytes ∷ in_group_of_one pace past

  -- it codes the same pictures, and knows the same of its receiver
  pub record IsASender (pace : List ℕ → ℕ) (entries : List (SenderEntry Frame)) : Type 0 where
    pub coded : (group_run pictures encoding rules (in_group_of_one pace entries)).coded
        ≡ (sender_run pictures encoding rules pace entries).coded
    pub told : (party_at (group_run pictures encoding rules (in_group_of_one pace entries)).parties 0).told
        ≡ (sender_run pictures encoding rules pace entries).known

  abbrev pub OneIsASender : Type 0
  OneIsASender = (pace : List ℕ → ℕ) (entries : List (SenderEntry Frame)) → IsASender pace entries
