-- What a group has coded, and what its receivers are known to have.
use Rattle.std.specs.Prelude.{ℕ, ◌+◌, Bool, ◌&&◌, not, nat_le, is_some, List, [], ◌∷◌, ◌++◌, length, Option}
use Rattle.std.specs.List.{position}
use Rattle.std.specs.Result.{result_ok}
use Rattle.call_model.specs.Numbers.{greatest}
use Rattle.call_model.specs.Coding.{Rules, window, Pictures, Encoding}
use Rattle.call_model.specs.CodedPictures.{Coded, depth_at, reference_for, capture}
use Rattle.call_model.specs.Sending.{known_by_feedback, last_sizes}
use Rattle.group_sender.specs.Parties.{Party, all_have, nobodies, party_after_saying, party_at, party_has, party_joined, party_left, with_party_at}

-- the pictures, oldest first, and the receivers by their places
pub record GroupRun (Style Mb Picture : Type 0) : Type 0 where
  pub coded : List (Coded Style Mb Picture)
  pub parties : List Party

-- what is done to a group: a frame with its messages is captured, with the pace that is in force; a
-- receiver's feedback comes; a receiver joins or leaves. Receivers go by their places, from 0 on
pub data GroupEntry (Frame : Type 0) : Type 0 where
  CaptureAll : (List ℕ → ℕ) → Frame → GroupEntry Frame
  FeedbackOf : ℕ → List ℕ → GroupEntry Frame
  JoinsAt : ℕ → GroupEntry Frame
  LeavesAt : ℕ → GroupEntry Frame

module _ {Style Mb Picture : Type 0} where
  -- 16 places, and nobody is there
  abbrev pub no_group : GroupRun Style Mb Picture
  no_group = record { coded = []; parties = nobodies }

  abbrev pub after_join : ℕ → GroupRun Style Mb Picture → GroupRun Style Mb Picture
  after_join k run = record run { parties = with_party_at k (party_joined (length run.coded)) run.parties }

  abbrev pub after_leave : ℕ → GroupRun Style Mb Picture → GroupRun Style Mb Picture
  after_leave k run = record run { parties = with_party_at k (party_left (party_at run.parties k)) run.parties }

  -- the newest picture in the window that each receiver that is there is known to have
  abbrev pub newest_of_all : Rules → GroupRun Style Mb Picture → Option ℕ
  newest_of_all rules run =
      greatest (λ m. all_have run.parties m && nat_le (length run.coded) (m + window rules)) (length run.coded)

-- The receiver is there, and is known to have none of the pictures in the window of picture n. While
-- there is one, each picture is coded by itself.
abbrev pub is_waited_for : Rules → ℕ → Party → Bool
is_waited_for rules n party =
    party.present && not (is_some (greatest (λ m. party_has party m && nat_le n (m + window rules)) n))

-- the first receiver of which that is so
abbrev pub waited_for : {Style Mb Picture : Type 0} → Rules → GroupRun Style Mb Picture → Option ℕ
waited_for rules run = position (is_waited_for rules (length run.coded)) run.parties

module _ {Frame Style Mb Picture MessageFault : Type 0} (pictures : Pictures Style Mb Picture)
    (encoding : Encoding Frame Style Mb Picture MessageFault) (rules : Rules) where
  -- The next picture of this frame, with this pace: its reference is the newest picture in the window
  -- that all have. It is coded by itself where there is none, or its chain may not grow.
  abbrev pub next_for_all : (List ℕ → ℕ) → Frame → GroupRun Style Mb Picture → Coded Style Mb Picture
  next_for_all pace frame run =
      capture pictures encoding (pace (last_sizes encoding rules run.coded)) frame run.coded
      (reference_for rules (depth_at run.coded) (all_have run.parties) (length run.coded))

  abbrev pub after_capture_for_all : (List ℕ → ℕ) → Frame → GroupRun Style Mb Picture → GroupRun Style Mb Picture
  after_capture_for_all pace frame run =
      record run { coded = run.coded ++ next_for_all pace frame run ∷ [] }

  -- the bytes of a message of the receiver at place k come back
  abbrev pub after_feedback_of : ℕ → List ℕ → GroupRun Style Mb Picture → GroupRun Style Mb Picture
  after_feedback_of k bytes run =
      record run {
        parties = with_party_at k
            (party_after_saying (known_by_feedback rules (length run.coded)
            (result_ok (encoding.read_message bytes))) (party_at run.parties k)) run.parties;
      }

  -- the run after these entries, the newest first
  abbrev pub group_run : List (GroupEntry Frame) → GroupRun Style Mb Picture
  group_run [] = no_group
  group_run (CaptureAll pace frame ∷ past) = after_capture_for_all pace frame (group_run past)
  group_run (FeedbackOf k bytes ∷ past) = after_feedback_of k bytes (group_run past)
  group_run (JoinsAt k ∷ past) = after_join k (group_run past)
  group_run (LeavesAt k ∷ past) = after_leave k (group_run past)
