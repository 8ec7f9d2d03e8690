-- What a receiver keeps, and the run that it stands for.
use Rattle.std.specs.Prelude.{◌≡◌, ℕ, zero, suc, ◌+◌, ◌-◌, ◌%◌, ◌^◌, ◌≤◌, Bool, true, false, ◌==◌, List, [], ◌∷◌, length, Option, Some, None, option_and_then, if◌then◌else◌}
use Rattle.std.specs.Option.{option_map, option_map_or}
use Rattle.std.specs.Result.{result_ok}
use Rattle.h263_bits.specs.declared.fault.Fault.{Fault}
use Rattle.h263_types.specs.declared.blocks.Mb.{Mb}
use Rattle.h263_types.specs.declared.params.Params.{Params}
use Rattle.h263_types.specs.Params.{IsParams}
use Rattle.h263_planes.specs.Picture.{Picture}
use Rattle.picture_store.specs.Pictures.{StoredPictures, slots_of, slot_number, picture_in, work_in, IsKept}
use Rattle.packet_collector.specs.Collected.{Collects, row_of, format_of, header_in, has_in}
use Rattle.packet_collector.specs.Taken.{Taken}
use Rattle.call_model.specs.Coding.{Header, Mark, Message}
use Rattle.call_model.specs.Receiving.{ReceiverRun, ReceiverEntry, PlayNext, Heard, TakenSlice, heard, piece_number, played_mark, played_message, receiver_run, header_reference}
use Rattle.call_model.specs.Stands.{Receiver, ReceiverStands}
use Rattle.call_decoding.specs.Rules.{rules_of}
use Rattle.call_decoding.specs.Styles.{Style, call_header_of}
use Rattle.receiver_end.specs.declared.kept.Kept.{Kept}
use Rattle.receiver_end.specs.Decoding.{decoding}

abbrev pub ReceivedRun : Type 0
ReceivedRun = ReceiverRun Style Mb Picture

-- the run with these parameters after a list of entries, the newest first
abbrev pub run_of : Params → List ReceiverEntry → ReceivedRun
run_of p past = receiver_run (decoding p.format) (rules_of p) past

-- The work picture of an open number. There is one for each open number and for the one that was
-- played last.
abbrev pub work_of : Params → ℕ → ℕ
work_of p n = n % (p.lead + 2)

-- the work picture of the number that was played last
abbrev pub last_work : Params → ℕ → ℕ
last_work p played = (played + p.lead + 1) % (p.lead + 2)

-- the slot of picture n has that number
abbrev pub slot_holds : Params → StoredPictures → ℕ → Bool
slot_holds p s n = option_map_or (λ k. k == n) (slot_number s (n % p.slots)) false

-- the picture of an open number: in its slot once it is complete, else at work
abbrev pub open_picture : Params → StoredPictures → ℕ → Picture
open_picture p s n = if slot_holds p s n then picture_in s (n % p.slots) else work_in s (work_of p n)

-- the picture on the screen: one that is kept, or a work picture
abbrev pub screen_in : Params → StoredPictures → Bool → ℕ → Picture
screen_in p s true played = picture_in s ((played - 1) % p.slots)
screen_in p s false played = work_in s (last_work p played)

-- the parts of a receiver fit one another
pub record Fits (r : Kept) : Type 0 where
  pub params : IsParams r.params
  pub format : r.store.format ≡ r.params.format
  pub slots : slots_of r.store ≡ r.params.slots
  pub works : length r.store.pictures ≡ r.params.slots + (r.params.lead + 2)
  pub collected : format_of r.collector ≡ r.params.format
  pub row : row_of r.collector ≡ r.params.lead + 1
  pub few : r.played ≤ 2 ^ 20
  -- the picture that is shown out of its slot is still there
  pub exact : r.exact ≡ true → (1 ≤ r.played) × IsKept r.store (r.played - 1)
  -- the collector stands for some list of slices
  pub taken : List Taken
  pub collects : Collects r.collector r.played taken

-- this many plays, with nothing between them
abbrev pub plays_alone : ℕ → List ReceiverEntry
plays_alone zero = []
plays_alone (suc n) = PlayNext ∷ plays_alone n

-- as the laws of a call see it
abbrev pub seen : Kept → Receiver Style Picture
seen r =
    record {
      played = r.played;
      screen = screen_in r.params r.store r.exact r.played;
      header = λ n. option_map call_header_of (header_in r.collector n);
      has = λ n k. has_in r.collector n k;
      work = λ n. open_picture r.params r.store n;
      kept = λ rest. slot_number r.store rest;
      picture = λ rest. picture_in r.store rest;
    }

-- what the run answers to a packet, and the mark and the message of its next play
abbrev pub answer_after : Params → List ReceiverEntry → List ℕ → Heard Fault
answer_after p past bytes =
    heard (decoding p.format) (rules_of p) (run_of p past) ((decoding p.format).read bytes)

abbrev pub mark_after : Params → List ReceiverEntry → Mark
mark_after p past = played_mark (decoding p.format) (rules_of p) (run_of p past)

abbrev pub message_after : Params → List ReceiverEntry → Option Message
message_after p past = played_message (decoding p.format) (rules_of p) (run_of p past)

-- The number of the picture that a packet is of: the one nearest to the play. None where the packet
-- has a fault or is of the other picture clock, and where that would be before picture 0.
abbrev pub number_after : Params → List ReceiverEntry → List ℕ → Option ℕ
number_after p past bytes =
    option_and_then (piece_number (rules_of p) (run_of p past).played)
    (result_ok ((decoding p.format).read bytes))

-- the header of what was taken of picture n: its slices have one
abbrev pub header_taken : {Style Mb : Type 0} → List (TakenSlice Style Mb) → ℕ → Option (Header Style)
header_taken [] n = None
header_taken (t ∷ ts) n = if t.number == n then Some t.piece.header else header_taken ts n

-- The picture to which the next one refers, by the header of what was taken of it: None where it is
-- intra, and where nothing of it was taken.
abbrev pub reference_after : Params → List ReceiverEntry → Option ℕ
reference_after p past =
    let run = run_of p past in
    option_and_then (header_reference (decoding p.format) (rules_of p) run.played)
    (header_taken run.taken run.played)

-- the same, by the header that is kept
abbrev pub reference_kept : Kept → Option ℕ
reference_kept r =
    option_and_then (header_reference (decoding r.params.format) (rules_of r.params) r.played)
    (option_map call_header_of (header_in r.collector r.played))

-- the receiver stands for this list of entries, the newest first
abbrev pub Stands : Kept → List ReceiverEntry → Type 0
Stands r past = ReceiverStands (decoding r.params.format) (rules_of r.params) (seen r) past
