-- What a receiver of a group says, by its ideal call, and what the sender then knows of it.
use Rattle.std.specs.Prelude.{◌≡◌, ℕ, ◌<◌, List, [], ◌∷◌, ◌++◌, length, map, slice_get, None}
use Rattle.std.specs.Option.{option_map_or}
use Rattle.call_model.specs.Coding.{Rules, Coding, pictures_of}
use Rattle.call_model.specs.CodedPictures.{Coded, capture}
use Rattle.call_model.specs.IdealCall.{Event, Deliver, Play, Call, Source, AllMayHappenFrom, call_from}
use Rattle.call_model.specs.JoinedRun.{SaidMessage, said_at_play, said_to}
use Rattle.call_model.specs.Receiving.{heard}
use Rattle.call_model.specs.Sending.{packets_at}
use Rattle.call_model.specs.Sound.{Packets, received}
use Rattle.call_model.specs.TwoStores.{told_of}
use Rattle.group_sender.specs.InACall.{AreLived, Lived, group_entries, lived_events, lived_source}
use Rattle.group_sender.specs.Parties.{party_at}
use Rattle.group_sender.specs.Running.{GroupEntry, GroupRun, group_run}

module _ {Frame Style Mb Picture Fault MessageFault : Type 0}
    (coding : Coding Frame Style Mb Picture Fault MessageFault) (rules : Rules) where
  -- what the receiver says in its call, oldest first, where it is handed these packets
  abbrev pub says_in : Source Style Mb Picture → Packets Style Mb Picture → List Event → List SaidMessage
  says_in source packets [] = []
  says_in source packets (Deliver n j ∷ past) =
      says_in source packets past ++ option_map_or (λ bytes. said_to coding.encoding.write_message n
      (heard coding.decoding rules (received coding.decoding rules source packets past) (coding.decoding.read bytes)))
      (slice_get (packets (call_from (pictures_of coding) rules source past).coded n) j) []
  says_in source packets (Play ∷ past) =
      says_in source packets past
      ++ said_at_play coding rules (received coding.decoding rules source packets past)
  says_in source packets (_ ∷ past) = says_in source packets past

  -- It says the messages of its call, as they travel; and the group knows of it what the call's sender
  -- knows.
  pub record HearsReceiver (k : ℕ) (source : Source Style Mb Picture) (run : GroupRun Style Mb Picture)
      (past : List Event) : Type 0 where
    pub says : says_in source (λ _ n. packets_at coding.encoding rules run.coded n) past
        ≡ map (told_of coding.encoding.write_message rules) (call_from (pictures_of coding) rules source past).said
    pub knows : (party_at run.parties k).told ≡ (call_from (pictures_of coding) rules source past).known

  -- for each receiver, from its joining on, in any call that is near for it
  abbrev pub GroupIsHeard : Type 0
  GroupIsHeard = (k : ℕ) (before : List (GroupEntry Frame)) (lived : List (Lived Frame)) (frame : Frame)
      (quant count : ℕ) →
      let pictures = pictures_of coding in
      let first = group_run pictures coding.encoding rules before in
      let joined = length first.coded in
      let run = group_run pictures coding.encoding rules (group_entries k before lived) in
      let source = lived_source joined (capture pictures coding.encoding quant frame [] None) run.coded in
      k < length first.parties → (0 < quant) × (quant < 32) → AreLived coding rules k joined source lived
      → AllMayHappenFrom pictures rules source count (lived_events joined lived)
      → HearsReceiver k source run (lived_events joined lived)
