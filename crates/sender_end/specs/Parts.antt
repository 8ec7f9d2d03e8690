-- The parts of a sender.
use Rattle.std.specs.Prelude.{◌≡◌, All, ℕ, ◌+◌, ◌%◌, ◌<◌, ◌≤◌, false, length, slice_index, slice_index_or}
use Rattle.h263_types.specs.Params.{IsParams}
use Rattle.packet_cutter.specs.Cutting.{cut_format, limit_of, cutter_packets, sequence_of}
use Rattle.picture_store.specs.Pictures.{IsKept, slots_of}
use Rattle.reference_selector.specs.Stands.{SelectorStands}
use Rattle.call_decoding.specs.Rules.{rules_of}
use Rattle.sender_end.specs.declared.sender.Sender.TheInside.{Inside}
use Rattle.sender_end.specs.State.{SenderState}

-- what contracts see of them
abbrev pub sender_state : {P : Type 0} → Inside P → SenderState P
sender_state s =
    record {
      pace = s.pace;
      params = s.params;
      sent = s.sent;
      sequence = sequence_of s.cutter;
      packets = cutter_packets s.cutter;
      sizes = s.sizes.items;
      since = s.since;
      selector = s.selector;
      store = s.store.store;
      draws_all = s.store.draws_all;
    }

-- they fit each other
pub record IsReady {P : Type 0} (s : Inside P) : Type 0 where
  pub params : IsParams s.params
  pub cutter_format : cut_format s.cutter ≡ s.params.format
  pub cutter_limit : limit_of s.cutter ≡ s.params.limit
  pub store_format : s.store.store.format ≡ s.params.format
  pub slots : slots_of s.store.store ≡ s.params.slots
  pub works : length s.store.store.pictures ≡ s.params.slots + 1
  -- the last pictures are there
  pub kept : (m : ℕ) → m < s.sent → s.sent ≤ m + s.params.slots → IsKept s.store.store m
  pub selects : SelectorStands (rules_of s.params) s.selector s.sent
      (λ m. slice_index s.selector.depths (m % s.params.slots))
      (λ m. slice_index_or s.selector.known (m % s.params.slots) false)
  pub few : s.sent ≤ 1048576
  pub small : All (λ packet. length packet ≤ s.params.limit) (cutter_packets s.cutter)
