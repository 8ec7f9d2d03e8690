-- What a receiver's store of pictures keeps of its run: one picture for each rest modulo slots.
use Rattle.std.specs.Prelude.{◌≡◌, ℕ, ◌+◌, ◌%◌, ◌<◌, ◌≤◌, Bool, true, false, ◌&&◌, nat_lt, ◌==◌, List, Option, Some}
use Rattle.std.specs.Option.{option_map_or}
use Rattle.call_model.specs.Numbers.{greatest, flags_of}
use Rattle.call_model.specs.Coding.{Rules, window, Decoding}
use Rattle.call_model.specs.Receiving.{TakenSlice, ReceiverRun, has_taken, is_complete, complete_flags, offer, ReceiverEntry, receiver_run}

module _ {Style Mb Picture Fault : Type 0} (decoding : Decoding Style Mb Picture Fault) (rules : Rules) where
  -- what a slot of the store holds: the greatest complete number with this rest modulo slots
  unfoldable pub store_slot : ReceiverRun Style Mb Picture → ℕ → Option ℕ
  store_slot run rest = greatest (λ m. is_complete rules.mbs run.taken m && (m % rules.slots == rest))
      (run.played + rules.lead + 1)

  -- the slot of m holds m
  abbrev pub is_kept : ReceiverRun Style Mb Picture → ℕ → Bool
  is_kept run m = option_map_or (λ kept. kept == m) (store_slot run (m % rules.slots)) false

  -- nothing is taken of a picture that is further ahead than lead
  abbrev pub TakenInTime : Type 0
  TakenInTime = (entries : List ReceiverEntry) (n k : ℕ) → let run = receiver_run decoding rules entries in
      has_taken run.taken n k ≡ true → n ≤ run.played + rules.lead

  -- no complete picture is further ahead than lead
  abbrev pub NoneAhead : Type 0
  NoneAhead = (entries : List ReceiverEntry) (m : ℕ) → let run = receiver_run decoding rules entries in
      is_complete rules.mbs run.taken m ≡ true → m ≤ run.played + rules.lead

  -- a complete picture in the window of an open one is in its slot
  abbrev pub ReferencesAreKept : Type 0
  ReferencesAreKept = (entries : List ReceiverEntry) (n m : ℕ) → let run = receiver_run decoding rules entries in
      run.played ≤ n → n ≤ m + window rules
      → is_complete rules.mbs run.taken m ≡ true → store_slot run (m % rules.slots) ≡ Some m

  -- looking into one slot tells whether the reference of an open picture is complete
  abbrev pub ViewTells : Type 0
  ViewTells = (entries : List ReceiverEntry) (n m : ℕ) → let run = receiver_run decoding rules entries in
      run.played ≤ n → n ≤ m + window rules → is_kept run m ≡ is_complete rules.mbs run.taken m

  -- looking into the slots finds the number that a NACK offers
  abbrev pub SlotsTellOffer : Type 0
  SlotsTellOffer = (entries : List ReceiverEntry) → let run = receiver_run decoding rules entries in
      greatest (λ m. is_kept run m && nat_lt run.played (m + rules.slots))
      (run.played + rules.lead + 1) ≡ offer rules run.taken run.played

  -- looking into the slots finds the flags of a message about an open picture
  abbrev pub SlotsTellFlags : Type 0
  SlotsTellFlags = (entries : List ReceiverEntry) (n : ℕ) → let run = receiver_run decoding rules entries in
      run.played ≤ n → flags_of rules.flags (is_kept run) n ≡ complete_flags rules run.taken n

  -- an open picture that becomes complete takes its slot, whatever was there, and no other slot
  -- changes
  abbrev pub NewOneTakesItsSlot : Type 0
  NewOneTakesItsSlot = (entries : List ReceiverEntry) (n : ℕ) (taken : List (TakenSlice Style Mb)) →
      let run = receiver_run decoding rules entries in
      let after = record run { taken = taken } in
      run.played ≤ n → n ≤ run.played + rules.lead → is_complete rules.mbs taken n ≡ true
      → ((m : ℕ) → m < run.played + rules.lead + 1
      → (m ≡ n → ⊥) → is_complete rules.mbs taken m ≡ is_complete rules.mbs run.taken m)
      → (store_slot after (n % rules.slots) ≡ Some n)
      × ((rest : ℕ) → (rest ≡ n % rules.slots → ⊥) → store_slot after rest ≡ store_slot run rest)
