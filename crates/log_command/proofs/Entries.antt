-- What comes of the next entry of a log.
use Rattle.std.proofs.Common.{◌≡◌, ℕ, ◌+◌, ◌<◌, ◌≤◌, Bool, true, false, List, [], ◌∷◌, length, take, drop, Option, Some, None, refl, sym, ap, ◌∙◌, arith}
use Rattle.std.specs.Prelude.{◌&&◌, nat_le, nat_lt, if◌then◌else◌}
use Rattle.std.proofs.lemmas.Bool.{leb-true, lt-ltb, le-ltb}
use Rattle.h263_outside.specs.declared.desk.Role.{Role}
use Rattle.h263_outside.specs.declared.desk.Role.TheVariants.{Events}
use Rattle.event_logs.specs.declared.entry.Entry.{Entry}
use Rattle.event_logs.specs.declared.entry.Entry.TheVariants.{Capture, Back, Packet, Play}
use Rattle.event_logs.specs.declared.entry.Side.{Side}
use Rattle.event_logs.specs.declared.fault.LogFault.TheVariants.{TooMany}
use Rattle.event_logs.specs.Entry.{entry_size, entry_in}
use Rattle.desk_program.specs.Ends.{IsPart, step_turns}
use Rattle.desk_program.specs.Run.Step.{Goes}
use Rattle.desk_program.specs.Texts.{of}
use Rattle.log_command.specs.Log.{LogRules, LogState, after_entry, entry_step, entry_turn, log_step, other_step, packet_step, refused_log, step_in}

-- where an entry stands there are bytes
some_bytes : (side : Side) (log : List ℕ) (e : Entry) → entry_in side log ≡ Some e → 0 < length log
some_bytes side [] e is = absurd (cc is)
some_bytes side (b ∷ log) e is = omega arith

-- a whole entry stays where the log is cut after it
abbrev pub StaysWhole : Type 0
StaysWhole =
    (side : Side) (entry : Entry) (text : List ℕ) (k : ℕ) → entry_in side text ≡ Some entry → 3 + entry_size entry ≤ k
    → entry_in side (take k text) ≡ Some entry

not_held : (size k : ℕ) → (size ≤ k → ⊥) → nat_le size k ≡ false
not_held size k few = at_test (nat_le size k) refl
  where
    at_test : (t : Bool) → nat_le size k ≡ t → t ≡ false
    at_test true is = absurd (few (leb-true size k is))
    at_test false is = refl

module _ {State : Type 0} (does : LogRules State) (s : LogState State) where
  -- ---- the entry that is next

  pub entry_next : (log : List ℕ) (o : Option Entry) → s.entries < 16777216 → 0 < length log → entry_in does.side log
      ≡ o
      → step_in does s log ≡ entry_step does s log o
  entry_next [] o few some is = absurd (omega arith)
  entry_next (b ∷ log) o few some is =
      ap (λ (t : Bool). if t then entry_step does s (b ∷ log) (entry_in does.side (b ∷ log)) else refused_log
      (TooMany s.at)) (lt-ltb s.entries 16777216 few)
      ∙ ap (entry_step does s (b ∷ log)) is

  pub none_next : (log : List ℕ) → s.entries ≡ 16777216 → 0 < length log
      → step_in does s log ≡ refused_log (TooMany s.at)
  none_next [] all some = absurd (omega arith)
  none_next (b ∷ log) all some =
      ap (λ (t : Bool). if t then entry_step does s (b ∷ log) (entry_in does.side (b ∷ log)) else refused_log
      (TooMany s.at)) (le-ltb s.entries 16777216 (omega (arith, all)))

  -- ---- what was taken when a read failed holds no whole entry

  module _ (stays : StaysWhole) (log : List ℕ) (k : ℕ) (none : entry_in does.side (take k log) ≡ None) where
    part_of_turn : (e : Entry) (texts : Role → List ℕ) → entry_in does.side log ≡ Some e
        → IsPart (entry_turn (3 + entry_size e) texts ∷ []) (of Events k)
    part_of_turn e texts is =
        ap (λ (b : Bool). true && true && b && true)
        (not_held (3 + entry_size e) k (λ le. absurd (cc (none, stays does.side e log k is le))))

    part_if : (t : Bool) (next : LogState State) (size : ℕ) (texts : Role → List ℕ)
        → IsPart (entry_turn size texts ∷ []) (of Events k)
        → IsPart (step_turns (if t then Goes next (entry_turn size texts) else refused_log (TooMany s.at)))
        (of Events k)
    part_if true next size texts part = part
    part_if false next size texts part = tt

    other_part : (e : Entry) → entry_in does.side log ≡ Some e
        → IsPart (step_turns (other_step does s (3 + entry_size e) (take (entry_size e) (drop 3 log)))) (of Events k)
    other_part e is =
        let texts = does.other_text s.mind (take (entry_size e) (drop 3 log)) in
        part_if _ _ (3 + entry_size e) texts (part_of_turn e texts is)

    entry_part : (o : Option Entry) → entry_in does.side log ≡ o
        → IsPart (step_turns (entry_step does s log o)) (of Events k)
    entry_part None is = tt
    entry_part (Some (Packet len)) is = part_of_turn (Packet len) (does.packet_text s.mind (take len (drop 3 log))) is
    entry_part (Some Capture) is = other_part Capture is
    entry_part (Some (Back len)) is = other_part (Back len) is
    entry_part (Some Play) is = other_part Play is

    part_of_log : (t : Bool)
        → IsPart (step_turns (if t then entry_step does s log (entry_in does.side log) else refused_log (TooMany s.at)))
        (of Events k)
    part_of_log true = entry_part (entry_in does.side log) refl
    part_of_log false = tt

  pub log_part : StaysWhole → (log : List ℕ) (k : ℕ) → entry_in does.side (take k log) ≡ None
      → IsPart (step_turns (step_in does s log)) (of Events k)
  log_part stays [] k none = tt
  log_part stays (b ∷ log) k none = part_of_log stays (b ∷ log) k none (nat_lt s.entries 16777216)

  -- ---- the step by the entry that is next

  module _ (inputs : Role → List ℕ) (few : s.entries < 16777216) where
    pub packet_is : (len : ℕ) (bytes : List ℕ) → entry_in does.side (inputs Events) ≡ Some (Packet len)
        → bytes ≡ take len (drop 3 (inputs Events))
        → log_step does s inputs ≡ packet_step does s (3 + len) bytes
    packet_is len bytes is same =
        entry_next (inputs Events) (Some (Packet len)) few (some_bytes does.side (inputs Events) (Packet len) is) is
        ∙ ap (packet_step does s (3 + len)) (sym same)

    -- an entry of the other kind
    module _ (e : Entry) (other : (len : ℕ) → e ≡ Packet len → ⊥) (is : entry_in does.side (inputs Events)
        ≡ Some e) where
      no_packet : (log : List ℕ) (e : Entry) → ((len : ℕ) → e ≡ Packet len → ⊥) → entry_step does s log (Some e)
          ≡ other_step does s (3 + entry_size e) (take (entry_size e) (drop 3 log))
      no_packet log Capture other = refl
      no_packet log (Back len) other = refl
      no_packet log Play other = refl
      no_packet log (Packet len) other = absurd (other len refl)

      other_next : (bytes : List ℕ) (t : Bool) → bytes ≡ take (entry_size e) (drop 3 (inputs Events))
          → nat_lt (does.plays s.mind) 1048576 ≡ t → log_step does s inputs
          ≡ (if t then Goes (after_entry s (does.other s.mind bytes) (3 + entry_size e))
          (entry_turn (3 + entry_size e) (does.other_text s.mind bytes)) else refused_log (TooMany s.at))
      other_next bytes t same test =
          entry_next (inputs Events) (Some e) few (some_bytes does.side (inputs Events) e is) is
          ∙ no_packet (inputs Events) e other ∙ ap (other_step does s (3 + entry_size e)) (sym same)
          ∙ ap (λ (b : Bool). if b then Goes (after_entry s (does.other s.mind bytes) (3 + entry_size e))
          (entry_turn (3 + entry_size e) (does.other_text s.mind bytes)) else refused_log (TooMany s.at)) test

      pub other_is : (bytes : List ℕ) → bytes ≡ take (entry_size e) (drop 3 (inputs Events))
          → does.plays s.mind < 1048576
          → log_step does s inputs ≡ Goes (after_entry s (does.other s.mind bytes) (3 + entry_size e))
          (entry_turn (3 + entry_size e) (does.other_text s.mind bytes))
      other_is bytes same more = other_next bytes true same (lt-ltb (does.plays s.mind) 1048576 more)

      pub all_played : 1048576 ≤ does.plays s.mind → log_step does s inputs ≡ refused_log (TooMany s.at)
      all_played all = other_next _ false refl (le-ltb (does.plays s.mind) 1048576 all)
