-- What a receiver says fits a picture header.
use Rattle.std.proofs.Common.{◌≡◌, ℕ, zero, suc, ◌+◌, ◌<◌, Bool, true, false, List, [], ◌∷◌, ◌++◌, length, Some, None, Result, Ok, Err, refl, sym, ap, subst, ◌∙◌, arith}
use Rattle.std.specs.Prelude.{⊤, map, slice_get, if◌then◌else◌}
use Rattle.std.proofs.Math.Nat.{mod-lt}
use Rattle.h263_bits.specs.Bits.{bits_of}
use Rattle.h263_types.specs.declared.clock.Clock.{Clock}
use Rattle.h263_types.specs.declared.clock.Clock.TheVariants.{Standard, Custom}
use Rattle.h263_types.specs.declared.params.Params.{Params}
use Rattle.h263_types.specs.Clocks.{half_of}
use Rattle.back_messages.specs.declared.message.Message.{Message}
use Rattle.back_messages.specs.declared.message.MessageFault.{MessageFault}
use Rattle.back_messages.specs.Text.{IsMessage, message_in, message_text}
use Rattle.call_model.specs.Coding as call
use Rattle.call_model.specs.Coding.{Coding, Rules, period}
use Rattle.call_model.specs.IdealCall.{Back, Deliver, Event, Got, Lost, NumberedMessage, Play, Send, ideal, note_flags}
use Rattle.call_model.specs.Lawful.{IsCoding, IsInPeriod}
use Rattle.call_model.specs.Numbers.{flags_of}
use Rattle.call_model.specs.Sending.{message_flags}
use Rattle.call_model.specs.TwoStores.{travelling}
use Rattle.call_decoding.specs.Rules.{rules_of}
use Rattle.call_encoding.specs.Messages.{as_read, marked_message, write_message}
use Rattle.call_encoding.specs.Frames.{Frame}
use Rattle.coded_call.specs.Coding.{coding}
use Rattle.reference_selector.specs.Messages.{message_of}
use Rattle.one_way.specs.Both.{steady}
use Rattle.duplex_call.specs.declared.queue.Carried.{Carried}
use Rattle.duplex_call.specs.Duplex.{WayRun}
use Rattle.duplex_ends.specs.Bringing.{AreOfClock}
use Rattle.duplex_ends.specs.Headers.{AreNumbered}
use Rattle.duplex_ends.specs.Ways.{carried_as, carried_from}

-- ---- flags

-- each of these messages has so many flags
abbrev AreFlagged : ℕ → List NumberedMessage → Type 0
AreFlagged count [] = ⊤
AreFlagged count (note ∷ notes) = (length (note_flags note) ≡ count) × AreFlagged count notes

flags_long : (count : ℕ) (full : ℕ → Bool) (n : ℕ) → length (flags_of count full n) ≡ count
flags_long zero full n = refl
flags_long (suc count) full n = ap (λ (k : ℕ). suc k) (flags_long count full (n + 1))

flagged_more : (count : ℕ) (notes more : List NumberedMessage) → AreFlagged count notes → AreFlagged count more
    → AreFlagged count (notes ++ more)
flagged_more count [] more are they = they
flagged_more count (note ∷ notes) more are they = (are.0, flagged_more count notes more are.1 they)

if_said : (count : ℕ) (note : NumberedMessage) (b : Bool) → length (note_flags note) ≡ count
    → AreFlagged count (if b then note ∷ [] else [])
if_said count note true long = (long, tt)
if_said count note false long = tt

unless_said : (count : ℕ) (note : NumberedMessage) (b : Bool) → length (note_flags note) ≡ count
    → AreFlagged count (if b then [] else note ∷ [])
unless_said count note true long = tt
unless_said count note false long = (long, tt)

module _ {Frame Style Mb Picture Fault MessageFault : Type 0}
    (coding : Coding Frame Style Mb Picture Fault MessageFault) (rules : Rules) (pace : List ℕ
    → ℕ) (frames : List Frame) where
  flagged : (past : List Event) → AreFlagged rules.flags (ideal coding rules pace frames past).said
  flagged [] = tt
  flagged (Send ∷ past) = flagged past
  flagged (Deliver n j ∷ past) =
      let c = ideal coding rules pace frames past in
      flagged_more rules.flags c.said _ (flagged past) (if_said rules.flags (Got n _) _ (flags_long rules.flags _ n))
  flagged (Play ∷ past) =
      let c = ideal coding rules pace frames past in
      flagged_more rules.flags c.said _ (flagged past) (unless_said rules.flags (Lost c.played _ _) _
      (flags_long rules.flags _ c.played))
  flagged (Back k ∷ past) = flagged past

-- ---- messages

half_some : (clock : Clock) → 0 < half_of clock
half_some Standard = omega arith
half_some Custom = omega arith

module _ (p : Params) (lawful : IsCoding (coding p) (rules_of p))
    (again : (clock : Clock) (m : Message) → IsMessage clock m → marked_message (message_of m) ≡ m)
    (reads : (clock : Clock) (m : Message) (bytes : List ℕ) → message_in clock bytes ≡ Ok m
    → IsMessage clock m × (bits_of bytes ≡ message_text m)) where
  abbrev rules : Rules
  rules = rules_of p

  in_period : (note : NumberedMessage) → IsInPeriod rules (travelling rules note)
  in_period (Got n flags) = mod-lt n (omega (arith, half_some p.clock))
  in_period (Lost n None flags) = (
    mod-lt n (omega (arith, half_some p.clock)),
    mod-lt n (omega (arith, half_some p.clock)),
  )
  in_period (Lost n (Some q) flags) = (
    mod-lt n (omega (arith, half_some p.clock)),
    mod-lt q (omega (arith, half_some p.clock)),
  )

  flags_same : (note : NumberedMessage) → message_flags (travelling rules note) ≡ note_flags note
  flags_same (Got n flags) = refl
  flags_same (Lost n None flags) = refl
  flags_same (Lost n (Some q) flags) = refl

  -- bytes that are read as a message of a call are read as that message with its flags as marks
  by_read : (bytes : List ℕ) (m : call.Message) (r : Result Message MessageFault) → message_in p.clock bytes ≡ r
      → as_read r ≡ Ok m → message_in p.clock bytes ≡ Ok (marked_message m)
  by_read bytes m (Ok w) at is =
      let same : message_of w ≡ m = cc is in
      at ∙ ap (λ (w : Message). let r : Result Message MessageFault = Ok w in
      r) (sym (again p.clock w (reads p.clock w bytes at).0) ∙ ap marked_message same)
  by_read bytes m (Err fault) at is = absurd (cc is)

  reads_note : (note : NumberedMessage) → length (note_flags note) ≡ rules.flags
      → message_in p.clock (write_message (travelling rules note)) ≡ Ok (marked_message (travelling rules note))
  reads_note note long =
      let m = travelling rules note in
      by_read (write_message m) m (message_in p.clock (write_message m)) refl
      (lawful.encodes.message_again m (in_period note) (ap (λ (flags : List Bool). length flags) (flags_same note)
      ∙ long))

  fits_note : (note : NumberedMessage) → length (note_flags note) ≡ rules.flags
      → IsMessage p.clock (marked_message (travelling rules note))
  fits_note note long = (reads p.clock _ (write_message (travelling rules note)) (reads_note note long)).0

  fit : (notes : List NumberedMessage) → AreFlagged rules.flags notes
      → AreOfClock p.clock (map (carried_as rules) notes)
  fit [] are = tt
  fit (note ∷ notes) are = (fits_note note are.0, fit notes are.1)

  -- all that was said of a way's pictures fits a header
  pub told_fit : (w : WayRun Frame) → AreOfClock p.clock (carried_from p w)
  told_fit w = fit _ (flagged (coding p) rules (steady p) w.frames w.past)

  -- the last of them is read from its bytes
  last_flagged : (count : ℕ) (notes : List NumberedMessage) (note : NumberedMessage)
      → AreFlagged count (notes ++ note ∷ []) → length (note_flags note) ≡ count
  last_flagged count [] note are = are.0
  last_flagged count (x ∷ notes) note are = last_flagged count notes note are.1

  pub reads_last : (w : WayRun Frame) (notes : List NumberedMessage) (note : NumberedMessage)
      → (ideal (coding p) rules (steady p) w.frames w.past).said ≡ notes ++ note ∷ []
      → message_in p.clock (write_message (travelling rules note)) ≡ Ok (marked_message (travelling rules note))
  reads_last w notes note is =
      reads_note note (last_flagged rules.flags notes note
      (subst (λ (l : List NumberedMessage). AreFlagged rules.flags l) is
      (flagged (coding p) rules (steady p) w.frames w.past)))

-- ---- of one header

get_fits : (clock : Clock) (said : List Carried) (k : ℕ) (m : Carried) → AreOfClock clock said
    → slice_get said k ≡ Some m → IsMessage clock m.message
get_fits clock [] k m are at = absurd (cc at)
get_fits clock (x ∷ said) zero m are at = let same : x ≡ m = cc at in
    subst (λ (y : Carried). IsMessage clock y.message) same are.0
get_fits clock (x ∷ said) (suc k) m are at = get_fits clock said k m are.1 at

pub numbered_fit : (clock : Clock) (said : List Carried) (ks : List ℕ) (messages : List Carried) → AreOfClock clock said
    → AreNumbered said ks messages → AreOfClock clock messages
numbered_fit clock said [] [] are is = tt
numbered_fit clock said (k ∷ ks) (m ∷ messages) are is = (
  get_fits clock said k m are is.0,
  numbered_fit clock said ks messages are is.1,
)
numbered_fit clock said [] (m ∷ messages) are is = absurd is
numbered_fit clock said (k ∷ ks) [] are is = absurd is
