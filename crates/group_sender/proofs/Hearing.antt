-- A receiver in a near call of sound pictures says the messages of the call, each about its picture.
use Rattle.std.proofs.Common.{◌≡◌, ℕ, Bool, true, false, List, [], ◌∷◌, ◌++◌, Option, Some, None, refl, sym, ap, ◌∙◌}
use Rattle.std.specs.Prelude.{map, slice_get, if◌then◌else◌, ◌&&◌}
use Rattle.std.specs.Option.{option_map_or}
use Rattle.std.proofs.lemmas.List.{append_cancel_left, map-append}
use Rattle.call_model.specs.Coding.{Rules, Coding, Message, pictures_of}
use Rattle.call_model.specs.IdealCall.{Event, Send, Deliver, Play, Back, NumberedMessage, Got, Lost, Call, Source, AllMayHappenFrom, call_from, delivery_counts, full_flags, is_full, newest_full, with_arrival}
use Rattle.call_model.specs.JoinedRun.{SaidMessage, said_at_play, said_to}
use Rattle.call_model.specs.Receiving.{Heard, Refused, OtherClock, Late, Early, HeaderDiffers, MissingReference, Repeat, Overlap, Completed, Taken, ReceiverRun, heard, played_message}
use Rattle.call_model.specs.Says.{SaysAsTheCall, answer_says, receiver_said}
use Rattle.call_model.specs.Sound.{AllSound, AnySoundSender, Packets, received}
use Rattle.call_model.specs.TwoStores.{told_of, travelling}
use Rattle.group_sender.specs.Hearing.{says_in}

module _ {Frame Style Mb Picture Fault MessageFault : Type 0}
    (coding : Coding Frame Style Mb Picture Fault MessageFault) (rules : Rules)
    (follow : AnySoundSender coding.decoding rules) (says : SaysAsTheCall coding.decoding rules)
    (source : Source Style Mb Picture) (packets : Packets Style Mb Picture) (count : ℕ) where
  abbrev write : Message → List ℕ
  write message = coding.encoding.write_message message

  abbrev call : List Event → Call Style Mb Picture
  call past = call_from (pictures_of coding) rules source past

  abbrev run : List Event → ReceiverRun Style Mb Picture
  run past = received coding.decoding rules source packets past

  abbrev noted : Bool → NumberedMessage → List NumberedMessage
  noted b note = if b then note ∷ [] else []

  first_same : (a b : Message) → a ∷ [] ≡ b ∷ [] → a ≡ b
  first_same a b e = cc

  -- an answer says the note where there is one, and nothing else
  by_answer : (n : ℕ) (flags : List Bool) (a : Heard Fault) (b : Bool)
      → answer_says a ≡ map (travelling rules) (noted b (Got n flags))
      → said_to write n a ≡ map (told_of write rules) (noted b (Got n flags))
  by_answer n flags (Completed m) true e =
      ap (λ (x : Message). record { about = n; bytes = write x } ∷ []) (first_same m (travelling rules (Got n flags)) e)
  by_answer n flags (Completed m) false e = absurd (cc e)
  by_answer n flags (Refused fault) true e = absurd (cc e)
  by_answer n flags (Refused fault) false e = refl
  by_answer n flags OtherClock true e = absurd (cc e)
  by_answer n flags OtherClock false e = refl
  by_answer n flags Late true e = absurd (cc e)
  by_answer n flags Late false e = refl
  by_answer n flags Early true e = absurd (cc e)
  by_answer n flags Early false e = refl
  by_answer n flags HeaderDiffers true e = absurd (cc e)
  by_answer n flags HeaderDiffers false e = refl
  by_answer n flags MissingReference true e = absurd (cc e)
  by_answer n flags MissingReference false e = refl
  by_answer n flags Repeat true e = absurd (cc e)
  by_answer n flags Repeat false e = refl
  by_answer n flags Overlap true e = absurd (cc e)
  by_answer n flags Overlap false e = refl
  by_answer n flags Taken true e = absurd (cc e)
  by_answer n flags Taken false e = refl

  -- a packet, if there is one
  by_packet : (n : ℕ) (flags : List Bool) (past : List Event) (o : Option (List ℕ)) (b : Bool)
      → option_map_or (λ bytes. answer_says (heard coding.decoding rules (run past) (coding.decoding.read bytes))) o []
      ≡ map (travelling rules) (noted b (Got n flags))
      → option_map_or (λ bytes. said_to write n (heard coding.decoding rules (run past) (coding.decoding.read bytes))) o
      [] ≡ map (told_of write rules) (noted b (Got n flags))
  by_packet n flags past None true e = absurd (cc e)
  by_packet n flags past None false e = refl
  by_packet n flags past (Some bytes) b e =
      by_answer n flags (heard coding.decoding rules (run past) (coding.decoding.read bytes)) b e

  -- a play
  by_play : (played n : ℕ) (offered : Option ℕ) (flags : List Bool) → played ≡ n → (o : Option Message) (b : Bool)
      → option_map_or (λ m. m ∷ []) o []
      ≡ map (travelling rules) (if b then [] else Lost n offered flags ∷ [])
      → option_map_or (λ m. record { about = played; bytes = write m } ∷ []) o []
      ≡ map (told_of write rules) (if b then [] else Lost n offered flags ∷ [])
  by_play played n offered flags same None true e = refl
  by_play played n offered flags same None false e = absurd (cc e)
  by_play played n offered flags same (Some m) true e = absurd (cc e)
  by_play played n offered flags same (Some m) false e =
      let is = first_same m (travelling rules (Lost n offered flags)) e in
      λ i. record { about = same i; bytes = write (is i) } ∷ []

  -- what is new is the note's, where what was said before is
  new_is : (before added : List Message) (notes note : List NumberedMessage)
      → before ≡ map (travelling rules) notes → before ++ added ≡ map (travelling rules) (notes ++ note)
      → added ≡ map (travelling rules) note
  new_is before added notes note first both =
      append_cancel_left (map (travelling rules) notes) added (map (travelling rules) note)
      (ap (λ (l : List Message). l ++ added) (sym first) ∙ both ∙ map-append (travelling rules) notes note)

  both_are : (before added : List SaidMessage) (notes note : List NumberedMessage)
      → before ≡ map (told_of write rules) notes → added ≡ map (told_of write rules) note
      → before ++ added ≡ map (told_of write rules) (notes ++ note)
  both_are before added notes note first second =
      (λ i. first i ++ second i) ∙ sym (map-append (told_of write rules) notes note)

  pub says_the_notes : (past : List Event) → AllMayHappenFrom (pictures_of coding) rules source count past
      → AllSound coding.decoding rules source packets past
      → says_in coding rules source packets past ≡ map (told_of write rules) (call past).said
  says_the_notes [] near sound = refl
  says_the_notes (Send ∷ past) near sound = says_the_notes past near.1 sound.1
  says_the_notes (Back k ∷ past) near sound = says_the_notes past near.1 sound.1
  says_the_notes (Deliver n j ∷ past) near sound =
      let c = call past in
      let more = with_arrival c.arrivals n j in
      let b = delivery_counts rules c n j && is_full c.coded more n in
      let note = noted b (Got n (full_flags rules c.coded more n)) in
      let o = slice_get (packets c.coded n) j in
      both_are (says_in coding rules source packets past) _ c.said note (says_the_notes past near.1 sound.1)
      (by_packet n (full_flags rules c.coded more n) past o b
      (new_is (receiver_said coding.decoding rules source packets past) _ c.said note
      (says source packets count past near.1 sound.1)
      (says source packets count (Deliver n j ∷ past) near sound)))
  says_the_notes (Play ∷ past) near sound =
      let c = call past in
      let offered = newest_full rules c.coded c.arrivals c.played in
      let flags = full_flags rules c.coded c.arrivals c.played in
      let full = is_full c.coded c.arrivals c.played in
      let note = if full then [] else Lost c.played offered flags ∷ [] in
      both_are (says_in coding rules source packets past) _ c.said note (says_the_notes past near.1 sound.1)
      (by_play (run past).played c.played offered flags (follow source packets count past near.1 sound.1).state.played
      (played_message coding.decoding rules (run past)) full
      (new_is (receiver_said coding.decoding rules source packets past) _ c.said note
      (says source packets count past near.1 sound.1)
      (says source packets count (Play ∷ past) near sound)))
