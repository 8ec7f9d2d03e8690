-- Places that are read one after the other.
use Rattle.std.proofs.Common.{◌≡◌, ℕ, ◌+◌, ◌<◌, List, [], ◌∷◌, ◌++◌, Option, Some, None, refl, sym, ap, ◌∙◌, subst, append_assoc, length, take, drop, get_or, set}
use Rattle.std.proofs.lemmas.List.{drop_more, take_more_set}
use Rattle.h263_types.specs.declared.clock.Clock.{Clock}
use Rattle.back_messages.specs.declared.message.Message.{Message}
use Rattle.back_messages.specs.Text.{IsMessage}
use Rattle.picture_header.specs.Ranges.{AreMessages}
use Rattle.h263rps_c.specs.declared.answers.CMessage.{CMessage}
use Rattle.h263rps_c.specs.declared.messages.Place.{Place}
use Rattle.h263rps_c.specs.declared.messages.Place.TheVariants.{Empty, Says, Wrong}
use Rattle.h263rps_c.specs.Messages.{messages_of, said_place, messages_with_place}

-- these messages, and then the others, if they are messages
abbrev pub after : List Message → Option (List Message) → Option (List Message)
after ms None = None
after ms (Some others) = Some (ms ++ others)

one_more : (ms : List Message) (m : Message) (others : Option (List Message))
    → after ms (messages_with_place (Says m) others)
    ≡ after (ms ++ m ∷ []) others
one_more ms m None = refl
one_more ms m (Some others) = ap Some (sym (append_assoc ms (m ∷ []) others))

-- from a place on: what is there, and then the rest
from_place : (clock : Clock) (back : List CMessage) (i : ℕ) (d : CMessage) (p : Place) → i < length back
    → p ≡ said_place clock (get_or back i d)
    → messages_of clock (drop i back) ≡ messages_with_place p (messages_of clock (drop (i + 1) back))
from_place clock back i d p lt is =
    ap (messages_of clock) (drop_more back i d lt)
    ∙ ap (λ (q : Place). messages_with_place q (messages_of clock (drop (i + 1) back))) (sym is)

-- a message
pub next_message : (clock : Clock) (back : List CMessage) (places : List Message) (i c : ℕ) (d : CMessage) (m : Message)
    (v : Option (List Message))
    → i < length back → c < length places → Says m ≡ said_place clock (get_or back i d)
    → v ≡ after (take c places) (messages_of clock (drop i back))
    → v ≡ after (take (c + 1) (set places c m)) (messages_of clock (drop (i + 1) back))
next_message clock back places i c d m v lt room is before =
    let rest = messages_of clock (drop (i + 1) back) in
    before ∙ ap (after (take c places)) (from_place clock back i d (Says m) lt is)
    ∙ one_more (take c places) m rest ∙ ap (λ (ms : List Message). after ms rest) (sym (take_more_set places c m room))

-- an empty place
pub no_place : (clock : Clock) (back : List CMessage) (before : List Message) (i : ℕ) (d : CMessage)
    (v : Option (List Message))
    → i < length back → Empty ≡ said_place clock (get_or back i d)
    → v ≡ after before (messages_of clock (drop i back))
    → v ≡ after before (messages_of clock (drop (i + 1) back))
no_place clock back ms i d v lt is before = before ∙ ap (after ms) (from_place clock back i d Empty lt is)

-- what is no message
pub no_message : (clock : Clock) (back : List CMessage) (before : List Message) (i : ℕ) (d : CMessage)
    (v : Option (List Message))
    → i < length back → Wrong ≡ said_place clock (get_or back i d)
    → v ≡ after before (messages_of clock (drop i back)) → None ≡ v
no_message clock back ms i d v lt is before =
    sym (before ∙ ap (after ms) (from_place clock back i d Wrong lt is))

are_more : (clock : Clock) (ms : List Message) (m : Message) → AreMessages clock ms → IsMessage clock m
    → AreMessages clock (ms ++ m ∷ [])
are_more clock [] m each is = (is, tt)
are_more clock (x ∷ ms) m each is = (each.0, are_more clock ms m each.1 is)

pub next_in_range : (clock : Clock) (places : List Message) (c : ℕ) (m : Message) → c < length places
    → AreMessages clock (take c places) → IsMessage clock m → AreMessages clock (take (c + 1) (set places c m))
next_in_range clock places c m room each is =
    subst (AreMessages clock) (sym (take_more_set places c m room)) (are_more clock (take c places) m each is)
