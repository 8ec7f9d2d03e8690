-- A packet is considered: its answer, what stands then, and what is left.
use Rattle.std.proofs.Common.{◌≡◌, ℕ, ◌%◌, ◌<◌, true, false, List, [], ◌∷◌, length, get_or, Option, Some, None, Ok, Err, refl, sym, ap, subst, ◌∙◌, arith}
use Rattle.std.specs.Prelude.{replicate}
use Rattle.std.proofs.lemmas.List.{get_or-replicate}
use Rattle.h263_bits.specs.declared.fault.Fault.{Fault}
use Rattle.h263_types.specs.declared.format.Format.{Format}
use Rattle.payload_join.specs.declared.took.Took.{Took}
use Rattle.payload_join.specs.declared.took.Took.TheVariants as tooks
use Rattle.payload_join.specs.Packet.{Packet, packet_in}
use Rattle.payload_join.specs.Unit.{held_packet}
use Rattle.payload_join.specs.Run.{JoinedSoFar, joined_number, took_as, took, is_held, held_after_as, held_after, given_as, given, joined_by, took_next, given_next}
use Rattle.payload_join.specs.Places.{packet_judged, top_after, holding_at, Shows}
use Rattle.payload_join.specs.Units.{HasMade}
use Rattle.payload_join.specs.Joining.{Joining}
use Rattle.payload_join.proofs.AnyOrder.{no_some}
use Rattle.payload_join.proofs.Windows.{is_window, judged_is, holds}
use Rattle.payload_join.proofs.Taken.{goes_out}

-- a ring that is empty
pub shows_nothing : (top : Option ℕ) (packets : List (Option Packet)) → top ≡ None → packets ≡ replicate 64 None
    → Shows top packets (joined_by [])
unfolding joined_by held_packet
shows_nothing top packets e f =
    record {
      top_is = e;
      packet = λ t n g le lt. absurd (no_some t g);
      nothing = λ g n. let nothing : Option Packet = None in ap (λ (l : List (Option Packet)). get_or l (n % 64) None) f
          ∙ get_or-replicate 64 (n % 64) nothing nothing (omega arith);
    }

-- ---- a packet that can't be read

pub refused_stands : (top : Option ℕ) (packets : List (Option Packet)) (past : List (List ℕ)) (bytes : List ℕ)
    (fault : Fault) → Err fault ≡ packet_in bytes → Shows top packets (joined_by past)
    → Shows top packets (joined_by (bytes ∷ past))
unfolding joined_by
refused_stands top packets past bytes fault e shows = subst (Shows top packets) (ap (held_after (joined_by past)) e)
    shows

-- ---- one that can

after_not : (s : JoinedSoFar) (p : Packet) (t : Took) → is_held t ≡ false → s ≡ held_after_as s p t
after_not s p tooks.Held e = absurd cc
after_not s p tooks.Old e = refl
after_not s p tooks.Again e = refl
after_not s p (tooks.Refused fault) e = refl

given_not : (format : Format) (s : JoinedSoFar) (p : Packet) (t : Took) → is_held t ≡ false → [] ≡ given_as format s p t
given_not format s p tooks.Held e = absurd cc
given_not format s p tooks.Old e = refl
given_not format s p tooks.Again e = refl
given_not format s p (tooks.Refused fault) e = refl

held_as : (t : Took) → is_held t ≡ true → t ≡ tooks.Held
held_as tooks.Held e = refl
held_as tooks.Old e = absurd cc
held_as tooks.Again e = absurd cc
held_as (tooks.Refused fault) e = absurd cc

-- a packet that was read, whose answer the code found
pub record IsConsidered (top : Option ℕ) (packets : List (Option Packet)) (bytes : List ℕ) (p : Packet)
    (t : Took) : Type 0 where
  pub read : packet_in bytes ≡ Ok p
  pub small : p.sequence < 65536
  pub many : length packets ≡ 64
  pub answer : t ≡ packet_judged top packets p.sequence

pub considered : (v j : Joining) (bytes : List ℕ) (p : Packet) (t : Took) → v ≡ j → packet_in bytes ≡ Ok p
    → p.sequence < 65536 → t ≡ packet_judged v.top v.packets p.sequence → length v.packets ≡ 64
    → IsConsidered j.top j.packets bytes p t
considered v j bytes p t view read small answer many = record {
  read = read;
  small = small;
  many = ap (λ (k : Joining). length k.packets) (sym view) ∙ many;
  answer = answer ∙ ap (λ (k : Joining). packet_judged k.top k.packets p.sequence) view;
}

module _ (top : Option ℕ) (packets : List (Option Packet)) (bytes : List ℕ) (p : Packet) (t : Took)
    (c : IsConsidered top packets bytes p t) (past : List (List ℕ)) (shows : Shows top packets (joined_by past)) where
  as_is : t ≡ took (joined_by past) (Ok p)
  as_is = c.answer ∙ judged_is top packets (joined_by past) p.sequence shows (is_window past) c.small

  pub answered : t ≡ took_next past bytes
  answered = as_is ∙ ap (took (joined_by past)) (sym c.read)

  after_is : held_after_as (joined_by past) p t ≡ held_after (joined_by past) (packet_in bytes)
  after_is = ap (held_after_as (joined_by past) p) as_is ∙ ap (held_after (joined_by past)) (sym c.read)

  given_is : (format : Format) → given_as format (joined_by past) p t ≡ given_next format past bytes
  given_is format = ap (given_as format (joined_by past) p) as_is ∙ ap (given format (joined_by past)) (sym c.read)

  pub not_stands : is_held t ≡ false → Shows top packets (joined_by (bytes ∷ past))
  unfolding joined_by
  not_stands e = subst (Shows top packets) (after_not (joined_by past) p t e ∙ after_is) shows

  pub not_left : (format : Format) → is_held t ≡ false → [] ≡ given_next format past bytes
  not_left format e = given_not format (joined_by past) p t e ∙ given_is format

  is_taken : is_held t ≡ true → took_as (joined_by past) (joined_number (joined_by past).top p.sequence) ≡ tooks.Held
  is_taken e = sym as_is ∙ held_as t e

  pub held_stands : is_held t ≡ true → Shows (Some (top_after top p.sequence)) (holding_at top packets p.sequence p)
      (joined_by (bytes ∷ past))
  unfolding joined_by
  held_stands e =
      subst (Shows (Some (top_after top p.sequence)) (holding_at top packets p.sequence p))
      (sym (ap (held_after_as (joined_by past) p) (held_as t e)) ∙ after_is)
      (holds top packets (joined_by past) p.sequence p shows (is_window past) c.small c.many (is_taken e))

  pub held_left : (format : Format) (left : List (List ℕ)) → is_held t ≡ true
      → HasMade format top p.sequence (holding_at top packets p.sequence p) left → left ≡ given_next format past bytes
  held_left format left e m =
      m.left_is
      ∙ goes_out format top packets (joined_by past) p.sequence p m.first m.second shows (is_window past) c.small c.many
      (is_taken e) m.first_is m.second_is
      ∙ sym (ap (given_as format (joined_by past) p) (held_as t e)) ∙ given_is format
