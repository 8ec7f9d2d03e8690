-- Each turn of a repeated part takes bits.
use Rattle.std.proofs.Common.{◌≡◌, ℕ, ◌<◌, List, [], ◌∷◌, ◌++◌, length, Option, Some, None, Ok, Err, refl, arith}
use Rattle.std.specs.Prelude.{◌==◌}
use Rattle.std.proofs.Math.ListN.{set}
use Rattle.h263_bits.specs.Syntax.{LoopTurn, again, finally, done, field, part, any, only, reading, Spells, IsProductive}
use Rattle.h263_bits.specs.declared.fault.Fault.{Fault}
use Rattle.h263_bits.specs.declared.fault.FaultKind.TheVariants as faults
use Rattle.h263_bits.specs.Reading.{Bits}
use Rattle.h263_types.specs.declared.format.Format.{Format}
use Rattle.h263_types.specs.declared.Kind.{Kind}
use Rattle.h263_types.specs.declared.Kind.TheVariants as kinds
use Rattle.back_messages.specs.declared.message.Message.{Message}
use Rattle.back_messages.specs.Text.{message}
use Rattle.back_messages.specs.Laws.{MessageLaws}
use Rattle.h263_types.specs.declared.clock.Clock.{Clock}
use Rattle.h263_types.specs.declared.clock.Clock.TheVariants.{Standard, Custom}
use Rattle.h263_bits.proofs.SyntaxLaws.{field_some, element_some, part_some, either_productive}
use Rattle.picture_header.specs.Text.{extra_turn, extra, bci_room, bci, next_message, messages_after, back_turn, back, in_places, opening, plus_type, multipoint, extended, channel, reference, header}

pub extra_some : (t u : Unit {0}) → Spells (extra_turn t) (again u) [] → ⊥
unfolding extra_turn
extra_some t u h = field_some 0 any _ _ h

extra_turn_productive : (t : Unit {0}) → IsProductive (extra_turn t)
unfolding extra_turn IsProductive
extra_turn_productive t v = either_productive (v == 0) (done (finally tt)) (field 8 any (λ psupp. done (again tt))) end
    (λ w. end_again)
  where
    end : IsProductive (done {A = LoopTurn (Unit {0}) (Unit {0})} (finally tt))
    end = tt

    end_again : IsProductive (done {A = LoopTurn (Unit {0}) (Unit {0})} (again tt))
    end_again = tt

pub extra_productive : IsProductive extra
unfolding extra IsProductive
extra_productive = (extra_some, extra_turn_productive)

-- ---- messages

bci_some : (x : ℕ) → Spells bci x [] → ⊥
unfolding bci
bci_some x h = field_some 0 any _ x h

next_some : (clock : Clock) (used : ℕ) (x : Option Message) → Spells (next_message clock used) x [] → ⊥
unfolding next_message
next_some clock used x h = element_some bci (bci_room used) _ x bci_some h

pub back_some : (clock : Clock) (t u : List Message) → Spells (back_turn clock t) (again u) [] → ⊥
unfolding back_turn
back_some clock t u h = part_some (next_message clock (length t)) any (λ next. done (messages_after t next)) (again u)
    (next_some clock (length t)) h

pub back_more : (clock : Clock) (ms : List Message) (used : ℕ) (m : Message) (b c : Bits) → length ms ≡ used
    → reading (next_message clock used) b ≡ Ok (Some m, c) → reading (back_turn clock ms) b
    ≡ Ok (again (ms ++ m ∷ []), c)
unfolding reading back_turn
back_more clock ms used m b c len e = rw (len, e) refl

pub back_end : (clock : Clock) (ms : List Message) (used : ℕ) (b c : Bits) → length ms ≡ used
    → reading (next_message clock used) b ≡ Ok (None, c) → reading (back_turn clock ms) b ≡ Ok (finally ms, c)
unfolding reading back_turn
back_end clock ms used b c len e = rw (len, e) refl

pub back_fault : (clock : Clock) (ms : List Message) (used : ℕ) (f : Fault) (b : Bits) → length ms ≡ used
    → reading (next_message clock used) b ≡ Err f → reading (back_turn clock ms) b ≡ Err f
unfolding reading back_turn
back_fault clock ms used f b len e = rw (len, e) refl

pub places-push : (ms : List Message) (m : Message) → length ms < 4 → set (in_places ms) (length ms) (Some m)
    ≡ in_places (ms ++ m ∷ [])
places-push [] m h = refl
places-push (a ∷ []) m h = refl
places-push (a ∷ b ∷ []) m h = refl
places-push (a ∷ b ∷ c ∷ []) m h = refl
places-push (a ∷ b ∷ c ∷ d ∷ ms) m h = absurd (omega arith)

-- ---- the whole header

pub bci_productive : IsProductive bci
unfolding bci IsProductive
bci_productive v = either_productive (v == 0) (field 1 (only 1 faults.Bci) (λ end. done 0)) (done 1) (λ w. one 0)
    (one 1)
  where
    one : (n : ℕ) → IsProductive (done n)
    one n = tt

pub next_productive : MessageLaws → (clock : Clock) (used : ℕ) → IsProductive (next_message clock used)
unfolding next_message IsProductive
next_productive laws clock used = (
  bci_productive,
  λ v. either_productive (v == 0) (done None) (part (message clock) any (λ m. done (Some m))) nothing
      (laws.productive clock, one),
)
  where
    nothing : IsProductive (done {A = Option Message} None)
    nothing = tt

    one : (m : Message) → IsProductive (done (Some m))
    one m = tt

pub back_productive : MessageLaws → (clock : Clock) → IsProductive (back clock)
unfolding back back_turn IsProductive
back_productive laws clock = (back_some clock, λ t. (next_productive laws clock (length t), λ next. tt))

pub extended_productive : (clock : Clock) (tr : ℕ) → IsProductive (extended clock tr)
unfolding extended IsProductive
extended_productive Standard tr = tt
extended_productive Custom tr = λ cpcfc etr. tt

pub reference_productive : (clock : Clock) (kind : Kind) → IsProductive (reference clock kind)
unfolding reference IsProductive
reference_productive clock kinds.I = λ v. tt
reference_productive clock kinds.P = λ v w. tt

pub simple_productive : (format : Format) → IsProductive opening × IsProductive (plus_type format)
    × IsProductive multipoint × IsProductive channel
unfolding opening plus_type multipoint channel IsProductive
simple_productive format = (λ a b c d e. tt, λ a b c d e f g h i. tt, λ a. tt, λ a b. tt)

-- each part of a header that is repeated takes a bit at least
pub header_productive : MessageLaws → (format : Format) → IsProductive (header format)
unfolding header IsProductive
header_productive laws format =
    let simple = simple_productive format in (
      simple.0,
      λ low. (
        simple.1,
        λ type. (
          simple.2,
          λ cpm. (
            extended_productive type.0 low,
            λ tr. (
              simple.3,
              λ channel. (
                reference_productive type.0 type.1,
                λ trp. (
                  back_productive laws type.0,
                  λ messages quant. (extra_productive, λ end. tt),
                ),
              ),
            ),
          ),
        ),
      ),
    )
