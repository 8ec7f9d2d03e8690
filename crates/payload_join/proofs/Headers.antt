-- Zero bits in a row in the texts of picture headers: at most nine at the end. Before it there may be
-- fifteen, since the
-- first bit is 1.
use Rattle.std.proofs.Common.{◌≡◌, ℕ, ◌≤◌, true, cond, List, [], length, refl, arith}
use Rattle.std.specs.Prelude.{Option, Some, None, ◌==◌}
use Rattle.h263_types.specs.declared.format.Format.{Format}
use Rattle.h263_types.specs.declared.format.Format.TheVariants.{SubQcif, Qcif, Cif}
use Rattle.h263_types.specs.declared.Kind.{Kind}
use Rattle.h263_types.specs.declared.Kind.TheVariants as kinds
use Rattle.h263_types.specs.declared.clock.Clock.{Clock}
use Rattle.h263_types.specs.declared.clock.Clock.TheVariants.{Standard, Custom}
use Rattle.h263_bits.specs.declared.fault.FaultKind.TheVariants as faults
use Rattle.h263_bits.specs.Bits.{spelled}
use Rattle.h263_bits.specs.Syntax.{any, only, done}
use Rattle.back_messages.specs.declared.message.Message.{Message}
use Rattle.back_messages.specs.Text.{message}
use Rattle.picture_header.specs.Text.{allowed_format, allowed_kind, allowed_divisor, allowed_channel, allowed_low, allowed_quant, opening, plus_type, multipoint, extended, reference, extra_turn, extra, bci_room, bci, next_message, messages_after, back_turn, back, channel, header}
use Rattle.payload_join.proofs.Zeros.{zeros, all_below, is_fine}
use Rattle.payload_join.proofs.Kept.{Keeps, turn_to, keeps_done, keeps_any, keeps_tried, keeps_part, keeps_element, keeps_repeat, keeps_either, keeps_chosen, keeps_less}
use Rattle.payload_join.proofs.Messages.{message_keeps}

-- one number alone
start_tried : all_below 64 (is_fine 6 15 (only 32 faults.NoStart) (λ _. 5)) ≡ true
unfolding all_below zeros spelled
start_tried = refl

type_tried : all_below 4 (is_fine 2 13 (only 2 faults.PictureType) (λ _. 1)) ≡ true
unfolding all_below zeros spelled
type_tried = refl

extended_tried : all_below 8 (is_fine 3 4 (only 7 faults.PictureType) (λ _. 0)) ≡ true
unfolding all_below zeros spelled
extended_tried = refl

opening_keeps : Keeps opening 15 (λ _. 0)
unfolding opening
opening_keeps =
    keeps_tried 6 (only 32 faults.NoStart) _ 15 (λ _. 5) (λ _. 0) start_tried (λ start free.
    keeps_any 8 any _ 5 (λ _. 0) (λ tr.
    keeps_tried 2 (only 2 faults.PictureType) _ 13 (λ _. 1) (λ _. 0) type_tried (λ type free.
    keeps_any 3 any _ 1 (λ _. 0) (λ display.
    keeps_tried 3 (only 7 faults.PictureType) _ 4 (λ _. 0) (λ _. 0) extended_tried (λ extended free.
    keeps_done tr 0 (λ _. 0) (omega arith))))))

ufep_tried : all_below 8 (is_fine 3 0 (only 1 faults.Ufep) (λ _. 0)) ≡ true
unfolding all_below zeros spelled
ufep_tried = refl

format_tried : (format : Format) → all_below 8 (is_fine 3 0 (allowed_format format) (λ _. 1)) ≡ true
unfolding all_below zeros spelled
format_tried SubQcif = refl
format_tried Qcif = refl
format_tried Cif = refl

modes_tried : all_below 1024 (is_fine 10 2 (only 24 faults.Modes) (λ _. 3)) ≡ true
unfolding all_below zeros spelled
modes_tried = refl

tail_tried : all_below 16 (is_fine 4 3 (only 8 faults.Marker) (λ _. 3)) ≡ true
unfolding all_below zeros spelled
tail_tried = refl

kind_tried : all_below 8 (is_fine 3 3 allowed_kind (λ _. 6)) ≡ true
unfolding all_below zeros spelled
kind_tried = refl

resampling_tried : all_below 4 (is_fine 2 6 (only 0 faults.Resampling) (λ _. 8)) ≡ true
unfolding all_below zeros spelled
resampling_tried = refl

end_tried : all_below 8 (is_fine 3 9 (only 1 faults.Marker) (λ _. 0)) ≡ true
unfolding all_below zeros spelled
end_tried = refl

plus_type_keeps : (format : Format) → Keeps (plus_type format) 0 (λ _. 0)
unfolding plus_type
plus_type_keeps format =
    keeps_tried 3 (only 1 faults.Ufep) _ 0 (λ _. 0) (λ _. 0) ufep_tried (λ ufep free.
    keeps_tried 3 (allowed_format format) _ 0 (λ _. 1) (λ _. 0) (format_tried format) (λ source free.
    keeps_any 1 any _ 1 (λ _. 0) (λ custom.
    keeps_tried 10 (only 24 faults.Modes) _ 2 (λ _. 3) (λ _. 0) modes_tried (λ modes free.
    keeps_tried 4 (only 8 faults.Marker) _ 3 (λ _. 3) (λ _. 0) tail_tried (λ tail free.
    keeps_tried 3 allowed_kind _ 3 (λ _. 6) (λ _. 0) kind_tried (λ kind free.
    keeps_tried 2 (only 0 faults.Resampling) _ 6 (λ _. 8) (λ _. 0) resampling_tried (λ resampling free.
    keeps_any 1 any _ 8 (λ _. 0) (λ rounding.
    keeps_tried 3 (only 1 faults.Marker) _ 9 (λ _. 0) (λ _. 0) end_tried (λ end free.
    keeps_done _ 0 (λ _. 0) (omega arith))))))))))

cpm_tried : all_below 2 (is_fine 1 0 (only 0 faults.Cpm) (λ _. 1)) ≡ true
unfolding all_below zeros spelled
cpm_tried = refl

multipoint_keeps : Keeps multipoint 0 (λ _. 1)
unfolding multipoint
multipoint_keeps = keeps_tried 1 (only 0 faults.Cpm) _ 0 (λ _. 1) (λ _. 1) cpm_tried
    (λ cpm free. keeps_done tt 1 (λ _. 1) (omega arith))

divisors_tried : all_below 256 (is_fine 8 1 allowed_divisor (λ _. 6)) ≡ true
unfolding all_below zeros spelled
divisors_tried = refl

extended_keeps : (clock : Clock) (tr : ℕ) → Keeps (extended clock tr) 1 (λ _. 8)
unfolding extended
extended_keeps Standard tr = keeps_done tr 1 (λ _. 8) (omega arith)
extended_keeps Custom tr =
    keeps_tried 8 allowed_divisor _ 1 (λ _. 6) (λ _. 8) divisors_tried (λ cpcfc free.
    keeps_any 2 any _ 6 (λ _. 8) (λ etr. keeps_done _ 8 (λ _. 8) (omega arith)))

sss_tried : all_below 4 (is_fine 2 8 (only 0 faults.SliceMode) (λ _. 10)) ≡ true
unfolding all_below zeros spelled
sss_tried = refl

channels_tried : all_below 8 (is_fine 3 10 allowed_channel (λ _. 2)) ≡ true
unfolding all_below zeros spelled
channels_tried = refl

channel_keeps : Keeps channel 8 (λ _. 2)
unfolding channel
channel_keeps =
    keeps_tried 2 (only 0 faults.SliceMode) _ 8 (λ _. 10) (λ _. 2) sss_tried (λ sss free.
    keeps_tried 3 allowed_channel _ 10 (λ _. 2) (λ _. 2) channels_tried (λ rpsmf free.
    keeps_done _ 2 (λ _. 2) (omega arith)))

refers_tried : all_below 2 (is_fine 1 2 (only 1 faults.NoReference) (λ _. 0)) ≡ true
unfolding all_below zeros spelled
refers_tried = refl

reference_keeps : (clock : Clock) (kind : Kind) → Keeps (reference clock kind) 2 (λ _. 10)
unfolding reference
reference_keeps clock kinds.I = keeps_any 1 (only 0 faults.IntraReference) _ 2 (λ _. 10)
    (λ refers. keeps_done None 3 (λ _. 10) (omega arith))
reference_keeps clock kinds.P =
    keeps_tried 1 (only 1 faults.NoReference) _ 2 (λ _. 0) (λ _. 10) refers_tried (λ refers free.
    keeps_any 10 (allowed_low clock) _ 0 (λ _. 10) (λ trp. keeps_done _ 10 (λ _. 10) (omega arith)))

-- BCI 1, or 0 and then 1
more_tried : all_below 2 (is_fine 1 10 any (λ more. cond (more == 0) 11 0)) ≡ true
unfolding all_below zeros spelled
more_tried = refl

one_tried : all_below 2 (is_fine 1 11 (only 1 faults.Bci) (λ _. 0)) ≡ true
unfolding all_below zeros spelled
one_tried = refl

bci_keeps : Keeps bci 10 (λ _. 0)
unfolding bci
bci_keeps =
    keeps_tried 1 any _ 10 (λ more. cond (more == 0) 11 0) (λ _. 0) more_tried (λ more free.
    keeps_chosen (more == 0) _ (done 1) 11 0 (λ _. 0)
    (keeps_tried 1 (only 1 faults.Bci) _ 11 (λ _. 0) (λ _. 0) one_tried (λ end free. keeps_done 0 0 (λ _. 0)
    (omega arith)))
    (keeps_done 1 0 (λ _. 0) (omega arith)))

-- a message, or the end
abbrev after_next_bit : Option Message → ℕ
after_next_bit None = 0
after_next_bit (Some m) = 10

next_keeps : (clock : Clock) (used : ℕ) → Keeps (next_message clock used) 10 after_next_bit
unfolding next_message
next_keeps clock used =
    keeps_element bci (bci_room used) _ 10 (λ _. 0) after_next_bit bci_keeps (λ more.
    keeps_either (more == 0) (done None) _ 0 after_next_bit (keeps_done None 0 after_next_bit (omega arith))
    (keeps_part (message clock) any _ 0 (λ _. 10) after_next_bit (message_keeps clock)
    (λ m. keeps_done (Some m) 10 after_next_bit (omega arith))))

next_left : (messages : List Message) (next : Option Message)
    → after_next_bit next ≤ turn_to 10 (λ _. 0) (messages_after messages next)
next_left messages None = omega arith
next_left messages (Some m) = omega arith

back_turn_keeps : (clock : Clock) (messages : List Message) → Keeps (back_turn clock messages) 10 (turn_to 10 (λ _. 0))
unfolding back_turn
back_turn_keeps clock messages =
    keeps_part (next_message clock (length messages)) any _ 10 after_next_bit (turn_to 10 (λ _. 0))
    (next_keeps clock (length messages)) (λ next.
    keeps_done (messages_after messages next) (after_next_bit next) (turn_to 10 (λ _. 0)) (next_left messages next))

back_keeps : (clock : Clock) → Keeps (back clock) 10 (λ _. 0)
unfolding back
back_keeps clock = keeps_repeat [] (back_turn clock) 10 (λ _. 0) (back_turn_keeps clock)

quants_tried : all_below 32 (is_fine 5 0 allowed_quant (λ _. 4)) ≡ true
unfolding all_below zeros spelled
quants_tried = refl

pei_tried : all_below 2 (is_fine 1 8 any (λ pei. cond (pei == 0) 9 0)) ≡ true
unfolding all_below zeros spelled
pei_tried = refl

extra_turn_keeps : (u : Unit {0}) → Keeps (extra_turn u) 8 (turn_to 8 (λ _. 9))
unfolding extra_turn
extra_turn_keeps u =
    keeps_tried 1 any _ 8 (λ pei. cond (pei == 0) 9 0) (turn_to 8 (λ _. 9)) pei_tried (λ pei free.
    keeps_chosen (pei == 0) _ _ 9 0 (turn_to 8 (λ _. 9))
    (keeps_done _ 9 (turn_to 8 (λ _. 9)) (omega arith))
    (keeps_any 8 any _ 0 (turn_to 8 (λ _. 9)) (λ psupp. keeps_done _ 8 (turn_to 8 (λ _. 9)) (omega arith))))

extra_keeps : Keeps extra 8 (λ _. 9)
unfolding extra
extra_keeps = keeps_repeat tt extra_turn 8 (λ _. 9) extra_turn_keeps

pub header_keeps : (format : Format) → Keeps (header format) 15 (λ _. 9)
unfolding header
header_keeps format =
    keeps_part opening any _ 15 (λ _. 0) (λ _. 9) opening_keeps (λ low.
    keeps_part (plus_type format) any _ 0 (λ _. 0) (λ _. 9) (plus_type_keeps format) (λ type.
    keeps_part multipoint any _ 0 (λ _. 1) (λ _. 9) multipoint_keeps (λ cpm.
    keeps_part (extended type.0 low) any _ 1 (λ _. 8) (λ _. 9) (extended_keeps type.0 low) (λ tr.
    keeps_part channel any _ 8 (λ _. 2) (λ _. 9) channel_keeps (λ channel.
    keeps_part (reference type.0 type.1) any _ 2 (λ _. 10) (λ _. 9) (reference_keeps type.0 type.1) (λ trp.
    keeps_part (back type.0) any _ 10 (λ _. 0) (λ _. 9) (back_keeps type.0) (λ messages.
    keeps_tried 5 allowed_quant _ 0 (λ _. 4) (λ _. 9) quants_tried (λ quant free.
    keeps_less _ 4 8 (λ _. 9) (omega arith)
    (keeps_part extra any _ 8 (λ _. 9) (λ _. 9) extra_keeps (λ end. keeps_done _ 9 (λ _. 9) (omega arith)))))))))))
