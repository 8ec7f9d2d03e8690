-- The rows of the table of faults, each by the fields before it.
use Rattle.std.proofs.Common.{◌≡◌, ℕ, ◌+◌, ◌^◌, ◌<◌, ◌≤◌, Bool, true, false, eqb, ltb, refl, sym, subst, arith, List, [], ◌∷◌, ◌++◌, length, Option, Some, None}
use Rattle.std.proofs.lemmas.Bool.{lt-ltb, le-ltb, le-leb, ne_eqb}
use Rattle.std.proofs.lemmas.List.{append-nil}
use Rattle.h263_types.specs.declared.format.Format.{Format}
use Rattle.h263_types.specs.declared.format.Format.TheVariants.{SubQcif, Qcif, Cif}
use Rattle.h263_types.specs.declared.Kind.{Kind}
use Rattle.h263_types.specs.declared.Kind.TheVariants as kinds
use Rattle.h263_types.specs.declared.clock.Clock.{Clock}
use Rattle.h263_types.specs.declared.clock.Clock.TheVariants.{Custom}
use Rattle.h263_types.specs.Clocks.{period_of}
use Rattle.h263_bits.specs.declared.fault.FaultKind.{FaultKind}
use Rattle.h263_bits.specs.declared.fault.FaultKind.TheVariants as faults
use Rattle.h263_bits.specs.Bits.{spelled, fields}
use Rattle.h263_bits.specs.Syntax.{Syntax, Spells, IsProductive, any, only, done, field, part, either, again, repeat}
use Rattle.h263_bits.specs.Elements.{HasFault}
use Rattle.h263_bits.proofs.SyntaxLaws.{first_fault_is, only_other, fault_here, fault_after_field, fault_in_part, fault_after_part, fault_in_element, fault_of_element, fault_after_element, fault_in_turn, fault_after_turn, spells_field, spells_done}
use Rattle.back_messages.specs.declared.message.Message.{Message}
use Rattle.back_messages.specs.declared.message.MessageFault.{MessageFault}
use Rattle.back_messages.specs.Text.{message_fault, message_value, is_long, has_markers, allowed_message, allowed_markers, flags, message}
use Rattle.back_messages.specs.Laws.{MessageLaws}
use Rattle.picture_header.specs.Text.{format_code, allowed_format, allowed_kind, allowed_divisor, allowed_channel, allowed_low, allowed_quant, opening, plus_type, multipoint, extended, channel, reference, bci_room, bci, next_message, back_turn, back, header}
use Rattle.picture_header.specs.Faults.{OpeningFaults, PlusTypeFaults, MiddleFaults, MessageFaults, PartFaults, HeaderFaults}
use Rattle.picture_header.proofs.Loops.{simple_productive, extended_productive, reference_productive, bci_productive, next_productive, back_some, back_productive, header_productive}

-- ---- the rest of the start code, TR and PTYPE

opening_start : (n : ℕ) → n < 64 → (n ≡ 32 → ⊥) → HasFault opening (fields ((6, n) ∷ [])) faults.NoStart 0
unfolding opening
opening_start n lt other = fault_here 6 (only 32 faults.NoStart) _ n [] faults.NoStart lt
    (only_other 32 n faults.NoStart other)

opening_type : (tr n : ℕ) → tr < 256 → n < 4 → (n ≡ 2 → ⊥)
    → HasFault opening (fields ((6, 32) ∷ (8, tr) ∷ (2, n) ∷ [])) faults.PictureType 14
unfolding opening
opening_type tr n t lt other =
    fault_after_field 6 (only 32 faults.NoStart) _ 32 (fields ((8, tr) ∷ (2, n) ∷ [])) faults.PictureType 8
    (omega arith) refl
    (fault_after_field 8 any _ tr (fields ((2, n) ∷ [])) faults.PictureType 0 t refl
    (fault_here 2 (only 2 faults.PictureType) _ n [] faults.PictureType lt (only_other 2 n faults.PictureType other)))

opening_extended : (tr shown n : ℕ) → tr < 256 → shown < 8 → n < 8 → (n ≡ 7 → ⊥)
    → HasFault opening (fields ((6, 32) ∷ (8, tr) ∷ (2, 2) ∷ (3, shown) ∷ (3, n) ∷ [])) faults.PictureType 19
unfolding opening
opening_extended tr shown n t s lt other =
    fault_after_field 6 (only 32 faults.NoStart) _ 32 (fields ((8, tr) ∷ (2, 2) ∷ (3, shown) ∷ (3, n) ∷ []))
    faults.PictureType 13 (omega arith) refl
    (fault_after_field 8 any _ tr (fields ((2, 2) ∷ (3, shown) ∷ (3, n) ∷ [])) faults.PictureType 5 t refl
    (fault_after_field 2 (only 2 faults.PictureType) _ 2 (fields ((3, shown) ∷ (3, n) ∷ [])) faults.PictureType 3
    (omega arith) refl
    (fault_after_field 3 any _ shown (fields ((3, n) ∷ [])) faults.PictureType 0 s refl
    (fault_here 3 (only 7 faults.PictureType) _ n [] faults.PictureType lt (only_other 7 n faults.PictureType other)))))

opening_faults : OpeningFaults
opening_faults = record { start = opening_start; type = opening_type; extended = opening_extended }

-- ---- PLUSPTYPE

-- the number of the expected source format is read
same_format : (format : Format) → allowed_format format (format_code format) ≡ None
same_format SubQcif = refl
same_format Qcif = refl
same_format Cif = refl

format_small : (format : Format) → format_code format < 8
format_small SubQcif = omega arith
format_small Qcif = omega arith
format_small Cif = omega arith

other_format : (format other : Format) → (other ≡ format → ⊥) → allowed_format format (format_code other)
    ≡ Some faults.OtherFormat
other_format SubQcif SubQcif other = absurd (other refl)
other_format SubQcif Qcif other = refl
other_format SubQcif Cif other = refl
other_format Qcif SubQcif other = refl
other_format Qcif Qcif other = absurd (other refl)
other_format Qcif Cif other = refl
other_format Cif SubQcif other = refl
other_format Cif Qcif other = refl
other_format Cif Cif other = absurd (other refl)

no_format : (format : Format) → allowed_format format 0 ≡ Some faults.SourceFormat
no_format SubQcif = refl
no_format Qcif = refl
no_format Cif = refl

code_small : (format : Format) → format_code format < 4
code_small SubQcif = omega arith
code_small Qcif = omega arith
code_small Cif = omega arith

high_format : (format : Format) (n : ℕ) → 4 ≤ n → allowed_format format n ≡ Some faults.SourceFormat
high_format format n le =
    let small = code_small format in
    let other : eqb n (format_code format) ≡ false = ne_eqb n (format_code format) (λ e. omega (arith, e, small, le)) in
    let some : ltb 0 n ≡ true = lt-ltb 0 n (omega arith) in
    rw (other, some, le-ltb n 4 le) refl

low_kind : (n : ℕ) → n < 2 → allowed_kind n ≡ None
low_kind n lt = rw (lt-ltb n 2 lt) refl

high_kind : (n : ℕ) → 2 ≤ n → allowed_kind n ≡ Some faults.PictureKind
high_kind n le = rw (le-ltb n 2 le) refl

type_ufep : (format : Format) (n : ℕ) → n < 8 → (n ≡ 1 → ⊥)
    → HasFault (plus_type format) (fields ((3, n) ∷ [])) faults.Ufep 0
unfolding plus_type
type_ufep format n lt other =
    fault_here 3 (only 1 faults.Ufep) _ n [] faults.Ufep lt (only_other 1 n faults.Ufep other)

type_no_source : (format : Format) → HasFault (plus_type format) (fields ((3, 1) ∷ (3, 0) ∷ [])) faults.SourceFormat 3
unfolding plus_type
type_no_source format =
    fault_after_field 3 (only 1 faults.Ufep) _ 1 (fields ((3, 0) ∷ [])) faults.SourceFormat 0 (omega arith) refl
    (fault_here 3 (allowed_format format) _ 0 [] faults.SourceFormat (omega arith) (no_format format))

type_high_source : (format : Format) (n : ℕ) → 4 ≤ n → n < 8
    → HasFault (plus_type format) (fields ((3, 1) ∷ (3, n) ∷ [])) faults.SourceFormat 3
unfolding plus_type
type_high_source format n le lt =
    fault_after_field 3 (only 1 faults.Ufep) _ 1 (fields ((3, n) ∷ [])) faults.SourceFormat 0 (omega arith) refl
    (fault_here 3 (allowed_format format) _ n [] faults.SourceFormat lt (high_format format n le))

type_other_source : (format other : Format) → (other ≡ format → ⊥)
    → HasFault (plus_type format) (fields ((3, 1) ∷ (3, (format_code other)) ∷ [])) faults.OtherFormat 3
unfolding plus_type
type_other_source format other unlike =
    fault_after_field 3 (only 1 faults.Ufep) _ 1 (fields ((3, (format_code other)) ∷ [])) faults.OtherFormat 0
    (omega arith) refl
    (fault_here 3 (allowed_format format) _ (format_code other) [] faults.OtherFormat (format_small other)
    (other_format format other unlike))

type_modes : (format : Format) (clock n : ℕ) → clock < 2 → n < 1024 → (n ≡ 24 → ⊥)
    → HasFault (plus_type format) (fields ((3, 1) ∷ (3, (format_code format)) ∷ (1, clock) ∷ (10, n) ∷ [])) faults.Modes
    7
unfolding plus_type
type_modes format clock n c lt other =
    fault_after_field 3 (only 1 faults.Ufep) _ 1 (fields ((3, (format_code format)) ∷ (1, clock) ∷ (10, n) ∷ []))
    faults.Modes 4 (omega arith) refl
    (fault_after_field 3 (allowed_format format) _ (format_code format) (fields ((1, clock) ∷ (10, n) ∷ []))
    faults.Modes 1 (format_small format) (same_format format)
    (fault_after_field 1 any _ clock (fields ((10, n) ∷ [])) faults.Modes 0 c refl
    (fault_here 10 (only 24 faults.Modes) _ n [] faults.Modes lt (only_other 24 n faults.Modes other))))

type_tail : (format : Format) (clock n : ℕ) → clock < 2 → n < 16 → (n ≡ 8 → ⊥)
    → HasFault (plus_type format) (fields ((3, 1) ∷ (3, (format_code format)) ∷ (1, clock) ∷ (10, 24) ∷ (4, n) ∷ []))
    faults.Marker 17
unfolding plus_type
type_tail format clock n c lt other =
    fault_after_field 3 (only 1 faults.Ufep) _ 1 (fields ((3, (format_code format)) ∷ (1, clock) ∷ (10, 24) ∷ (
      4,
      n,
    ) ∷ [])) faults.Marker 14 (omega arith) refl
    (fault_after_field 3 (allowed_format format) _ (format_code format) (fields ((1, clock) ∷ (10, 24) ∷ (4, n) ∷ []))
    faults.Marker 11 (format_small format) (same_format format)
    (fault_after_field 1 any _ clock (fields ((10, 24) ∷ (4, n) ∷ [])) faults.Marker 10 c refl
    (fault_after_field 10 (only 24 faults.Modes) _ 24 (fields ((4, n) ∷ [])) faults.Marker 0 (omega arith) refl
    (fault_here 4 (only 8 faults.Marker) _ n [] faults.Marker lt (only_other 8 n faults.Marker other)))))

type_kind : (format : Format) (clock n : ℕ) → clock < 2 → 2 ≤ n → n < 8
    → HasFault (plus_type format) (fields ((3, 1) ∷ (3, (format_code format)) ∷ (1, clock) ∷ (10, 24) ∷ (4, 8) ∷ (
      3,
      n,
    ) ∷ [])) faults.PictureKind 21
unfolding plus_type
type_kind format clock n c le lt =
    fault_after_field 3 (only 1 faults.Ufep) _ 1 (fields ((3, (format_code format)) ∷ (1, clock) ∷ (10, 24) ∷ (
      4,
      8,
    ) ∷ (3, n) ∷ [])) faults.PictureKind 18 (omega arith) refl
    (fault_after_field 3 (allowed_format format) _ (format_code format)
    (fields ((1, clock) ∷ (10, 24) ∷ (4, 8) ∷ (3, n) ∷ [])) faults.PictureKind 15 (format_small format)
    (same_format format)
    (fault_after_field 1 any _ clock (fields ((10, 24) ∷ (4, 8) ∷ (3, n) ∷ [])) faults.PictureKind 14 c refl
    (fault_after_field 10 (only 24 faults.Modes) _ 24 (fields ((4, 8) ∷ (3, n) ∷ [])) faults.PictureKind 4 (omega arith)
    refl
    (fault_after_field 4 (only 8 faults.Marker) _ 8 (fields ((3, n) ∷ [])) faults.PictureKind 0 (omega arith) refl
    (fault_here 3 allowed_kind _ n [] faults.PictureKind lt (high_kind n le))))))

type_resampling : (format : Format) (clock kind n : ℕ) → clock < 2 → kind < 2 → n < 4 → (n ≡ 0 → ⊥)
    → HasFault (plus_type format) (fields ((3, 1) ∷ (3, (format_code format)) ∷ (1, clock) ∷ (10, 24) ∷ (4, 8) ∷ (
      3,
      kind,
    ) ∷ (2, n) ∷ [])) faults.Resampling 24
unfolding plus_type
type_resampling format clock kind n c k lt other =
    fault_after_field 3 (only 1 faults.Ufep) _ 1 (fields ((3, (format_code format)) ∷ (1, clock) ∷ (10, 24) ∷ (
      4,
      8,
    ) ∷ (3, kind) ∷ (2, n) ∷ [])) faults.Resampling 21 (omega arith) refl
    (fault_after_field 3 (allowed_format format) _ (format_code format)
    (fields ((1, clock) ∷ (10, 24) ∷ (4, 8) ∷ (3, kind) ∷ (2, n) ∷ [])) faults.Resampling 18 (format_small format)
    (same_format format)
    (fault_after_field 1 any _ clock (fields ((10, 24) ∷ (4, 8) ∷ (3, kind) ∷ (2, n) ∷ [])) faults.Resampling 17 c refl
    (fault_after_field 10 (only 24 faults.Modes) _ 24 (fields ((4, 8) ∷ (3, kind) ∷ (2, n) ∷ [])) faults.Resampling 7
    (omega arith) refl
    (fault_after_field 4 (only 8 faults.Marker) _ 8 (fields ((3, kind) ∷ (2, n) ∷ [])) faults.Resampling 3 (omega arith)
    refl
    (fault_after_field 3 allowed_kind _ kind (fields ((2, n) ∷ [])) faults.Resampling 0 (omega (arith, k))
    (low_kind kind k)
    (fault_here 2 (only 0 faults.Resampling) _ n [] faults.Resampling lt (only_other 0 n faults.Resampling other)))))))

type_end : (format : Format) (clock kind rounding n : ℕ) → clock < 2 → kind < 2 → rounding < 2 → n < 8 → (n ≡ 1 → ⊥)
    → HasFault (plus_type format) (fields ((3, 1) ∷ (3, (format_code format)) ∷ (1, clock) ∷ (10, 24) ∷ (4, 8) ∷ (
      3,
      kind,
    ) ∷ (2, 0) ∷ (1, rounding) ∷ (3, n) ∷ [])) faults.Marker 27
unfolding plus_type
type_end format clock kind rounding n c k r lt other =
    fault_after_field 3 (only 1 faults.Ufep) _ 1 (fields ((3, (format_code format)) ∷ (1, clock) ∷ (10, 24) ∷ (
      4,
      8,
    ) ∷ (3, kind) ∷ (2, 0) ∷ (1, rounding) ∷ (3, n) ∷ [])) faults.Marker 24 (omega arith) refl
    (fault_after_field 3 (allowed_format format) _ (format_code format)
    (fields ((1, clock) ∷ (10, 24) ∷ (4, 8) ∷ (3, kind) ∷ (2, 0) ∷ (1, rounding) ∷ (3, n) ∷ [])) faults.Marker 21
    (format_small format) (same_format format)
    (fault_after_field 1 any _ clock (fields ((10, 24) ∷ (4, 8) ∷ (3, kind) ∷ (2, 0) ∷ (1, rounding) ∷ (3, n) ∷ []))
    faults.Marker 20 c refl
    (fault_after_field 10 (only 24 faults.Modes) _ 24
    (fields ((4, 8) ∷ (3, kind) ∷ (2, 0) ∷ (1, rounding) ∷ (3, n) ∷ [])) faults.Marker 10 (omega arith) refl
    (fault_after_field 4 (only 8 faults.Marker) _ 8 (fields ((3, kind) ∷ (2, 0) ∷ (1, rounding) ∷ (3, n) ∷ []))
    faults.Marker 6 (omega arith) refl
    (fault_after_field 3 allowed_kind _ kind (fields ((2, 0) ∷ (1, rounding) ∷ (3, n) ∷ [])) faults.Marker 3
    (omega (arith, k)) (low_kind kind k)
    (fault_after_field 2 (only 0 faults.Resampling) _ 0 (fields ((1, rounding) ∷ (3, n) ∷ [])) faults.Marker 1
    (omega arith) refl
    (fault_after_field 1 any _ rounding (fields ((3, n) ∷ [])) faults.Marker 0 r refl
    (fault_here 3 (only 1 faults.Marker) _ n [] faults.Marker lt (only_other 1 n faults.Marker other)))))))))

plus_type_faults : (format : Format) → PlusTypeFaults format
plus_type_faults format = record {
  ufep = type_ufep format;
  no_source = type_no_source format;
  high_source = type_high_source format;
  other_source = type_other_source format;
  modes = type_modes format;
  tail = type_tail format;
  kind = type_kind format;
  resampling = type_resampling format;
  end = type_end format;
}

-- ---- CPM, CPCFC, SSS and RPSMF, TRPI and TRP

multipoint_row : HasFault multipoint (fields ((1, 1) ∷ [])) faults.Cpm 0
unfolding multipoint
multipoint_row = fault_here 1 (only 0 faults.Cpm) _ 1 [] faults.Cpm (omega arith) refl

divisor_row : (tr : ℕ) → HasFault (extended Custom tr) (fields ((8, 0) ∷ [])) faults.Divisor 0
unfolding extended
divisor_row tr = fault_here 8 allowed_divisor _ 0 [] faults.Divisor (omega arith) refl

high_divisor_row : (tr : ℕ) → HasFault (extended Custom tr) (fields ((8, 128) ∷ [])) faults.Divisor 0
unfolding extended
high_divisor_row tr = fault_here 8 allowed_divisor _ 128 [] faults.Divisor (omega arith) refl

slices_row : (n : ℕ) → n < 4 → (n ≡ 0 → ⊥) → HasFault channel (fields ((2, n) ∷ [])) faults.SliceMode 0
unfolding channel
slices_row n lt other = fault_here 2 (only 0 faults.SliceMode) _ n [] faults.SliceMode lt
    (only_other 0 n faults.SliceMode other)

low_channel : (n : ℕ) → n < 4 → allowed_channel n ≡ Some faults.Rpsmf
low_channel n lt = rw (lt-ltb n 4 lt) refl

channel_row : (n : ℕ) → n < 4 → HasFault channel (fields ((2, 0) ∷ (3, n) ∷ [])) faults.Rpsmf 2
unfolding channel
channel_row n lt = fault_after_field 2 (only 0 faults.SliceMode) _ 0 (fields ((3, n) ∷ [])) faults.Rpsmf 0 (omega arith)
    refl (fault_here 3 allowed_channel _ n [] faults.Rpsmf (omega arith) (low_channel n lt))

intra_row : (clock : Clock) → HasFault (reference clock kinds.I) (fields ((1, 1) ∷ [])) faults.IntraReference 0
unfolding reference
intra_row clock = fault_here 1 (only 0 faults.IntraReference) _ 1 [] faults.IntraReference (omega arith) refl

inter_row : (clock : Clock) → HasFault (reference clock kinds.P) (fields ((1, 0) ∷ [])) faults.NoReference 0
unfolding reference
inter_row clock = fault_here 1 (only 1 faults.NoReference) _ 0 [] faults.NoReference (omega arith) refl

not_low : (clock : Clock) (n : ℕ) → period_of clock ≤ n → allowed_low clock n ≡ Some faults.HighBits
not_low clock n le = rw (le-leb (period_of clock) n le) refl

high_row : (clock : Clock) (n : ℕ) → period_of clock ≤ n → n < 1024
    → HasFault (reference clock kinds.P) (fields ((1, 1) ∷ (10, n) ∷ [])) faults.HighBits 1
unfolding reference
high_row clock n le lt = fault_after_field 1 (only 1 faults.NoReference) _ 1 (fields ((10, n) ∷ [])) faults.HighBits 0
    (omega arith) refl (fault_here 10 (allowed_low clock) _ n [] faults.HighBits lt (not_low clock n le))

middle_faults : MiddleFaults
middle_faults = record {
  multipoint = multipoint_row;
  divisor = divisor_row;
  high_divisor = high_divisor_row;
  slices = slices_row;
  channel = channel_row;
  intra = intra_row;
  inter = inter_row;
  high = high_row;
}

-- ---- messages

bci_end : HasFault bci (fields ((1, 0) ∷ (1, 0) ∷ [])) faults.Bci 1
unfolding bci
bci_end = fault_after_field 1 any _ 0 (fields ((1, 0) ∷ [])) faults.Bci 0 (omega arith) refl
    (fault_here 1 (only 1 faults.Bci) (λ end. done 0) 0 [] faults.Bci (omega arith) refl)

bci_row : (clock : Clock) (used : ℕ) → HasFault (next_message clock used) (fields ((1, 0) ∷ (1, 0) ∷ [])) faults.Bci 0
unfolding next_message
bci_row clock used = fault_in_element bci (bci_room used) _ (fields ((1, 0) ∷ (1, 0) ∷ [])) faults.Bci 1 bci_end

bci_more : Spells bci 1 (fields ((1, 1) ∷ []))
unfolding bci
bci_more = spells_field 1 any (λ more. either (eqb more 0) (field 1 (only 1 faults.Bci) λ end. done 0) (done 1)) 1 1 []
    (omega arith) refl (spells_done 1)

no_room : (used : ℕ) → 4 ≤ used → bci_room used 1 ≡ Some faults.ManyMessages
no_room used le = rw (le-ltb used 4 le) refl

room : (used : ℕ) → used < 4 → bci_room used 1 ≡ None
room used lt = rw (lt-ltb used 4 lt) refl

many_row : (clock : Clock) (used : ℕ) → 4 ≤ used
    → HasFault (next_message clock used) (fields ((1, 1) ∷ [])) faults.ManyMessages 0
unfolding next_message spelled
many_row clock used le = fault_of_element bci (bci_room used) _ 1 (fields ((1, 1) ∷ [])) [] faults.ManyMessages
    bci_productive bci_more (no_room used le)

bad_message : (clock : Clock) (n : ℕ) (fault : MessageFault) → message_fault clock (is_long n) n ≡ Some fault
    → allowed_message clock n ≡ Some faults.Messages
bad_message clock n fault e = rw e refl

good_message : (clock : Clock) (n : ℕ) → message_fault clock (is_long n) n ≡ None → allowed_message clock n ≡ None
good_message clock n e = rw e refl

in_message : (clock : Clock) (n : ℕ) (fault : MessageFault) → n < 2 ^ 24 → message_fault clock (is_long n) n
    ≡ Some fault → HasFault (message clock) (fields ((24, n) ∷ [])) faults.Messages 0
unfolding message
in_message clock n fault lt e = fault_here 24 (allowed_message clock) _ n [] faults.Messages lt
    (bad_message clock n fault e)

-- the message after a BCI of 1
after_bci : (clock : Clock) (used : ℕ) (text : List Bool) (kind : FaultKind) (place : ℕ) → used < 4
    → HasFault (message clock) text kind place → HasFault (next_message clock used) (fields ((1, 1) ∷ []) ++ text) kind
    (1 + place)
unfolding next_message spelled
after_bci clock used text kind place lt h =
    fault_after_element bci (bci_room used) _ 1 (fields ((1, 1) ∷ [])) text kind place bci_productive bci_more
    (room used lt)
    (fault_in_part (message clock) any (λ m. done (Some m)) text kind place h)

message_row : (clock : Clock) (used n : ℕ) (fault : MessageFault) → used < 4 → n < 2 ^ 24
    → message_fault clock (is_long n) n ≡ Some fault
    → HasFault (next_message clock used) (fields ((1, 1) ∷ (24, n) ∷ [])) faults.Messages 1
unfolding spelled
message_row clock used n fault room lt e = after_bci clock used (fields ((24, n) ∷ [])) faults.Messages 0 room
    (in_message clock n fault lt e)

unmarked : (marks : ℕ) → has_markers marks ≡ false → allowed_markers marks ≡ Some faults.Messages
unmarked marks e = rw e refl

in_flags : (marks : ℕ) → marks < 2 ^ 16 → has_markers marks ≡ false
    → HasFault flags (fields ((16, marks) ∷ [])) faults.Messages 0
unfolding flags
in_flags marks lt e = fault_here 16 allowed_markers _ marks [] faults.Messages lt (unmarked marks e)

-- the flags after the first 24 bits of a long message
abbrev after_24 : ℕ → Bool → Syntax Message
after_24 n long = either long (part flags any λ marks. done (message_value n (Some marks)))
    (done (message_value n None))

flags_part : (n marks : ℕ) → marks < 2 ^ 16 → has_markers marks ≡ false
    → HasFault (after_24 n true) (fields ((16, marks) ∷ [])) faults.Messages 0
flags_part n marks small bad = fault_in_part flags any (λ marks. done (message_value n (Some marks)))
    (fields ((16, marks) ∷ [])) faults.Messages 0 (in_flags marks small bad)

long_message_row : (clock : Clock) (n marks : ℕ) → n < 2 ^ 24 → marks < 2 ^ 16 → message_fault clock (is_long n) n
    ≡ None → is_long n ≡ true → has_markers marks ≡ false
    → HasFault (message clock) (fields ((24, n) ∷ (16, marks) ∷ [])) faults.Messages 24
unfolding message
long_message_row clock n marks lt small e long bad =
    let inner : HasFault (after_24 n (is_long n)) (fields ((16, marks) ∷ [])) faults.Messages 0 =
    subst (λ (t : Bool). HasFault (after_24 n t) (fields ((16, marks) ∷ [])) faults.Messages 0) (sym long)
    (flags_part n marks small bad) in
    fault_after_field 24 (allowed_message clock) (λ m. after_24 m (is_long m)) n (fields ((16, marks) ∷ []))
    faults.Messages 0 lt (good_message clock n e) inner

flags_row : (clock : Clock) (used n marks : ℕ) → used < 4 → n < 2 ^ 24 → marks < 2 ^ 16
    → message_fault clock (is_long n) n ≡ None → is_long n ≡ true → has_markers marks ≡ false
    → HasFault (next_message clock used) (fields ((1, 1) ∷ (24, n) ∷ (16, marks) ∷ [])) faults.Messages 25
unfolding spelled
flags_row clock used n marks few lt small e long bad = after_bci clock used (fields ((24, n) ∷ (16, marks) ∷ []))
    faults.Messages 24 few (long_message_row clock n marks lt small e long bad)

turn_here : (clock : Clock) (messages : List Message) (text : List Bool) (kind : FaultKind) (place : ℕ)
    → HasFault (next_message clock (length messages)) text kind place
    → HasFault (repeat messages (back_turn clock)) text kind place
unfolding back_turn
turn_here clock messages text kind place h = fault_in_turn messages (back_turn clock) text kind place
    (fault_in_part (next_message clock (length messages)) any _ text kind place h)

turn_productive : MessageLaws → (clock : Clock) (messages : List Message) → IsProductive (back_turn clock messages)
unfolding back_turn IsProductive
turn_productive laws clock messages = (next_productive laws clock (length messages), λ next. tt)

turn_spelt : (clock : Clock) (messages : List Message) (m : Message) (front : List Bool)
    → Spells (next_message clock (length messages)) (Some m) front
    → Spells (back_turn clock messages) (again (messages ++ m ∷ [])) front
unfolding back_turn Spells
turn_spelt clock messages m front h = (Some m, front, [], sym (append-nil front), h, refl, (refl, refl))

turn_after : MessageLaws → (clock : Clock) (messages : List Message) (m : Message) (front text : List Bool)
    (kind : FaultKind) (place : ℕ) → Spells (next_message clock (length messages)) (Some m) front
    → HasFault (repeat (messages ++ m ∷ []) (back_turn clock)) text kind place
    → HasFault (repeat messages (back_turn clock)) (front ++ text) kind (length front + place)
turn_after laws clock messages m front text kind place spelt h =
    fault_after_turn messages (messages ++ m ∷ []) (back_turn clock) front text kind place
    (turn_productive laws clock messages) (back_some clock) (turn_spelt clock messages m front spelt) h

message_faults : MessageLaws → (clock : Clock) → MessageFaults clock
message_faults laws clock = record {
  bci = bci_row clock;
  many = many_row clock;
  message = message_row clock;
  flags = flags_row clock;
  here = turn_here clock;
  after = turn_after laws clock;
}

-- ---- the parts of a header, one after the other

part_opening : MessageLaws → (format : Format) (text : List Bool) (kind : FaultKind) (place : ℕ)
    → HasFault opening text kind place → HasFault (header format) text kind place
unfolding header
part_opening laws format text kind place h = fault_in_part opening any _ text kind place h

part_plus_type : MessageLaws → (format : Format) (low : ℕ) (a text : List Bool) (kind : FaultKind) (place : ℕ)
    → Spells opening low a
    → HasFault (plus_type format) text kind place → HasFault (header format) (a ++ text) kind (length a + place)
unfolding header
part_plus_type laws format low a text kind place sa h =
    let simple = simple_productive format in
    fault_after_part opening any _ low a text kind place simple.0 sa refl
    (fault_in_part (plus_type format) any _ text kind place h)

part_multipoint : MessageLaws → (format : Format) (low : ℕ) (type : Clock × Kind × ℕ) (a b text : List Bool)
    (kind : FaultKind) (place : ℕ) → Spells opening low a → Spells (plus_type format) type b
    → HasFault multipoint text kind place
    → HasFault (header format) (a ++ (b ++ text)) kind (length a + (length b + place))
unfolding header
part_multipoint laws format low type a b text kind place sa sb h =
    let simple = simple_productive format in
    fault_after_part opening any _ low a (b ++ text) kind (length b + place) simple.0 sa refl
    (fault_after_part (plus_type format) any _ type b text kind place simple.1 sb refl
    (fault_in_part multipoint any _ text kind place h))

part_extended : MessageLaws → (format : Format) (low : ℕ) (type : Clock × Kind × ℕ) (a b c text : List Bool)
    (kind : FaultKind) (place : ℕ) → Spells opening low a → Spells (plus_type format) type b → Spells multipoint tt c
    → HasFault (extended type.0 low) text kind place
    → HasFault (header format) (a ++ (b ++ (c ++ text))) kind (length a + (length b + (length c + place)))
unfolding header
part_extended laws format low type a b c text kind place sa sb sc h =
    let simple = simple_productive format in
    fault_after_part opening any _ low a (b ++ (c ++ text)) kind (length b + (length c + place)) simple.0 sa refl
    (fault_after_part (plus_type format) any _ type b (c ++ text) kind (length c + place) simple.1 sb refl
    (fault_after_part multipoint any _ tt c text kind place simple.2 sc refl
    (fault_in_part (extended type.0 low) any _ text kind place h)))

part_channel : MessageLaws → (format : Format) (low tr : ℕ) (type : Clock × Kind × ℕ) (a b c d text : List Bool)
    (kind : FaultKind) (place : ℕ) → Spells opening low a → Spells (plus_type format) type b → Spells multipoint tt c
    → Spells (extended type.0 low) tr d
    → HasFault channel text kind place
    → HasFault (header format) (a ++ (b ++ (c ++ (d ++ text)))) kind
    (length a + (length b + (length c + (length d + place))))
unfolding header
part_channel laws format low tr type a b c d text kind place sa sb sc sd h =
    let simple = simple_productive format in
    fault_after_part opening any _ low a (b ++ (c ++ (d ++ text))) kind (length b + (length c + (length d + place)))
    simple.0 sa refl
    (fault_after_part (plus_type format) any _ type b (c ++ (d ++ text)) kind (length c + (length d + place)) simple.1
    sb refl
    (fault_after_part multipoint any _ tt c (d ++ text) kind (length d + place) simple.2 sc refl
    (fault_after_part (extended type.0 low) any _ tr d text kind place (extended_productive type.0 low) sd refl
    (fault_in_part channel any _ text kind place h))))

part_reference : MessageLaws → (format : Format) (low tr n : ℕ) (type : Clock × Kind × ℕ) (a b c d e text : List Bool)
    (kind : FaultKind) (place : ℕ) → Spells opening low a → Spells (plus_type format) type b → Spells multipoint tt c
    → Spells (extended type.0 low) tr d → Spells channel n e
    → HasFault (reference type.0 type.1) text kind place
    → HasFault (header format) (a ++ (b ++ (c ++ (d ++ (e ++ text))))) kind
    (length a + (length b + (length c + (length d + (length e + place)))))
unfolding header
part_reference laws format low tr n type a b c d e text kind place sa sb sc sd se h =
    let simple = simple_productive format in
    fault_after_part opening any _ low a (b ++ (c ++ (d ++ (e ++ text)))) kind
    (length b + (length c + (length d + (length e + place)))) simple.0 sa refl
    (fault_after_part (plus_type format) any _ type b (c ++ (d ++ (e ++ text))) kind
    (length c + (length d + (length e + place))) simple.1 sb refl
    (fault_after_part multipoint any _ tt c (d ++ (e ++ text)) kind (length d + (length e + place)) simple.2 sc refl
    (fault_after_part (extended type.0 low) any _ tr d (e ++ text) kind (length e + place)
    (extended_productive type.0 low) sd refl
    (fault_after_part channel any _ n e text kind place simple.3 se refl
    (fault_in_part (reference type.0 type.1) any _ text kind place h)))))

part_back : MessageLaws → (format : Format) (low tr n : ℕ) (type : Clock × Kind × ℕ) (trp : Option ℕ)
    (a b c d e f text : List Bool) (kind : FaultKind) (place : ℕ) → Spells opening low a
    → Spells (plus_type format) type b → Spells multipoint tt c → Spells (extended type.0 low) tr d → Spells channel n e
    → Spells (reference type.0 type.1) trp f
    → HasFault (back type.0) text kind place
    → HasFault (header format) (a ++ (b ++ (c ++ (d ++ (e ++ (f ++ text)))))) kind
    (length a + (length b + (length c + (length d + (length e + (length f + place))))))
unfolding header
part_back laws format low tr n type trp a b c d e f text kind place sa sb sc sd se sf h =
    let simple = simple_productive format in
    fault_after_part opening any _ low a (b ++ (c ++ (d ++ (e ++ (f ++ text))))) kind
    (length b + (length c + (length d + (length e + (length f + place))))) simple.0 sa refl
    (fault_after_part (plus_type format) any _ type b (c ++ (d ++ (e ++ (f ++ text)))) kind
    (length c + (length d + (length e + (length f + place)))) simple.1 sb refl
    (fault_after_part multipoint any _ tt c (d ++ (e ++ (f ++ text))) kind (length d + (length e + (length f + place)))
    simple.2 sc refl
    (fault_after_part (extended type.0 low) any _ tr d (e ++ (f ++ text)) kind (length e + (length f + place))
    (extended_productive type.0 low) sd refl
    (fault_after_part channel any _ n e (f ++ text) kind (length f + place) simple.3 se refl
    (fault_after_part (reference type.0 type.1) any _ trp f text kind place (reference_productive type.0 type.1) sf refl
    (fault_in_part (back type.0) any _ text kind place h))))))

part_quant : MessageLaws → (format : Format) (low tr n : ℕ) (type : Clock × Kind × ℕ) (trp : Option ℕ)
    (messages : List Message) (a b c d e f g : List Bool) → Spells opening low a → Spells (plus_type format) type b
    → Spells multipoint tt c → Spells (extended type.0 low) tr d → Spells channel n e
    → Spells (reference type.0 type.1) trp f → Spells (back type.0) messages g
    → HasFault (header format) (a ++ (b ++ (c ++ (d ++ (e ++ (f ++ (g ++ fields ((5, 0) ∷ [])))))))) faults.Quant
    (length a + (length b + (length c + (length d + (length e + (length f + (length g + 0)))))))
unfolding header
part_quant laws format low tr n type trp messages a b c d e f g sa sb sc sd se sf sg =
    let simple = simple_productive format in
    fault_after_part opening any _ low a (b ++ (c ++ (d ++ (e ++ (f ++ (g ++ fields ((5, 0) ∷ []))))))) faults.Quant
    (length b + (length c + (length d + (length e + (length f + (length g + 0)))))) simple.0 sa refl
    (fault_after_part (plus_type format) any _ type b (c ++ (d ++ (e ++ (f ++ (g ++ fields ((5, 0) ∷ []))))))
    faults.Quant (length c + (length d + (length e + (length f + (length g + 0))))) simple.1 sb refl
    (fault_after_part multipoint any _ tt c (d ++ (e ++ (f ++ (g ++ fields ((5, 0) ∷ []))))) faults.Quant
    (length d + (length e + (length f + (length g + 0)))) simple.2 sc refl
    (fault_after_part (extended type.0 low) any _ tr d (e ++ (f ++ (g ++ fields ((5, 0) ∷ [])))) faults.Quant
    (length e + (length f + (length g + 0))) (extended_productive type.0 low) sd refl
    (fault_after_part channel any _ n e (f ++ (g ++ fields ((5, 0) ∷ []))) faults.Quant (length f + (length g + 0))
    simple.3 se refl
    (fault_after_part (reference type.0 type.1) any _ trp f (g ++ fields ((5, 0) ∷ [])) faults.Quant (length g + 0)
    (reference_productive type.0 type.1) sf refl
    (fault_after_part (back type.0) any _ messages g (fields ((5, 0) ∷ [])) faults.Quant 0 (back_productive laws type.0)
    sg refl
    (fault_here 5 allowed_quant _ 0 [] faults.Quant (omega arith) refl)))))))

part_faults : MessageLaws → (format : Format) → PartFaults format
part_faults laws format = record {
  of_opening = part_opening laws format;
  of_plus_type = part_plus_type laws format;
  of_multipoint = part_multipoint laws format;
  of_extended = part_extended laws format;
  of_channel = part_channel laws format;
  of_reference = part_reference laws format;
  of_back = part_back laws format;
  of_quant = part_quant laws format;
}

pub header_faults : MessageLaws → HeaderFaults
header_faults laws = record {
  first = λ format b fault. first_fault_is (header format) b fault (header_productive laws format);
  opening = opening_faults;
  plus_type = plus_type_faults;
  middle = middle_faults;
  messages = message_faults laws;
  parts = part_faults laws;
}
