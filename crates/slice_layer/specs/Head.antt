-- The slice header (H.263, K.2, with the fields of Annex N after it): after the picture header, and of a later slice.
use Rattle.std.specs.Prelude.{ℕ, Bool, true, false, Option, Some, None, nat_lt, ◌==◌, if◌then◌else◌}
use Rattle.h263_types.specs.declared.format.Format.{Format}
use Rattle.h263_types.specs.declared.format.Format.TheVariants.{SubQcif, Qcif, Cif}
use Rattle.h263_types.specs.Sizes.{mbs_of}
use Rattle.h263_bits.specs.declared.fault.FaultKind.TheVariants as faults
use Rattle.h263_bits.specs.Syntax.{Syntax, Allowed, any, only, done, field, part}
use Rattle.picture_header.specs.declared.header.Header.{Header}
use Rattle.picture_header.specs.Text.{allowed_quant}

-- the bits of a macroblock's number (MBA, K.2.5)
abbrev pub address_bits : Format → ℕ
address_bits SubQcif = 6
address_bits Qcif = 7
address_bits Cif = 9

-- a later slice begins with a macroblock of the picture, and not with its first
abbrev pub allowed_first : Format → Allowed ℕ
allowed_first f n = if n == 0 then Some faults.Address else (if nat_lt n (mbs_of f) then None else Some faults.Address)

-- TRPI, and in P the picture header's TRP again (Annex N)
unfoldable pub slice_reference : Option ℕ → Syntax (Unit {0})
slice_reference None = field 1 (only 0 faults.SliceReference) λ refers. done tt
slice_reference (Some trp) =
    field 1 (only 1 faults.SliceReference) λ refers.
    field 10 (only trp faults.SliceReference) λ again.
    done tt

-- what begins after the picture header: its first macroblock, which is the picture's first, and
-- the picture's quantiser
unfoldable pub first_head : Header → Syntax (ℕ × ℕ)
first_head h =
    field 1 (only 1 faults.Marker) λ sepb1.
    field (address_bits h.format) (only 0 faults.Address) λ mba.
    field 1 (only 1 faults.Marker) λ sepb3.
    done (mba, h.quant)

-- MBA and SQUANT of a later slice, after the last bit of its start code
unfoldable pub place : Format → Syntax (ℕ × ℕ)
place f =
    field 1 (only 1 faults.NoStart) λ start.
    field 1 (only 1 faults.Marker) λ sepb1.
    field (address_bits f) (allowed_first f) λ mba.
    field 5 allowed_quant λ squant.
    field 1 (only 1 faults.Marker) λ sepb3.
    done (mba, squant)

-- GFID, TRI, TRPI and TRP, BCI
unfoldable pub tail : Option ℕ → Syntax (Unit {0})
tail trp =
    field 2 any λ gfid.
    field 1 (only 0 faults.SliceReference) λ tri.
    part (slice_reference trp) any λ again.
    field 2 (only 1 faults.Bci) λ bci.
    done tt

unfoldable pub later_head : Header → Syntax (ℕ × ℕ)
later_head h =
    part (place h.format) any λ at.
    part (tail h.trp) any λ end.
    done at

-- the first macroblock and the quantiser of a slice of the picture with this header, which stands
-- just before or doesn't
abbrev pub head_of_slice : Header → Bool → Syntax (ℕ × ℕ)
head_of_slice h true = first_head h
head_of_slice h false = later_head h
