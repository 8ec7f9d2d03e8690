-- What is chosen for a frame of a call may be sent.
use Rattle.std.proofs.Common.{◌≡◌, ℕ, Bool, true, false, refl, sym, ap, subst, Option, Some, None, is_some}
use Rattle.h263_types.specs.declared.clock.Clock.{Clock}
use Rattle.h263_types.specs.declared.clock.Clock.TheVariants.{Standard, Custom}
use Rattle.h263_types.specs.declared.format.Format.{Format}
use Rattle.h263_types.specs.Clocks.{half_of}
use Rattle.h263_planes.specs.Picture.{Picture}
use Rattle.h263_planes.specs.References.{HasReferenceOnlyInP}
use Rattle.call_model.specs.Coding as call
use Rattle.call_decoding.specs.Styles.{Style, clock_with, header_from, call_header_of}
use Rattle.call_encoding.specs.Frames.{kind_of}

clock_back : (clock : Clock) → half_of (clock_with (half_of clock)) ≡ half_of clock
clock_back Standard = refl
clock_back Custom = refl

-- a header of the call's clock is seen again
pub header_back : (clock : Clock) (h : call.Header Style) → h.half ≡ half_of clock → call_header_of (header_from h) ≡ h
header_back clock h half =
    let same : half_of (clock_with h.half) ≡ h.half =
    subst (λ (n : ℕ). half_of (clock_with n) ≡ n) (sym half) (clock_back clock)
    in
    ap (λ (n : ℕ). let g : call.Header Style = record {
      number = h.number;
      reference = h.reference;
      half = n;
      style = h.style;
    } in g) same

-- a predicted picture, and no other, has a reference of its format
pub has_reference : (f : Format) (predicted : Bool) (reference : Option Picture) → is_some reference ≡ predicted
    → ((p : Picture) → reference ≡ Some p → p.format ≡ f) → HasReferenceOnlyInP (kind_of predicted) f reference
has_reference f true None e same = cc
has_reference f true (Some p) e same = same p refl
has_reference f false None e same = tt
has_reference f false (Some p) e same = cc
