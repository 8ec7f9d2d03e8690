-- The header of a slice repeats no part.
use Rattle.std.proofs.Common.{Bool, true, false, Option, Some, None}
use Rattle.std.specs.Prelude.{ℕ}
use Rattle.h263_types.specs.declared.format.Format.{Format}
use Rattle.h263_bits.specs.Syntax.{IsProductive}
use Rattle.picture_header.specs.declared.header.Header.{Header}
use Rattle.slice_layer.specs.Head.{slice_reference, first_head, place, tail, later_head, head_of_slice}

pub reference_productive : (trp : Option ℕ) → IsProductive (slice_reference trp)
unfolding slice_reference IsProductive
reference_productive None = λ refers. tt
reference_productive (Some trp) = λ refers again. tt

pub place_productive : (f : Format) → IsProductive (place f)
unfolding place IsProductive
place_productive f = λ start sepb1 mba squant sepb3. tt

pub tail_productive : (trp : Option ℕ) → IsProductive (tail trp)
unfolding tail IsProductive
tail_productive trp = λ gfid tri. (reference_productive trp, λ again bci. tt)

pub head_productive : (h : Header) (begins : Bool) → IsProductive (head_of_slice h begins)
unfolding first_head later_head IsProductive
head_productive h true = λ sepb1 mba sepb3. tt
head_productive h false = (place_productive h.format, λ at. (tail_productive h.trp, λ again. tt))
