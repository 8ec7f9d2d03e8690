-- Each pair of bits is a word of DQUANT.
use Rattle.std.proofs.Common.{◌≡◌, ℕ, Bool, true, false, List, [], ◌∷◌, Result, Ok, Err, ap}
use Rattle.std.specs.Prelude.{ℤ, IfErr}
use Rattle.h263_bits.specs.declared.fault.Fault.{Fault}
use Rattle.h263_bits.specs.declared.fault.FaultKind.TheVariants.{Ended}
use Rattle.h263_bits.specs.Reading.{Bits, Gives}
use Rattle.h263_bits.specs.Syntax.{word_at, found, begins, is_cut}
use Rattle.code_tables.specs.Mcbpc.{dquant_words}

abbrev Found : Type 0
Found = Result (ℤ × Bits) Fault

kind_is : (f g : Fault) → (let r : Found = Err f in r) ≡ Err g → g.kind ≡ f.kind
kind_is f g e = let same : g ≡ f = cc in ap (λ (h : Fault). h.kind) same

not_both : (x : ℤ × Bits) (g : Fault) → (let r : Found = Ok x in r) ≡ Err g → ⊥
not_both x g e = cc

ended : (bits : List Bool) (at : ℕ) (fault : Fault) → word_at dquant_words (record { at = at; bits = bits }) ≡ Err fault
    → fault.kind ≡ Ended
unfolding word_at found begins is_cut dquant_words
ended [] at fault e = kind_is _ fault e
ended (true ∷ []) at fault e = kind_is _ fault e
ended (false ∷ []) at fault e = kind_is _ fault e
ended (true ∷ true ∷ bits) at fault e = absurd (not_both _ fault e)
ended (true ∷ false ∷ bits) at fault e = absurd (not_both _ fault e)
ended (false ∷ true ∷ bits) at fault e = absurd (not_both _ fault e)
ended (false ∷ false ∷ bits) at fault e = absurd (not_both _ fault e)

pub only_ended : (r : Result ℤ Fault) (old new : Bits) → Gives (λ (z : ℤ). z) r new (word_at dquant_words old)
    → IfErr r (λ fault. fault.kind ≡ Ended)
only_ended (Ok z) old new gives = tt
only_ended (Err fault) old new gives = ended old.bits old.at fault gives
