use Rattle.std.proofs.Common.{ℕ, sym, ap, ◌∙◌}
use Rattle.h263_bits.specs.Reading.{Bits, err}
use Rattle.h263_bits.proofs.FirstFaults.{stands, field_fault, field_fault_again, word_fault, word_fault_again}
use Rattle.h263_bits.proofs.laws.first_faults.Goals as goal

pub returns-clause-field : goal.returns-clause-field
returns-clause-field c = λ n allowed b d. (
  λ e. field_fault n allowed b d e,
  λ h. field_fault_again n allowed b.at b.bits d.kind h.1
      ∙ ap (λ (k : ℕ). err {A = ℕ × Bits} (stands d.kind k)) (sym h.0),
)

pub returns-clause-word : goal.returns-clause-word
returns-clause-word c = λ words b d apart. (
  λ e. word_fault words b d e,
  λ h. word_fault_again words b.at b.bits d.kind apart h.1
      ∙ ap (λ (k : ℕ). err {A = ℕ × Bits} (stands d.kind k)) (sym h.0),
)
