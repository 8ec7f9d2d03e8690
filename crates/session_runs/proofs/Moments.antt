-- The moment at which packets may be asked for.
use Rattle.std.proofs.Common.{◌≡◌, ℕ, Bool, cond, Option, Some, None, ap, sym, ◌∙◌}
use Rattle.std.proofs.lemmas.Bool.{ne_eqb}
use Rattle.packet_gaps.specs.declared.moment.Moment.{Moment}
use Rattle.session_runs.specs.Histories.{Config, moment_at, picture_period}

abbrev at : ℕ → ℕ → ℕ → ℕ → ℕ → Moment
at now round_trip next due period =
    record { time = now; round_trip = round_trip; next = next; due = due; period = period }

pub made : (c : Config) (round_trip now next number due period : ℕ) (o : Option ℕ) → next ≡ number
    → period ≡ picture_period c.rate → (due ≡ 0 → ⊥) → Some due ≡ o
    → Some (at now round_trip next due period) ≡ moment_at c round_trip now number o
made c round_trip now next number due period o e f n g =
    ap (λ (k : ℕ). Some (at now round_trip k due period)) e
    ∙ ap (λ (k : ℕ). Some (at now round_trip number due k)) f
    ∙ sym (ap (λ (b : Bool). cond b None (Some (at now round_trip number due (picture_period c.rate))))
    (ne_eqb due 0 n))
    ∙ ap (moment_at c round_trip now number) g
