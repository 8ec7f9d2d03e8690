-- The last lines of a report, up to a write that failed.
use Rattle.std.proofs.Common.{◌≡◌, ℕ, List, Option, Result, Ok, Err, OnErr, subst}
use Rattle.h263_outside.specs.declared.desk.Role.{Role}
use Rattle.h263_outside.specs.declared.desk.Role.TheVariants.{Report}
use Rattle.rate_control.specs.declared.meter.Totals.{Totals}
use Rattle.rate_control.specs.Text.{totals_line}
use Rattle.desk_program.specs.Ends.{Gains, GainsFronts}
use Rattle.desk_program.specs.Laws.{TurnLaws}
use Rattle.desk_program.specs.Texts.{on}
use Rattle.rate_command.specs.Rate.{closing_text, last_text}

-- what holds holds where a call failed
pub on_err : {T E : Type 0} {P : Type 0} (r : Result T E) → P → OnErr r P
on_err (Ok x) p = tt
on_err (Err e) p = p

module _ (laws : TurnLaws) (t : Totals) where
  pub cut_last : (old a : Role → Option (List ℕ)) → GainsFronts (last_text t.last) old a
      → GainsFronts (closing_text t) old a
  cut_last old a p = laws.front_of_first (last_text t.last) (on Report (totals_line t)) old a p

  module _ (old a b : Role → Option (List ℕ)) (last : Gains (last_text t.last) old a) (text : List ℕ) (is : text
      ≡ totals_line t) where
    pub cut_totals : GainsFronts (on Report text) a b → GainsFronts (closing_text t) old b
    cut_totals q =
        laws.front_of_second (last_text t.last) (on Report (totals_line t)) old a b last
        (subst (λ (l : List ℕ). GainsFronts (on Report l) a b) is q)

    pub whole_totals : Gains (on Report text) a b → Gains (closing_text t) old b
    whole_totals q =
        laws.both_texts (last_text t.last) (on Report (totals_line t)) old a b last
        (subst (λ (l : List ℕ). Gains (on Report l) a b) is q)
