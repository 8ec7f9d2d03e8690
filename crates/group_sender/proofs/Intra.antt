-- While a receiver is waited for, the next picture is coded by itself.
use Rattle.std.proofs.Common.{◌≡◌, ℕ, ◌+◌, Bool, true, false, not, ◌&&◌, refl, sym, ◌∙◌, List, Option, Some, None, leb, length}
use Rattle.std.specs.Prelude.{is_some}
use Rattle.std.proofs.lemmas.Bool.{and_from, and_parts, le-leb}
use Rattle.std.proofs.lemmas.List.Quantifiers.{position-Some}
use Rattle.call_model.specs.Coding.{Rules, Pictures, Encoding, window}
use Rattle.call_model.specs.Numbers.{GreatestIs, GreatestIsNone, greatest}
use Rattle.group_sender.specs.Laws.{WaitingIsIntra}
use Rattle.group_sender.specs.Parties.{nobody, party_at, party_has}
use Rattle.group_sender.specs.Running.{is_waited_for, next_for_all}
use Rattle.group_sender.proofs.Lawful.{all_have_is, reference_is}

none_found : (o : Option ℕ) → not (is_some o) ≡ true → o ≡ None
none_found None is = refl
none_found (Some m) is = let wrong : false ≡ true = is in cc

module _ {Frame Style Mb Picture MessageFault : Type 0} (pictures : Pictures Style Mb Picture)
    (encoding : Encoding Frame Style Mb Picture MessageFault) (rules : Rules) where
  pub waiting_is_intra : GreatestIs → GreatestIsNone → WaitingIsIntra pictures encoding rules
  waiting_is_intra greatest_is none_is pace frame run k waits =
      go (next_for_all pictures encoding rules pace frame run).reference refl
    where
      go : (o : Option ℕ) → (next_for_all pictures encoding rules pace frame run).reference ≡ o
          → (next_for_all pictures encoding rules pace frame run).reference ≡ None
      go None is = is
      go (Some m) is =
          let n = length run.coded in
          let party = party_at run.parties k in
          let newest = ((reference_is pictures encoding rules greatest_is pace frame run m).0 is).0 in
          let at = position-Some (is_waited_for rules n) run.parties k nobody waits in
          let late = and_parts party.present
          (not (is_some (greatest (λ i. party_has party i && leb n (i + window rules)) n))) at.1 in
          let none = none_found (greatest (λ i. party_has party i && leb n (i + window rules)) n) late.1 in
          let fails : (party_has party m && leb n (m + window rules))
          ≡ false = (none_is (λ i. party_has party i && leb n (i + window rules)) n).0 none m newest.sent in
          let has = (all_have_is run.parties m).0 newest.all k at.0 late.0 in
          let passes = and_from (party_has party m) (leb n (m + window rules)) has
          (le-leb n (m + window rules) newest.near) in
          let wrong : true ≡ false = sym passes ∙ fails in
          cc
