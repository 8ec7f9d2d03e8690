-- The rules of a command that is built up argument by argument.
use Rattle.std.proofs.Common.{◌≡◌, ◌∙◌, ◌<◌, ◌+◌, ℕ, suc, List, [], ◌∷◌, map, ap, append_assoc, length, get_or, drop, add-one, drop-cons}
use Rattle.std.specs.Borrow.{Bor}
use Rattle.clap.specs.Words.{App, Rule, with_rule}
use Rattle.h263_types.specs.Texts.{Text}
use Rattle.command_words.specs.Clap.{texts, with_rules}

pub more_rules : (a : App) (r : Rule) (rs : List Rule) → with_rules (with_rule a r) rs ≡ with_rules a (r ∷ rs)
more_rules a r rs = ap (λ (rules : List Rule). let b : App = record a { top = record a.top { rules = rules } } in
    b) (append_assoc a.top.rules (r ∷ []) rs)

-- one more argument of a list of names
pub step_rules : (f : Text → Rule) (a : App) (r : Rule) (names : List (Bor Text)) (i : ℕ) (d name : Bor Text)
    → i < length names → name ≡ get_or names i d → r ≡ f name.now
    → with_rules (with_rule a r) (map f (texts (drop (i + 1) names))) ≡ with_rules a (map f (texts (drop i names)))
step_rules f a r names i d name lt at is =
    rw (add-one, drop-cons names i d) (more_rules a r (map f (texts (drop (suc i) names)))
    ∙ ap (λ (x : Rule). with_rules a (x ∷ map f (texts (drop (suc i) names)))) (is
    ∙ ap (λ (n : Bor Text). f n.now) at))
