-- How far a line agrees with a word, and where its gaps are.
use Rattle.std.proofs.Common.{◌≡◌, ◌≢◌, ℕ, suc, ◌<◌, List, ◌∷◌, length, drop, get_or, ◌∙◌, arith}
use Rattle.std.proofs.lemmas.Bool.Decides.{nat_tests}
use Rattle.std.proofs.Math.Seq.{drop-cons}
use Rattle.y4m.specs.Line.{agreement}

apart_heads : (a b : ℕ) (word line : List ℕ) → a ≢ b → agreement (a ∷ word) (b ∷ line) ≡ 0
apart_heads a b word line ne = grind (arith, nat_tests)

pub apart : (word line : List ℕ) (i : ℕ) → i < length word → i < length line → get_or word i 0 ≢ get_or line i 0
    → agreement (drop i word) (drop i line) ≡ 0
apart word line i hw hl ne =
    (λ j. agreement (drop-cons word i 0 hw j) (drop-cons line i 0 hl j))
    ∙ apart_heads (get_or word i 0) (get_or line i 0) (drop (suc i) word) (drop (suc i) line) ne
