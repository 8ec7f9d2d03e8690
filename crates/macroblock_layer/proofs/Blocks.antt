-- Blocks that are written one after the other.
use Rattle.std.proofs.Common.{◌≡◌, ℕ, zero, suc, ◌+◌, ◌<◌, ◌≤◌, Bool, List, [], ◌∷◌, ◌++◌, length, drop, refl, sym, ap, ◌∙◌, append_assoc, add-one, length-append, arith}
use Rattle.std.specs.Prelude.{ℤ, slice_index_or}
use Rattle.std.proofs.Math.Seq.{drop-cons}
use Rattle.std.proofs.lemmas.List.{drop_all, append-nil}
use Rattle.h263_types.specs.declared.blocks.Block.{Block}
use Rattle.macroblock_layer.specs.Written.{levels_at, blocks_text}

-- a fact of each of the six
pub six : (P : ℕ → Type 0) → P 0 → P 1 → P 2 → P 3 → P 4 → P 5 → (k : ℕ) → k < 6 → P k
six P a b c d e f zero lt = a
six P a b c d e f (suc zero) lt = b
six P a b c d e f (suc (suc zero)) lt = c
six P a b c d e f (suc (suc (suc zero))) lt = d
six P a b c d e f (suc (suc (suc (suc zero)))) lt = e
six P a b c d e f (suc (suc (suc (suc (suc zero))))) lt = f
six P a b c d e f (suc (suc (suc (suc (suc (suc k)))))) lt = absurd (omega arith)

-- the text of the blocks that are left
abbrev pub left : (List ℤ → List Bool) → List Block → ℕ → List Bool
left text blocks k = blocks_text text (drop k blocks)

-- it is that of the next block, and of the others
pub next : (text : List ℤ → List Bool) (blocks : List Block) (k : ℕ) → k < length blocks
    → left text blocks k ≡ text (levels_at blocks k) ++ left text blocks (k + 1)
unfolding blocks_text
next text blocks k inside =
    let split : drop k blocks ≡ slice_index_or blocks k (record { levels = [] }) ∷ drop (k + 1) blocks =
    rw (add-one) (drop-cons blocks k (record { levels = [] }) inside) in
    ap (λ (l : List Block). blocks_text text l) split

-- what is left of the blocks' texts is the next one and the rest
pub next_length : (text : List ℤ → List Bool) (blocks : List Block) (k : ℕ) → k < length blocks
    → length (left text blocks k) ≡ length (text (levels_at blocks k)) + length (left text blocks (k + 1))
next_length text blocks k inside = ap length (next text blocks k inside)
    ∙ length-append (text (levels_at blocks k)) (left text blocks (k + 1))

-- a block more is written, and the rest is left
pub goes : (text : List ℤ → List Bool) (blocks : List Block) (k : ℕ) (old new all : List Bool) → k < length blocks
    → new ≡ old ++ text (levels_at blocks k) → old ++ left text blocks k ≡ all → new ++ left text blocks (k + 1) ≡ all
goes text blocks k old new all inside wrote before =
    ap (λ (l : List Bool). l ++ left text blocks (k + 1)) wrote
    ∙ append_assoc old (text (levels_at blocks k)) (left text blocks (k + 1))
    ∙ ap (λ (l : List Bool). old ++ l) (sym (next text blocks k inside))
    ∙ before

-- after the last block nothing is left
pub none_left_text : (text : List ℤ → List Bool) (blocks : List Block) (k : ℕ) → length blocks ≤ k
    → left text blocks k ≡ []
unfolding blocks_text
none_left_text text blocks k past = rw (drop_all k blocks past) refl

-- then all is written
pub ended : (text : List ℤ → List Bool) (blocks : List Block) (k : ℕ) (new all : List Bool) → length blocks ≤ k
    → new ++ left text blocks k ≡ all → new ≡ all
ended text blocks k new all past h = sym (append-nil new)
    ∙ ap (λ (l : List Bool). new ++ l) (sym (none_left_text text blocks k past)) ∙ h
