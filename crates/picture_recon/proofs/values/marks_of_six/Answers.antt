use Rattle.std.proofs.Common.{ℕ, zero, suc, ◌<◌, List, [], ◌∷◌, arith}
use Rattle.std.specs.Prelude.{slice_index_or}
use Rattle.picture_recon.specs.Marks.{AreMarked}
use Rattle.picture_recon.specs.Samples.{block_in}
use Rattle.picture_recon.proofs.values.marks_of_six.Goals as goal

six : (P : ℕ → Type 0) → P 0 → P 1 → P 2 → P 3 → P 4 → P 5 → (k : ℕ) → k < 6 → P k
six P a b c d e f zero h = a
six P a b c d e f (suc zero) h = b
six P a b c d e f (suc (suc zero)) h = c
six P a b c d e f (suc (suc (suc zero))) h = d
six P a b c d e f (suc (suc (suc (suc zero)))) h = e
six P a b c d e f (suc (suc (suc (suc (suc zero))))) h = f
six P a b c d e f (suc (suc (suc (suc (suc (suc k)))))) h = absurd (omega arith)

pub returns : goal.returns
returns c =
    let marks : List ℕ = c.marks_of.result ∷ c.marks_of-2.result ∷ c.marks_of-3.result ∷ c.marks_of-4.result ∷
    c.marks_of-5.result ∷ c.marks_of-6.result ∷ [] in
    six (λ b. AreMarked (block_in c.args.blocks.now b).levels (slice_index_or marks b 0)) c.marks_of.ensures
    c.marks_of-2.ensures c.marks_of-3.ensures c.marks_of-4.ensures c.marks_of-5.ensures c.marks_of-6.ensures
