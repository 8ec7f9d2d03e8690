use Rattle.std.proofs.Common.{◌≡◌, ◌+◌, ◌*◌, ◌-◌, ◌<◌, ◌^◌, ◌∙◌, ap, arith, lit≤, pos, ℤ, List, ℕ, take, drop, get_or, length, length-drop, sym, subst, zero-add}
use lib.Lanes.{chunk}
use Rattle.std.proofs.lemmas.List.{get_or-take, get_or-drop, length-take}
use Rattle.std.proofs.lemmas.Simd.{length-chunk, get_or-chunk}
use Rattle.idct8.specs.Ranges.{Within}
use Rattle.idct8.specs.Transform.{entry}
use Rattle.idct8.specs.Vectors.{lane, EightWithin}
use Rattle.idct8.proofs.Vectors.{passed_lane16, passed_within16}
use Rattle.idct8.proofs.two_passes.row.Goals as goal

loaded : (block : List ℤ) (j i : ℕ) → j < 8 → i < 8 → lane (chunk 0 8 (take (64 - 8 * j) (drop (8 * j) block))) i
    ≡ entry block j i
loaded block j i hj hi =
    get_or-chunk 0 8 (take (64 - 8 * j) (drop (8 * j) block)) i (pos 0) hi
    ∙ ap (λ k. get_or (take (64 - 8 * j) (drop (8 * j) block)) k (pos 0)) (zero-add i)
    ∙ get_or-take (64 - 8 * j) (drop (8 * j) block) i (pos 0) (omega arith)
    ∙ get_or-drop (8 * j) block i (pos 0)

loaded_within : (block : List ℤ) (j : ℕ) → j < 8 → length block ≡ 64
    → ((i : ℕ) → i < 8 → Within (2 ^ 11) (entry block j i))
    → EightWithin (2 ^ 11) (chunk 0 8 (take (64 - 8 * j) (drop (8 * j) block)))
loaded_within block j hj long h = record {
  long = length-chunk 0 8 (take (64 - 8 * j) (drop (8 * j) block))
      (omega (arith, length-take (64 - 8 * j) (drop (8 * j) block), length-drop (8 * j) block));
  within = λ i hi. subst (λ (z : ℤ). Within (2 ^ 11) z) (sym (loaded block j i hj hi)) (h i hi);
}

pub returns-clause-numbers : goal.returns-clause-numbers
returns-clause-numbers c i hi =
    passed_lane16 (2 ^ 11) i (lit≤ tt) (loaded_within c.args.block.now c.args.j c.requires.j (omega arith)
    (λ i hi. c.requires.block (8 * c.args.j + i) (pos 0) (omega arith)))
    ∙ loaded c.args.block.now c.args.j i c.requires.j hi

pub returns-clause-size : goal.returns-clause-size
returns-clause-size c =
    passed_within16 (2 ^ 11) 8191 (lit≤ tt) (lit≤ tt) (loaded_within c.args.block.now c.args.j c.requires.j
    (omega arith) (λ i hi. c.requires.block (8 * c.args.j + i) (pos 0) (omega arith)))
