use Rattle.std.proofs.Common.{arith, ◌≤◌, ◌*◌, ◌+◌, List, ℕ, w8, w32, sym, ap, ◌∙◌, subst, Fits, zero-add}
use lib.Lanes.{chunk, zip2, fold_l, Steps}
use Rattle.std.specs.Int.{abs_diff}
use Rattle.std.proofs.lemmas.Simd.{sum_fits, fold-sum, length-chunk, chunk-fits, below_from_Fits}
use Rattle.sad_kernel.specs.Differences.{differences}
use Rattle.sad_kernel.proofs.Sums.{differences_small}
use Rattle.sad_kernel.proofs.of_sixteen.Goals as goal

pub overflow_add-result : goal.overflow_add-result
overflow_add-result c =
    let x = chunk c.args.at 16 c.args.a.now in
    let y = chunk c.args.at 16 c.args.b.now in
    let hx = below_from_Fits w8 x (chunk-fits w8 c.args.at 16 c.args.a.now c.type_inv.a) in
    let hy = below_from_Fits w8 y (chunk-fits w8 c.args.at 16 c.args.b.now c.type_inv.b) in
    let small : differences x y ≤ 255 * 16 = differences_small x y 16
    (length-chunk c.args.at 16 c.args.a.now c.requires.a) (length-chunk c.args.at 16 c.args.b.now c.requires.b) hx
    hy in
    let fits : Steps (λ s k. Fits w32 (s + k)) (λ s k. s + k) 0 (zip2 abs_diff x y) = sum_fits w32 0 (zip2 abs_diff x y)
    (omega arith) in
    subst (λ (l : List ℕ). Steps (λ s k. Fits w32 (s + k)) (λ s k. s + k) 0 l) (sym c.lanes.ensures.value) fits

pub returns : goal.returns
returns c =
    let x = chunk c.args.at 16 c.args.a.now in
    let y = chunk c.args.at 16 c.args.b.now in
    ap (λ (l : List ℕ). fold_l (λ s k. s + k) 0 l) c.lanes.ensures.value ∙ fold-sum 0 (zip2 abs_diff x y)
    ∙ zero-add (differences x y)
