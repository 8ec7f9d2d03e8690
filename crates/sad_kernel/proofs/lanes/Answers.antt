use Rattle.std.proofs.Common.{◌≤◌, w8, subst, sym, List, ℕ, ◌∙◌, ap, length}
use Rattle.std.specs.Int.{abs_diff}
use lib.Lanes.{chunk, Each1}
use Rattle.std.proofs.lemmas.Simd.{chunk-fits, below_from_Fits, length-chunk, length-zip2}
use Rattle.sad_kernel.proofs.Sums.{lanes_differ, small_difference}
use Rattle.sad_kernel.proofs.lanes.Goals as goal

pub returns-clause-value : goal.returns-clause-value
returns-clause-value c =
    let x = chunk c.args.at 16 c.args.a.now in
    let y = chunk c.args.at 16 c.args.b.now in
    lanes_differ x y (below_from_Fits w8 x (chunk-fits w8 c.args.at 16 c.args.a.now c.type_inv.a))
    (below_from_Fits w8 y (chunk-fits w8 c.args.at 16 c.args.b.now c.type_inv.b))

pub returns-clause-length : goal.returns-clause-length
returns-clause-length c =
    let x = chunk c.args.at 16 c.args.a.now in
    let y = chunk c.args.at 16 c.args.b.now in
    let long = length-chunk c.args.at 16 c.args.a.now c.requires.a in
    ap length (lanes_differ x y (below_from_Fits w8 x (chunk-fits w8 c.args.at 16 c.args.a.now c.type_inv.a))
    (below_from_Fits w8 y (chunk-fits w8 c.args.at 16 c.args.b.now c.type_inv.b)))
    ∙ length-zip2 abs_diff x y (long ∙ sym (length-chunk c.args.at 16 c.args.b.now c.requires.b)) ∙ long

pub returns-clause-most : goal.returns-clause-most
returns-clause-most c =
    let x = chunk c.args.at 16 c.args.a.now in
    let y = chunk c.args.at 16 c.args.b.now in
    let hx = below_from_Fits w8 x (chunk-fits w8 c.args.at 16 c.args.a.now c.type_inv.a) in
    let hy = below_from_Fits w8 y (chunk-fits w8 c.args.at 16 c.args.b.now c.type_inv.b) in
    subst (λ (l : List ℕ). Each1 (λ (d : ℕ). d ≤ 255) l) (sym (lanes_differ x y hx hy)) (small_difference x y hx hy)
