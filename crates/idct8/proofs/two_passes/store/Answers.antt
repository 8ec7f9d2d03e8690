use Rattle.std.proofs.Common.{◌*◌, ◌-◌, ◌∙◌, ◌++◌, List, ℤ, take, drop, ap, arith, lit≤}
use lib.Lanes.{put_chunk}
use Rattle.idct8.proofs.Stores.{stored}
use Rattle.idct8.proofs.Vectors.{passed}
use Rattle.idct8.proofs.two_passes.store.Goals as goal

pub returns : goal.returns
returns c =
    ap (λ (v : List ℤ). take (8 * c.args.r) c.args.out.now
    ++ (put_chunk 0 (take (64 - 8 * c.args.r) (drop (8 * c.args.r) c.args.out.now)) v
    ++ drop (64 - 8 * c.args.r) (drop (8 * c.args.r) c.args.out.now))) (passed 270000 (lit≤ tt) c.requires.v)
    ∙ stored c.args.out.now c.args.v (8 * c.args.r) (64 - 8 * c.args.r) (omega arith) (omega (arith, c.requires.v.long))
