use Rattle.std.proofs.Common.{arith}
use Rattle.std.proofs.lemmas.Simd.{length-put_chunk, get_or-put_chunk_at}
use Rattle.motion_search.proofs.Held.{put_apart}
use Rattle.motion_search.proofs.kept.put.Goals as goal

pub returns-clause-length : goal.returns-clause-length
returns-clause-length c = length-put_chunk c.args.at c.args.out.now c.args.sums

pub returns-clause-others : goal.returns-clause-others
returns-clause-others c = put_apart c.args.at c.args.out.now c.args.sums c.requires.sums

pub returns-clause-stored : goal.returns-clause-stored
returns-clause-stored c = λ i hi. get_or-put_chunk_at c.args.at c.args.out.now c.args.sums i 0
    (omega (arith, hi, c.requires.sums)) (omega (arith, c.requires.sums, c.requires.room))
