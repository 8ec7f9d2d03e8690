use Rattle.std.proofs.Common.{arith}
use Rattle.std.proofs.lemmas.Simd.{length-put_chunk, get_or-put_chunk_below, get_or-put_chunk_at}
use Rattle.half_sample.proofs.rows.store.Goals as goal

pub returns-clause-length : goal.returns-clause-length
returns-clause-length g c = length-put_chunk c.args.at c.args.out.now c.args.samples

pub returns-clause-before : goal.returns-clause-before
returns-clause-before g c = λ k hk. get_or-put_chunk_below c.args.at c.args.out.now c.args.samples k 0 hk

pub returns-clause-stored : goal.returns-clause-stored
returns-clause-stored g c = λ i hi. get_or-put_chunk_at c.args.at c.args.out.now c.args.samples i 0
    (omega (arith, hi, c.requires.samples)) (omega (arith, c.requires.samples, c.requires.room))
