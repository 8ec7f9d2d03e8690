use Rattle.std.proofs.Common.{refl}
use Rattle.slice_layer.proofs.Holding.{begun}
use Rattle.slice_layer.proofs.writing.SliceWriter.start.Goals as goal

pub returns-clause-holds : goal.returns-clause-holds
returns-clause-holds c = begun _ c.args.header.now c.args.begins c.args.first c.write_front-len.ensures.text
    c.write_front-len.ensures.len refl refl refl refl refl refl
