use Rattle.std.proofs.Common.{◌∙◌, ap}
use Rattle.std.proofs.lemmas.Iterator.{items_from_collect}
use Rattle.std.proofs.lemmas.Iterator.Adapters.{YieldsList-from_vec, YieldsList-from_skip}
use Rattle.std.specs.Vec.Iter.{into_iter_items, into_iter_len}
use Rattle.h263rps_run.proofs.process.words_of.Goals as goal

-- what `skip` leaves of the arguments is collected
pub returns : goal.returns
returns c =
    let source = c.skip.ensures.source in
    let given = YieldsList-from_vec {s = c.skip.result.iter} (into_iter_items c.args.args) (ap into_iter_items source)
    (ap into_iter_len source ∙ c.args.args.rest.ok.0) in
    items_from_collect _ c.collect.ensures.ran (YieldsList-from_skip 1 given c.skip.ensures.count)
