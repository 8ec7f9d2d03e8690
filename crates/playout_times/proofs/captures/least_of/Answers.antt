use Rattle.std.proofs.Common.{◌<◌, length, get_or, take, arith, ap, ◌∙◌, [], ◌∷◌}
use Rattle.std.proofs.lemmas.List.{take_more}
use Rattle.playout_times.specs.Ways.{least_number}
use Rattle.playout_times.proofs.Choosing.{least-append}
use Rattle.playout_times.proofs.captures.least_of.Goals as goal

pub loop-time-preserved : goal.loop-time-preserved
loop-time-preserved c =
    let i = c.loop-time.time-index in
    let xs = c.args.captured.now in
    let more : i < length xs = omega arith in
    let e = ap least_number (take_more xs i 0 more) ∙ least-append (take i xs) (get_or xs i 0 ∷ []) in
    let small = c.type_inv.captured i in
    omega (arith, e, small)
