use Rattle.std.proofs.Common.{◌≡◌, ◌∙◌, ap, arith, take, drop, take_all, length-drop}
use Rattle.sad_kernel.specs.Differences.{differences}
use Rattle.mode_choice.proofs.Differences.{halves}
use Rattle.mode_choice.proofs.deviation.halves_apart.Goals as goal

pub returns-clause-less : goal.returns-clause-less
returns-clause-less c = λ n.
    let xs = c.args.samples.now in
    let lower : take 128 (drop 128 xs) ≡ drop 128 xs = take_all 128 (drop 128 xs) (omega (
      arith,
      length-drop 128 xs,
      c.told-samples,
    )) in
    let e : c.sad.result ≡ differences (take 128 xs) (drop 128 xs) = c.sad.ensures.value
    ∙ ap (differences (take 128 xs)) lower in
    omega (arith, e, halves xs n c.told-samples)
