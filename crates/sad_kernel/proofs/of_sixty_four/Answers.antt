use Rattle.std.proofs.Common.{◌∙◌}
use Rattle.sad_kernel.proofs.Sums.{four_parts}
use Rattle.sad_kernel.proofs.of_sixty_four.Goals as goal

pub returns : goal.returns
returns c =
    c.sad_of_four.ensures.value
    ∙ cc (
      c.sixteen.ensures.value,
      c.sixteen-2.ensures.value,
      c.sixteen-3.ensures.value,
      c.sixteen-4.ensures.value,
      c.sixteen-5.ensures.value,
      c.sixteen-6.ensures.value,
      c.sixteen-7.ensures.value,
      c.sixteen-8.ensures.value,
    )
    ∙ four_parts c.args.a.now c.args.b.now c.args.at c.requires.a c.requires.b
