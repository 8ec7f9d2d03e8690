use Rattle.std.specs.Option.{option_map}
use Rattle.h263_planes.specs.Lent.{picture}
use Rattle.mode_choice.proofs.macroblock.choose.Goals as goal

pub choose_into-requires-clause-sums : goal.choose_into-requires-clause-sums
choose_into-requires-clause-sums c = c.new-chosen.ensures.sums (option_map picture c.args.reference)
