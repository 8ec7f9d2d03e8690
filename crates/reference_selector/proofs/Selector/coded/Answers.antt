use Rattle.std.proofs.Common.{refl, arith}
use Rattle.reference_selector.proofs.Keeping.{coded_more}
use Rattle.reference_selector.proofs.Selector.coded.Goals as goal

pub returns : goal.returns
returns c rules depths known depth_is known_is stands =
    coded_more c.one_in_a_period.ensures rules c.args.self.now _ c.args.number c.args.depth depths known
    (omega (arith, c.args.self.now.room)) (omega arith) (omega arith) depth_is known_is refl refl refl refl
    refl stands
