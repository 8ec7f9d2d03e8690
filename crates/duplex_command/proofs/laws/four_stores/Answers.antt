use Rattle.std.proofs.Common.{arith}
use Rattle.h263_types.specs.declared.params.Params.{Params}
use Rattle.h263_types.specs.Params.{IsParams}
use Rattle.call_model.specs.Lawful.{IsPace}
use Rattle.duplex_ends.specs.Ways.{sides}
use Rattle.one_way.specs.Both.{steady}
use Rattle.duplex_command.proofs.laws.four_stores.Goals as goal

-- the quantiser of the parameters is in its range
steady_is : (p : Params) → IsParams p → IsPace (steady p)
steady_is p is sizes few = (omega (arith, is.quant_low), omega (arith, is.quant_high))

pub returns : goal.returns
returns c = λ p captures past in_range near x.
    c.four_stores.ensures (sides p) captures past
    (λ y. record {
      coding = c.is_coding.ensures (p y) (in_range y);
      rules = c.are_rules.ensures (p y) (in_range y);
      pace = steady_is (p y) (in_range y);
    }) near x
