use Rattle.std.proofs.Common.{◌≡◌}
use Rattle.h263_types.specs.Clocks.{period_of}
use Rattle.group_call.specs.Holding.{HoldsBroadcast, IsCasting, params_in, cast_period, sent_in}
use Rattle.group_command.specs.Group.{after_joins}
use Rattle.group_command.proofs.begin.joined.Given as goal

-- the receivers below `place` have joined
abbrev pub invariant-places : goal.invariant-places
invariant-places l = record {
  params : params_in l.cast ≡ l.params;
  sent : sent_in l.cast ≡ 0;
  kept : cast_period l.cast ≡ period_of l.params.clock;
  casting : IsCasting l.cast;
  holds : HoldsBroadcast l.params l.cast (after_joins l.place);
}
