use Rattle.std.proofs.Common.{List, sym, subst}
use Rattle.call_model.specs.JoinedRun.{SaidMessage}
use Rattle.one_way.specs.Both.{both_after, steady}
use Rattle.one_way.specs.Network.{HasMessages}
use Rattle.one_way.proofs.network.Network.deliver.Goals as goal

pub returns-clause-holds : goal.returns-clause-holds
returns-clause-holds c = λ p sender before frames past h among near.
    let told = c.deliver-told.ensures in
    record {
      way_holds = told.holds p sender before frames past h.way_holds among near;
      messages_are = subst (λ (said : List SaidMessage). HasMessages c.keep_message.new.messages said)
          (sym (told.says p sender before frames past h.way_holds among))
          (c.keep_message.ensures.kept (both_after p (steady p) frames before past).said h.messages_are);
    }
