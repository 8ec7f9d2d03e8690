use Rattle.std.proofs.Common.{◌≡◌, ℕ, List, ◌++◌, sym, ap, subst, ◌∙◌}
use Rattle.call_model.specs.JoinedRun.{SaidMessage}
use Rattle.one_way.specs.Both.{both_after, steady}
use Rattle.one_way.specs.Network.{HasMessages, told_by}
use Rattle.one_way.proofs.network.Network.play.Goals as goal

pub returns-clause-holds : goal.returns-clause-holds
returns-clause-holds c = λ p sender before frames past h near.
    let played = c.play-played.ensures in
    let said = (both_after p (steady p) frames before past).said in
    let number : said ++ told_by c.play-played.result.number c.play-played.result.message ≡ said
    ++ told_by c.args.receiver.now.played c.play-played.result.message =
    ap (λ (n : ℕ). said ++ told_by n c.play-played.result.message) c.play-played.ensures.number
    in
    record {
      way_holds = played.holds p sender before frames past h.way_holds near;
      messages_are = subst (λ (said : List SaidMessage). HasMessages c.keep_message.new.messages said) (number
          ∙ sym (played.says p sender before frames past h.way_holds))
          (c.keep_message.ensures.kept said h.messages_are);
    }

pub returns-clause-mark : goal.returns-clause-mark
returns-clause-mark c = λ p sender before frames past h. c.play-played.ensures.mark p sender before frames past
    h.way_holds
