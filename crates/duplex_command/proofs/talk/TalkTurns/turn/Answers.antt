use Rattle.std.proofs.Common.{refl}
use Rattle.duplex_command.proofs.TalkTurning.{where_going, where_settled}
use Rattle.duplex_command.proofs.talk.TalkTurns.turn.Goals as goal

pub returns-clause-gives : goal.returns-clause-gives
returns-clause-gives g c = c.line_turn.ensures.gives

pub returns-clause-whole : goal.returns-clause-whole
returns-clause-whole g c = c.line_turn.ensures.whole

pub returns-clause-source : goal.returns-clause-source
returns-clause-source g c = where_going c.line_turn.result _ refl

pub returns-clause-leaves : goal.returns-clause-leaves
returns-clause-leaves g c = where_settled c.line_turn.result _ tt
