use Rattle.recv_command.proofs.laws.no_joined_video_refused.Goals as goal

pub returns-clause-first : goal.returns-clause-first
returns-clause-first c = λ p inputs fault ends. c.no_video_refused.ensures.first p inputs fault ends

pub returns-clause-second : goal.returns-clause-second
returns-clause-second c = λ p inputs fault ends. c.no_video_refused.ensures.second p inputs fault ends
