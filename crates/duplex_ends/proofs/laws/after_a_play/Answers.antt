use Rattle.std.proofs.Common.{refl}
use Rattle.h263_types.specs.declared.params.Params.{Params}
use Rattle.call_encoding.specs.Frames.{Frame}
use Rattle.duplex_call.specs.declared.line.Party.{Party}
use Rattle.duplex_call.specs.declared.line.Party.TheVariants.{A, B}
use Rattle.duplex_call.specs.Duplex.{WayRuns}
use Rattle.duplex_ends.specs.Laws.{AfterPlay}
use Rattle.duplex_ends.proofs.laws.after_a_play.Goals as goal

after_play : (p : Party → Params) (x : Party) (ways : WayRuns Frame) → AfterPlay p x ways
after_play p A ways = record { coded = refl; played = refl; plays = refl }
after_play p B ways = record { coded = refl; played = refl; plays = refl }

pub returns : goal.returns
returns c = after_play
