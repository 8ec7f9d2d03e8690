use Rattle.std.proofs.Common.{[], ◌∷◌, ◌++◌, subst}
use Rattle.h263_types.specs.declared.blocks.Mb.{Mb}
use Rattle.packet_cutter.specs.Cutting.{HoldsMbs}
use Rattle.packet_cutter.proofs.cutter.Cutter.add.Goals as goal

pub returns-clause-holds : goal.returns-clause-holds
returns-clause-holds c = λ number h mbs holds.
    subst (λ (m : Mb). HoldsMbs c.add_marked.new.self number h (mbs ++ m ∷ [])) c.of.ensures.mb
    (c.add_marked.ensures.holds number h mbs holds)
