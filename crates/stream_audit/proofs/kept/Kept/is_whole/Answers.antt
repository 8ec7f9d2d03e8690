use Rattle.std.proofs.Common.{◌∙◌, ℕ, ◌-◌, ap}
use Rattle.h263_types.specs.declared.format.Format.{Format}
use Rattle.packet_collector.specs.Taken.{is_whole}
use Rattle.stream_audit.proofs.Keeping.{whole_none, whole_where}
use Rattle.stream_audit.proofs.kept.Kept.is_whole.Goals as goal

pub returns-in-None : goal.returns-in-None
returns-in-None c = λ items keeps. whole_none c.args.self.now items keeps c.in-None.is

pub returns-in-Some : goal.returns-in-Some
returns-in-Some c = λ items keeps.
    c.whole.ensures _ keeps.taken keeps.collects
    ∙ ap (λ (n : ℕ). is_whole c.args.self.now.collector.format keeps.taken n) c.present.ensures
    ∙ ap (λ (f : Format). is_whole f keeps.taken (c.args.self.now.pictures - 1)) c.requires.format
    ∙ whole_where c.args.self.now items keeps _ c.in-Some.is
