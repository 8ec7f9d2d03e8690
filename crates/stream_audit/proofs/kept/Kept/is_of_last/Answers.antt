use Rattle.std.proofs.Common.{◌∙◌, sym}
use Rattle.stream_audit.proofs.Judged.{last_own, some_before}
use Rattle.stream_audit.proofs.kept.Kept.is_of_last.Goals as goal

pub returns-clause-some : goal.returns-clause-some
returns-clause-some c is = some_before c.args.self.now c.requires c.args.piece.now.header.tr (sym c.is_last.ensures
    ∙ is)

pub returns-clause-value : goal.returns-clause-value
returns-clause-value c items q keeps spells = c.is_last.ensures
    ∙ last_own c.args.self.now items c.args.piece.now q keeps spells
