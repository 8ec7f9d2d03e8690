use Rattle.std.proofs.Common.{◌<◌, Option, ap, sym, subst}
use Rattle.std.specs.Prelude.{IfSome}
use Rattle.code_tables.specs.declared.code.Level.{Level}
use Rattle.std.proofs.lemmas.Result.{err_from_is_err_and}
use Rattle.code_tables.specs.declared.event_tables.TheConstants.{LEVELS}
use Rattle.code_tables.specs.Tables.{event_table}
use Rattle.code_tables.specs.Events.{event_of_code}
use Rattle.code_tables.proofs.SeenEvents.{found, fault, small, all_small}
use Rattle.code_tables.proofs.words.read_event_word.Goals as goal

pub returns-in_err-place-clause-reads : goal.returns-in_err-place-clause-reads
unfolding event_table
returns-in_err-place-clause-reads c =
    let p = err_from_is_err_and c.from_residual.result c.from_residual.ensures.1 in
    rw (p.1, p.2) (fault c.args.reader.now _ c.in_err-place.ensures.reads)

pub returns-clause-reads : goal.returns-clause-reads
unfolding event_table
returns-clause-reads c = found c.args.reader.now _ _ _ c.in_ok-place.ensures.reads (ap event_of_code c.level_at.ensures)

pub returns-clause-small : goal.returns-clause-small
returns-clause-small c = subst (λ (o : Option Level). IfSome o (λ level. level.size < 128)) (sym c.level_at.ensures)
    (small LEVELS c.in_ok-place.place all_small)
