use Rattle.std.proofs.Common.{sym, ◌∙◌}
use Rattle.std.proofs.lemmas.Result.{err_from_is_err_and}
use Rattle.h263_bits.proofs.SyntaxLaws.{repeat-again, repeat-finally, repeat-err, turn_shorter}
use Rattle.macroblock_layer.specs.Text.{lead, lead_turn}
use Rattle.macroblock_layer.proofs.Leads.{lead_some}
use Rattle.macroblock_layer.proofs.reading.read_lead.Goals as goal

pub turns-smaller : goal.turns-smaller
turns-smaller c = turn_shorter tt tt (lead_turn c.args.kind) c.turns.reader c.read_lead_turn.new.reader
    (lead_some c.args.kind) (rw c.in-None.is at c.in_ok-lead.ensures)

pub turns-preserved : goal.turns-preserved
unfolding lead
turns-preserved c = sym (repeat-again tt tt (lead_turn c.args.kind) c.turns.reader c.read_lead_turn.new.reader
    (lead_some c.args.kind) (rw c.in-None.is at c.in_ok-lead.ensures)) ∙ c.turns.invariant

pub returns-in_err-lead : goal.returns-in_err-lead
unfolding lead
returns-in_err-lead c =
    let p = err_from_is_err_and c.from_residual.result c.from_residual.ensures.1 in
    rw (p.1, p.2) (sym c.turns.invariant ∙ repeat-err tt _ (lead_turn c.args.kind) c.turns.reader c.in_err-lead.ensures)

pub returns-in-Some : goal.returns-in-Some
unfolding lead
returns-in-Some c = sym c.turns.invariant
    ∙ repeat-finally tt c.in-Some.lead (lead_turn c.args.kind) c.turns.reader c.read_lead_turn.new.reader
    (rw c.in-Some.is at c.in_ok-lead.ensures)
