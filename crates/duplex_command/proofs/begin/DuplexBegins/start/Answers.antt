-- Both heads are read and both parties stand, or the run ends as the first fault says.
use Rattle.std.proofs.Common.{rules, subst}
use Rattle.h263_types.specs.declared.format.Format.{Format}
use Rattle.call_report.specs.declared.status.Status.TheVariants.{OutOfMemory}
use Rattle.desk_program.specs.Ends.{Gains, GainsFronts}
use Rattle.duplex_command.specs.Begin.{duplex_begin, duplex_run, both_heads, in_formats}
use Rattle.duplex_command.specs.Duplex.{duplex_step, talk_may_read}
use Rattle.duplex_command.proofs.Starting.{all_may_come, ends_so, heads_cut, heads_go, starved_cause, stations_ready}
use Rattle.duplex_command.proofs.begin.DuplexBegins.start.Goals as goal
use Rattle.call_command.specs.Call.{most_lines}

pub returns-in_err-heads-clause-ends : goal.returns-in_err-heads-clause-ends
returns-in_err-heads-clause-ends g c = λ inputs told.
    let outside = g.D.Desk.outside in
    let p = c.args.setup.now in
    let old = outside c.args.desk.now in
    let new = outside c.read_heads.new.desk in
    ends_so c.from_residual.result c.in_err-heads.field-0.0 (duplex_run p inputs) inputs old.written new
    c.from_residual.ensures.1
    (c.run_laws.ensures.gives_up (duplex_begin p inputs) duplex_step most_lines inputs old new c.in_err-heads.field-0.0
    (c.in_err-heads.ensures.stops p inputs told))

pub returns-in_err-talk-clause-ends : goal.returns-in_err-talk-clause-ends
returns-in_err-talk-clause-ends g c = λ inputs told.
    let outside = g.D.Desk.outside in
    let p = c.args.setup.now in
    let old = outside c.args.desk.now in
    let new = outside c.read_heads.new.desk in
    ends_so c.from_residual-in_err-talk.result OutOfMemory (duplex_run p inputs) inputs old.written new
    c.from_residual-in_err-talk.ensures.1
    (c.run_laws.ensures.gives_up (duplex_begin p inputs) duplex_step most_lines inputs old new OutOfMemory
    c.read_heads.ensures.rest.written)

pub returns-in-Err-clause-ends : goal.returns-in-Err-clause-ends
returns-in-Err-clause-ends g c = λ inputs told.
    let outside = g.D.Desk.outside in
    let p = c.args.setup.now in
    let heads = c.in_ok-heads.heads in
    let old = outside c.args.desk.now in
    let mid = outside c.read_heads.new.desk in
    let new = outside c.write_heads.new.desk in
    let cut = subst (λ (g : Format). GainsFronts (both_heads heads.a.format g) mid.written new.written)
    c.format-2.ensures
    (subst (λ (f : Format). GainsFronts (both_heads f c.format-2.result) mid.written new.written) c.format.ensures
    c.in-Err.ensures.err) in
    c.run_laws.ensures.gives_up (duplex_begin p inputs) duplex_step most_lines inputs old new c.in-Err.status
    (heads_cut p heads inputs old mid (c.in_ok-heads.ensures.reads inputs told) c.read_heads.ensures.rest.written
    c.in-Err.status new c.in-Err.ensures.kind cut)

pub returns-clause-goes : goal.returns-clause-goes
returns-clause-goes g c = λ inputs told.
    let outside = g.D.Desk.outside in
    let p = c.args.setup.now in
    let heads = c.in_ok-heads.heads in
    let talk = c.in_ok-talk.talk in
    let says = c.in_ok-heads.ensures in
    let old = outside c.args.desk.now in
    let mid = outside c.read_heads.new.desk in
    let new = outside c.write_heads.new.desk in
    let laws = c.pair_laws.ensures (in_formats p heads.a.format heads.b.format) in
    let gains = subst (λ (g : Format). Gains (both_heads heads.a.format g) mid.written new.written) c.format-2.ensures
    (subst (λ (f : Format). Gains (both_heads f c.format-2.result) mid.written new.written) c.format.ensures
    c.in_default.ensures.ok) in
    c.run_laws.ensures.begins talk (duplex_begin p inputs) duplex_step talk_may_read most_lines inputs old new
    (all_may_come p heads talk c.in_ok-talk.ensures laws c.requires.params says.more_a says.more_b)
    (heads_go p heads talk c.in_ok-talk.ensures laws c.requires.params says.more_a says.more_b inputs old mid
    (says.reads inputs told) c.read_heads.ensures.rest.written new c.write_heads.ensures.rest.left gains)

pub returns-clause-ready : goal.returns-clause-ready
returns-clause-ready g c =
    let outside = g.D.Desk.outside in
    let p = c.args.setup.now in
    let heads = c.in_ok-heads.heads in
    let says = c.in_ok-heads.ensures in
    let opens = c.requires.opens in
    record {
      opens = search rules;
      stations = stations_ready p heads c.in_ok-talk.talk c.in_ok-talk.ensures
          (c.pair_laws.ensures (in_formats p heads.a.format heads.b.format)) c.requires.params says.more_a says.more_b;
    }

pub returns-in_err-talk-clause-cause : goal.returns-in_err-talk-clause-cause
returns-in_err-talk-clause-cause g c =
    let outside = g.D.Desk.outside in
    starved_cause c.from_residual-in_err-talk.result (outside c.args.desk.now).faults
    (outside c.read_heads.new.desk).faults c.from_residual-in_err-talk.ensures.1 c.in_ok-heads.ensures.ok_faults
