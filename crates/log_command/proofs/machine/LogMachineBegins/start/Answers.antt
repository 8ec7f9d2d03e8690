-- What comes before the first entry stands, or ends the run for want of memory or by a failed write.
use Rattle.std.proofs.Common.{ℕ, ◌-◌, true, Bool, sym, ap, ◌∙◌, subst, rules}
use Rattle.h263_outside.specs.declared.desk.Role.{Role}
use Rattle.h263_outside.specs.declared.desk.Role.TheVariants.{Events}
use Rattle.call_report.specs.declared.status.Status.{Status}
use Rattle.desk_program.specs.Ends.{HasEnded, IsUnstarted, silent}
use Rattle.log_command.specs.declared.machine.LogMachine.{LogMachine}
use Rattle.log_command.specs.Log.{LogStands, log_begin, log_run, log_step}
use Rattle.log_command.proofs.Beginning.{begun, by_answer, first_stops, is_unstarted}
use Rattle.log_command.proofs.machine.LogMachineBegins.start.Goals as goal

pub returns-in_err-start-clause-ends : goal.returns-in_err-start-clause-ends
returns-in_err-start-clause-ends g c = λ inputs told.
    let old = g.D.Desk.outside c.args.desk.now in
    let new = g.D.Desk.outside c.start.new.desk in
    let command = g.C.LogCommand in
    let first = command.first c.args.setup.now in
    let head = command.head c.args.setup.now in
    let status = c.in_err-start.field-0.0 in
    by_answer c.from_residual-in_err-start.result status
    (λ (s : Status). HasEnded (log_run command.rules first head inputs) silent s inputs old.written new)
    c.from_residual-in_err-start.ensures.1
    (c.run_laws.ensures.gives_up (log_begin first head) (log_step command.rules) 16777216 inputs old new status
    (first_stops status head old new c.in_err-start.ensures.err first inputs))

pub returns-in_err-start-clause-stop : goal.returns-in_err-start-clause-stop
returns-in_err-start-clause-stop g c =
    let outside = g.D.Desk.outside in
    let status = c.in_err-start.field-0.0 in
    by_answer c.from_residual-in_err-start.result status IsUnstarted c.from_residual-in_err-start.ensures.1
    (is_unstarted status (g.C.LogCommand.head c.args.setup.now) (outside c.args.desk.now) (outside c.start.new.desk)
    c.in_err-start.ensures.err)

pub returns-clause-goes : goal.returns-clause-goes
returns-clause-goes g c = λ inputs told.
    let old = g.D.Desk.outside c.args.desk.now in
    let new = g.D.Desk.outside c.start.new.desk in
    let command = g.C.LogCommand in
    let first = command.first c.args.setup.now in
    let head = command.head c.args.setup.now in
    let machine : LogMachine g.row.C.Denot = record {
      command = c.in_ok-start.field-0;
      reader = c.new.result;
      buffer = c.in_ok-buffer.buffer;
    } in
    c.run_laws.ensures.begins machine (log_begin first head) (log_step command.rules) (λ _. true) 16777216 inputs old
    new (ap (λ (n : ℕ). 16777216 - n) c.new.ensures.entries)
    (begun c.turn_laws.ensures first head (LogStands command.stands machine) inputs old new told
    c.in_ok-start.ensures.rest.left c.in_ok-start.ensures.ok
    (record { mind = c.in_ok-start.ensures.stands; at = sym c.new.ensures.at; entries = sym c.new.ensures.entries }))

pub returns-clause-ready : goal.returns-clause-ready
returns-clause-ready g c =
    let attached = (g.D.Desk.outside c.start.new.desk).attached in
    record {
      events = ap (λ (roles : Role → Bool). roles Events) c.in_ok-start.ensures.rest.attached ∙ c.requires.events;
      command = subst (λ (n : ℕ). g.C.LogCommand.ready c.in_ok-start.field-0 n attached) (sym c.new.ensures.entries)
          c.in_ok-start.ensures.ready;
      buffer = search rules;
      side = c.new.ensures.side ∙ c.side.ensures;
    }
