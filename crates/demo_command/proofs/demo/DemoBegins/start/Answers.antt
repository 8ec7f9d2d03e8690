-- A demonstration stands before its first line, or ends for want of memory.
use Rattle.std.proofs.Common.{◌≡◌, ℕ, true, List, [], length, refl, rules, ap, sym, subst}
use Rattle.loss_trace.specs.declared.event.Event.{Event as Line}
use Rattle.h263_types.specs.Sizes.{size_of_picture}
use Rattle.call_report.specs.declared.status.Status.TheVariants.{OutOfMemory}
use Rattle.desk_program.specs.Run.{run_from}
use Rattle.one_way.specs.Way.{IsNewNetwork}
use Rattle.demo_command.specs.declared.demo.Demo.{Demo}
use Rattle.demo_command.specs.Demo.{demo_begin, demo_step, demo_at_start, made_video, made_turns, silent_turn}
use Rattle.demo_command.proofs.Beginning.{ends_starved, first_in_place, first_plays, first_said, ready_first}
use Rattle.demo_command.proofs.demo.DemoBegins.start.Goals as goal

pub returns-clause-goes : goal.returns-clause-goes
returns-clause-goes g c = λ inputs told.
    let now = g.D.Desk.outside c.args.arg3.now in
    let t = c.args.setup.now in
    let both = c.in_ok-both.both in
    let ends = c.in_ok-both.ensures in
    let m : Demo = record {
      terms = t;
      lines = c.new.result;
      both = both;
      network = c.in_ok-network.network;
      frame = c.in_ok-frame.frame;
    } in
    c.run_laws.ensures.begins m (demo_begin t inputs) demo_step (λ _. true) (made_turns t) inputs now now
    (ap (λ (l : List Line). length l) c.new.ensures)
    (record {
      next = demo_at_start t;
      turn = silent_turn;
      could = refl;
      is = refl;
      kept = record {
        terms = refl;
        lines = sym c.new.ensures;
        ahead = refl;
        done = (c.way_laws.ensures t.params).first c.period.result m.network both.sender both.receiver []
            (made_video t) c.in_ok-network.ensures ends.sender_params ends.sends ends.receiver_params ends.receives;
      };
      whole = refl;
      left = c.turn_laws.ensures.no_byte now now inputs refl told;
      written = c.turn_laws.ensures.no_text now.written now.written refl;
    })

pub returns-clause-ready : goal.returns-clause-ready
returns-clause-ready g c =
    let t = c.args.setup.now in
    let both = c.in_ok-both.both in
    let ends = c.in_ok-both.ensures in
    let m : Demo = record {
      terms = t;
      lines = c.new.result;
      both = both;
      network = c.in_ok-network.network;
      frame = c.in_ok-frame.frame;
    } in
    let new = subst (λ (n : ℕ). IsNewNetwork t.params n m.network) c.period.ensures c.in_ok-network.ensures in
    let long : length m.frame.items ≡ size_of_picture t.params.format = search rules in
    record {
      opens = c.requires;
      ends = ready_first m (c.way_laws.ensures t.params) c.requires.params new long ends.sender_params ends.sends
          ends.quant ends.sent ends.played;
      in_place = first_in_place t both.sender.sent _ c.requires.frames ends.sent c.new.ensures;
      said = first_said t _ _ c.requires.frames new.said c.new.ensures;
      plays = first_plays t _ _ c.requires.frames ends.played c.new.ensures;
    }

pub returns-in_err-both-clause-ends : goal.returns-in_err-both-clause-ends
returns-in_err-both-clause-ends g c = λ inputs told.
    let now = g.D.Desk.outside c.args.arg3.now in
    let t = c.args.setup.now in
    let run = run_from (demo_begin t inputs) demo_step (made_turns t) inputs in
    ends_starved c.from_residual-in_err-both.result OutOfMemory run inputs now.written now
    c.from_residual-in_err-both.ensures.1
    (c.run_laws.ensures.gives_up (demo_begin t inputs) demo_step (made_turns t) inputs now now OutOfMemory refl)
