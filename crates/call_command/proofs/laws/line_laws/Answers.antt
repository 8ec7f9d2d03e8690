use Rattle.call_command.proofs.Lines.{bad_by, frame_held, has_taken, line_gone, line_part, nothing_after, over_by, refused_by, some_read}
use Rattle.call_command.proofs.LongLines.{says_nothing}
use Rattle.call_command.proofs.laws.line_laws.Goals as goal

pub returns : goal.returns
returns c =
    let turns = c.turn_laws.ensures in
    record {
      long = says_nothing c.exact_lines.ensures.read;
      gone = line_gone;
      last = nothing_after;
      line_part = line_part;
      frame_part = frame_held;
      some = λ inputs old mid k read. some_read turns inputs old mid read k;
      line = λ inputs old mid read. has_taken turns inputs old mid read;
      refused = refused_by turns;
      bad = λ fault inputs old mid read. bad_by turns inputs old mid read fault;
      over = λ reader inputs old mid new read. over_by turns inputs old mid read reader new;
    }
