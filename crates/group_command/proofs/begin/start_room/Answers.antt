use Rattle.std.proofs.Common.{refl, rules}
use Rattle.group_command.specs.Group.{after_joins}
use Rattle.group_command.proofs.Starting.{none_coded}
use Rattle.group_command.proofs.begin.start_room.Goals as goal

pub returns-in-Ok : goal.returns-in-Ok
returns-in-Ok c =
    let cast = c.in_ok-cast.ensures in
    let viewers = c.in-Ok.ensures in
    record {
      params = refl;
      video_is = refl;
      count = viewers.count;
      params_in_cast = cast.params;
      period = cast.kept;
      sent = cast.sent;
      casting = cast.ready;
      viewing = viewers.viewing;
      cast = cast.holds;
      views = viewers.holds (after_joins c.args.receivers) (none_coded c.args.receivers);
      lines = c.new.ensures.lines;
      ended = c.new.ensures.ended;
      frame = search rules;
    }
