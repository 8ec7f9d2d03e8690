use Rattle.std.proofs.Common.{◌≡◌, length, refl, rules, subst}
use Rattle.h263_types.specs.declared.format.Format.{Format}
use Rattle.duplex_ends.specs.Pair.{IsNewParty}
use Rattle.duplex_command.proofs.Starting.{fits}
use Rattle.duplex_command.proofs.begin.start_talk.Goals as goal

pub returns-in-Ok : goal.returns-in-Ok
returns-in-Ok c =
    let p = c.args.setup.now in
    let heads = c.args.heads.now in
    let long : length c.in_ok-frame.frame.items ≡ c.room_for.result = search rules in
    record {
      video_a = refl;
      video_b = refl;
      new_a = subst (λ (f : Format). IsNewParty (record p { format = f }) c.in_ok-first.first) c.format.ensures
          c.in_ok-first.ensures;
      new_b = subst (λ (f : Format). IsNewParty (record p { format = f }) c.in-Ok.second) c.format-2.ensures
          c.in-Ok.ensures;
      lines = c.new.ensures.lines;
      ended = c.new.ensures.ended;
      room_a = fits c.format.result heads.a.format _ _ c.format.ensures long c.room_for.ensures.first;
      room_b = fits c.format-2.result heads.b.format _ _ c.format-2.ensures long c.room_for.ensures.second;
    }
