-- What the quantisers follow, by what is asked for.
use Rattle.h263_types.specs.declared.format.Format.{Format}
use Rattle.fitted_sender.specs.Aiming.{first_aim}
use Rattle.fitted_sender.specs.declared.aim.Aim.{Aim}
use Rattle.send_command.specs.declared.sending.Sending.{Sending}

-- before the first picture
abbrev pub aim_at_start : Sending → Format → Aim
aim_at_start setup f = first_aim (record setup.params { format = f }) setup.target setup.fit
