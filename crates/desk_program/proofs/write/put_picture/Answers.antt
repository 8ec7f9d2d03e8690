use Rattle.h263_outside.specs.declared.desk.Role.TheVariants.{Pictures}
use Rattle.h263_planes.specs.Lent.{picture as lent}
use Rattle.y4m.specs.Text.{frame_text}
use Rattle.desk_program.proofs.Parts.{fronts_on}
use Rattle.desk_program.proofs.write.put_picture.Goals as goal

pub returns-in-Err-clause-err : goal.returns-in-Err-clause-err
returns-in-Err-clause-err g c =
    let outside = g.D.Desk.outside in
    fronts_on Pictures (frame_text c.args.mark (lent c.args.picture)) (outside c.args.desk.now).written
    (outside c.write_frame.new.desk).written c.in-Err.ensures.prefix
