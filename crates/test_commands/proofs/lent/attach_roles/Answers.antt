use Rattle.h263_outside.specs.declared.desk.Role.TheVariants.{Video, Events, Pictures, Report}
use Rattle.test_commands.proofs.lent.attach_roles.Goals as goal

pub returns-in-Ok-clause-video : goal.returns-in-Ok-clause-video
returns-in-Ok-clause-video g c = (c.in-Ok.ensures.alone c.requires).roles Video

pub returns-in-Ok-clause-events : goal.returns-in-Ok-clause-events
returns-in-Ok-clause-events g c = (c.in-Ok.ensures.alone c.requires).roles Events

pub returns-in-Ok-clause-pictures : goal.returns-in-Ok-clause-pictures
returns-in-Ok-clause-pictures g c = (c.in-Ok.ensures.alone c.requires).roles Pictures

pub returns-in-Ok-clause-report : goal.returns-in-Ok-clause-report
returns-in-Ok-clause-report g c = (c.in-Ok.ensures.alone c.requires).roles Report
