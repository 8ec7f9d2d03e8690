use Rattle.std.proofs.Common.{Bool, ap, ◌∙◌}
use Rattle.h263_outside.specs.declared.desk.Role.{Role}
use Rattle.h263_outside.specs.declared.desk.Role.TheVariants.{Video, Events, Pictures, Report}
use Rattle.test_commands.proofs.lent.converse_with.Goals as goal

-- the roles that were attached still are, after the head was read
pub converse-ends-requires-clause-opens : goal.converse-ends-requires-clause-opens
converse-ends-requires-clause-opens c =
    let roles = c.head.ensures.rest.attached in
    let are = c.in-Ok.ensures in
    record {
      params = c.of-params.ensures.in_range;
      video = ap (λ (f : Role → Bool). f Video) roles ∙ are.video;
      events = λ recorded. ap (λ (f : Role → Bool). f Events) roles ∙ are.events;
      pictures = ap (λ (f : Role → Bool). f Pictures) roles ∙ are.pictures;
      report = ap (λ (f : Role → Bool). f Report) roles ∙ are.report;
    }
