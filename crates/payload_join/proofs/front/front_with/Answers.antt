use Rattle.std.proofs.Common.{rules, ◌∙◌}
use Rattle.payload_join.proofs.Fronts.{front_is}
use Rattle.payload_join.proofs.front.front_with.Goals as goal

pub returns-clause-bytes : goal.returns-clause-bytes
returns-clause-bytes c =
    c.write_front.ensures.text
    ∙ front_is c.spelling.ensures.number_of_bits c.spelling.ensures.many c.write-rtp.result c.opening-opening.result
    c.args.extra.now c.args.sequence c.args.timestamp c.args.pebit
    (search rules) (search rules) c.write_front.ensures.rtp c.write_front.ensures.opening c.write-rtp.ensures.text
    c.opening-opening.ensures
