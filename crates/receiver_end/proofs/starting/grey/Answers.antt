use Rattle.std.proofs.Common.{ℕ, replicate, ap, ◌∙◌}
use Rattle.receiver_end.proofs.Greys.{grey_is}
use Rattle.receiver_end.proofs.starting.grey.Goals as goal

pub returns-clause-picture : goal.returns-clause-picture
returns-clause-picture c =
    grey_is c.planes_are_bytes.ensures.picture c.planes_are_bytes.ensures.size c.samples_are_picture.ensures.whole
    c.samples_are_picture.ensures.format
    c.args.format c.fill.new.self (c.fill.ensures.after (λ y e. e) ∙ ap (λ (k : ℕ). replicate k 128) c.requires)
