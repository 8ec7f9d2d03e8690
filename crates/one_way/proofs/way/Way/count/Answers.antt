use Rattle.std.proofs.Common.{ℕ, List, length, ap, ◌∙◌}
use Rattle.one_way.specs.Both.{both_after, steady}
use Rattle.one_way.proofs.Ring.{count_is, kept_is}
use Rattle.one_way.proofs.way.Way.count.Goals as goal

pub returns-clause-slices : goal.returns-clause-slices
returns-clause-slices c = λ p sender receiver before frames past h among.
    let coded = (both_after p (steady p) frames before past).sender.coded in
    let n = c.args.number in
    c.count.ensures.packets h.packets.pictures h.packets.keeps
    ∙ ap (λ (l : List (List ℕ)). length l) (kept_is p c.args.self.now coded n h.packets among)
    ∙ count_is p coded n (c.message_laws.ensures p).count
