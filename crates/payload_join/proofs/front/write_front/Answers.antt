use Rattle.std.proofs.Common.{◌≡◌, ℕ, List, length, take, ap, ◌+◌, ◌∙◌}
use Rattle.payload_join.specs.Places.{put_at}
use Rattle.payload_join.proofs.Fronts.{written_is}
use Rattle.payload_join.proofs.front.write_front.Goals as goal

pub returns-clause-text : goal.returns-clause-text
returns-clause-text c =
    let e1 : c.set_part.new.bytes ≡ put_at c.args.bytes.now 0 c.args.rtp.now = c.set_part.ensures in
    let e2 : c.set_part-2.new.bytes ≡ put_at c.set_part.new.bytes 12 c.args.opening.now = c.set_part-2.ensures in
    let e3 : c.set_part-3.new.bytes ≡ put_at c.set_part-2.new.bytes 14 c.args.extra.now = c.set_part-3.ensures in
    ap (take (14 + length c.args.extra.now)) (e3 ∙ ap (λ (l : List ℕ). put_at l 14 c.args.extra.now) (e2
    ∙ ap (λ (l : List ℕ). put_at l 12 c.args.opening.now) e1))
    ∙ written_is c.args.bytes.now c.args.rtp.now c.args.opening.now c.args.extra.now c.requires.bytes c.requires.rtp
    c.requires.opening c.requires.few
