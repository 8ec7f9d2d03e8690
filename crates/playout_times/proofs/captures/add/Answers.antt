use Rattle.std.proofs.Common.{◌≡◌, ◌+◌, ◌-◌, ◌<◌, ◌∷◌, List, ℕ, arith, subst, sym}
use Rattle.playout_times.specs.Kept.{CapturesStand}
use Rattle.playout_times.proofs.Earliest.{ignored, noted}
use Rattle.playout_times.proofs.captures.add.Goals as goal

pub returns-then-arrival-next : goal.returns-then-arrival-next
returns-then-arrival-next c = λ past s.
    let a = c.args.arrival.now in
    let place = a.picture - c.args.next in
    let near : place < 64 = omega arith in
    let same : a.picture ≡ c.args.next + place = omega arith in
    subst (λ (xs : List ℕ). CapturesStand xs c.args.next (a ∷ past)) (sym c.note.ensures)
    (noted c.args.captured.now c.args.next place a past near same s)

pub returns-else-arrival-next : goal.returns-else-arrival-next
returns-else-arrival-next c = λ past s.
    ignored c.args.captured.now c.args.next c.args.arrival.now past (omega arith) s
