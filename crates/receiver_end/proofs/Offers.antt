-- What is offered.
use Rattle.std.proofs.Common.{◌≡◌, ℕ, ◌+◌, ◌<◌, true, false, ◌&&◌, ltb, Some, sym}
use Rattle.std.proofs.lemmas.Bool.{and_from, and_left, lt-ltb}
use Rattle.call_model.specs.Numbers.{GreatestIs}
use Rattle.call_model.specs.ReceiverStanding.{offer_by_kept}
use Rattle.call_decoding.specs.Rules.{rules_of}
use Rattle.receiver_end.specs.declared.kept.Kept.{Kept}
use Rattle.receiver_end.specs.Decoding.{decoding}
use Rattle.receiver_end.specs.State.{slot_holds, seen}

pub offers : GreatestIs → (r : Kept) (m : ℕ) → slot_holds r.params r.store m ≡ true → r.played < m + r.params.slots
    → m < r.played + r.params.lead + 1
    → ((k : ℕ) → m < k → k < r.played + r.params.lead + 1 → slot_holds r.params r.store k ≡ false)
    → Some m ≡ offer_by_kept (decoding r.params.format) (rules_of r.params) (seen r)
offers greatest r m held near below above =
    sym ((greatest (λ k. slot_holds r.params r.store k && ltb r.played (k + r.params.slots))
    (r.played + r.params.lead + 1)
    m).1
    (and_from _ _ held (lt-ltb r.played (m + r.params.slots) near), below, λ k more lt. and_left _ _ (above k more lt)))
