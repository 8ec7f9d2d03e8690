use Rattle.std.proofs.Common.{◌≡◌, ◌<◌, ℕ, [], refl, ap, ◌∙◌, arith}
use Rattle.duplex_call.specs.Duplex.{way}
use Rattle.one_way.specs.Seen.{Seen, reference_in}
use Rattle.duplex_ends.specs.Ways.{call_in}
use Rattle.duplex_ends.proofs.party.PartyEnds.reference_of_next.Goals as goal

pub returns : goal.returns
returns c = λ p x far ways left h may.
    let w = way x ways in
    let one = h.own_holds in
    let own = c.args.self.now in
    let same = c.ends_agree.ensures (p x) w.frames w.past (h.in_range x) one.done.near in
    let sent = (c.pair_laws.ensures p).sent x own far ways h in
    let played = (c.pair_laws.ensures p).played x own far ways h in
    let number : c.played.result ≡ (call_in p x ways).played = c.played.ensures.count ∙ played in
    let ahead : own.far_end.played < own.sender.sent = omega (arith, sent, played, may) in
    c.reference_of.ensures (p x) own.sender own.far_end [] w.frames w.past refl one.done c.played.ensures.count ahead
    ∙ ap (λ (seen : Seen). reference_in seen.coded c.played.result) same
    ∙ ap (λ (n : ℕ). reference_in (call_in p x ways).coded n) number
