use Rattle.std.proofs.Common.{◌≡◌, ℕ, ◌%◌, ◌<◌, length, Some, None, sym, ap, ◌∙◌, arith, rules}
use Rattle.std.proofs.lemmas.Bool.{cond-false}
use Rattle.packet_repeats.specs.Sent.{last_at}
use Rattle.packet_repeats.specs.Keeping.{bytes_or_none}
use Rattle.packet_repeats.proofs.Places.{bytes_read, place_told}
use Rattle.packet_repeats.proofs.repeats.Repeats.find.Goals as goal

pub returns-else-is_numbered : goal.returns-else-is_numbered
returns-else-is_numbered c = λ places longest sent held.
    let r = c.args.self.now in
    let place = c.args.sequence % c.len.result in
    let packet = c.deref-packet.result.now in
    let count : c.len.result ≡ places = search rules in
    let same : place ≡ c.args.sequence % places = ap (λ (n : ℕ). c.args.sequence % n) count in
    let low : place < length r.places.items = search rules in
    let lower : place < places = omega (arith, low, held.count) in
    let is : packet ≡ bytes_or_none (last_at places longest (c.args.sequence % places) sent) =
    c.deref-packet.ensures.value ∙ bytes_read r.places.items place c.index.result.now low c.index.ensures
    ∙ held.each place lower
    ∙ ap (λ (i : ℕ). bytes_or_none (last_at places longest i sent)) same in
    sym (place_told places longest (c.args.sequence % places) c.args.sequence sent packet is
    ∙ cond-false _ (Some packet) None (sym c.is_numbered.ensures ∙ c.if-is_numbered.false))
