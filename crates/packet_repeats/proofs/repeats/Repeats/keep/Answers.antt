use Rattle.std.proofs.Common.{◌≡◌, ℕ, ◌%◌, ◌<◌, ◌≤◌, true, length, length-set, ap, arith, ◌∙◌, rules}
use Rattle.packet_repeats.specs.Sent.{sequence_number_of, may_stay}
use Rattle.packet_repeats.proofs.Places.{put_each, kept_is}
use Rattle.packet_repeats.proofs.repeats.Repeats.keep.Goals as goal

pub returns : goal.returns
returns c = λ places longest sent held.
    let r = c.args.self.now in
    let packet = c.args.packet.now in
    let place = c.sequence_of.result % c.len.result in
    let count : c.len.result ≡ places = search rules in
    let same : place ≡ sequence_number_of packet % places =
    ap (λ (n : ℕ). c.sequence_of.result % n) count ∙ ap (λ (n : ℕ). n % places) c.sequence_of.ensures in
    let low : place < length r.places.items = search rules in
    let lower : place < places = omega (arith, low, held.count) in
    let long : 12 ≤ length packet = search rules in
    let short : length packet ≤ r.longest = search rules in
    let kept : may_stay longest packet ≡ true = kept_is longest packet long (omega (arith, short, held.most)) in
    record {
      most = held.most;
      count = length-set r.places.items place c.put.new.place ∙ held.count;
      each = put_each r.places.items places longest place packet sent c.put.new.place held.count lower same kept
          c.put.ensures.items held.each;
    }
