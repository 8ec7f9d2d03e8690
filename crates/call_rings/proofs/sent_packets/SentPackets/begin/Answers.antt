use Rattle.std.proofs.Common.{◌≡◌, ◌+◌, [], ◌∷◌, ◌++◌, length, drop, refl, sym, ap, ◌∙◌, subst, arith}
use Rattle.std.specs.Prelude.{All}
use Rattle.std.proofs.lemmas.List.{length-append, length-drop}
use Rattle.circular_buffer.specs.Buffer.{Buffer, buffer}
use Rattle.call_rings.specs.declared.kept.KeptPackets.{KeptPackets}
use Rattle.call_rings.specs.Kept.{TakesUpTo}
use Rattle.call_rings.proofs.Ring.{All-turned, refilled, begun_holds}
use Rattle.call_rings.proofs.sent_packets.SentPackets.begin.Goals as goal

pub invariant_of-self : goal.invariant_of-self
invariant_of-self c =
    let r = c.args.self.now in
    let items = r.pictures.items in
    let x = c.clear.new.self in
    let one_less : length (drop 1 items) + 1 ≡ r.pictures.capacity = omega (
      arith,
      length-drop 1 items,
      r.full,
      r.some,
    ) in
    let is : c.push_back.new.self ≡ buffer (drop 1 items ++ x ∷ []) (r.pictures.capacity) =
    refilled (drop 1 items) (r.pictures.capacity) c.pop_front.new.self c.push_back.new.self x (omega (arith, one_less))
    c.pop_front.ensures.items c.push_back.ensures.items in
    let capacity : c.push_back.new.self.capacity
    ≡ r.pictures.capacity = ap (λ (b : Buffer KeptPackets). b.capacity) is in
    let same : c.push_back.new.self.items ≡ drop 1 items ++ x ∷ [] = ap (λ (b : Buffer KeptPackets). b.items) is in
    record {
      some = omega (arith, capacity, r.some);
      full = ap length same ∙ length-append (drop 1 items) (x ∷ []) ∙ one_less ∙ sym capacity;
      each = subst (All (TakesUpTo r.room r.most)) (sym same)
          (All-turned (TakesUpTo r.room r.most) items c.in-Some.oldest x r.each (sym c.pop_front.ensures.value
          ∙ c.in-Some.is) (c.clear.ensures.place r.room r.most));
      short = r.short;
      small = r.small;
    }

pub returns-in-Some-clause-begins : goal.returns-in-Some-clause-begins
returns-in-Some-clause-begins c pictures kept =
    let r = c.args.self.now in
    let items = r.pictures.items in
    let one_less : length (drop 1 items) + 1 ≡ r.pictures.capacity = omega (
      arith,
      length-drop 1 items,
      r.full,
      r.some,
    ) in
    begun_holds r _ c.clear.new.self pictures kept c.clear.ensures.none
    (refilled (drop 1 items) (r.pictures.capacity) c.pop_front.new.self c.push_back.new.self c.clear.new.self
    (omega (arith, one_less)) c.pop_front.ensures.items c.push_back.ensures.items) refl
