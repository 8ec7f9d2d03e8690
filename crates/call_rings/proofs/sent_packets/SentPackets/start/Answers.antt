use Rattle.std.proofs.Common.{◌≡◌, ℕ, ◌+◌, [], ◌∷◌, ◌++◌, length, sym, ap, ◌∙◌, subst, arith}
use Rattle.std.specs.Prelude.{All}
use Rattle.std.proofs.lemmas.List.{length-append}
use Rattle.std.proofs.lemmas.List.Elements.{All-push}
use Rattle.circular_buffer.specs.Buffer.{Buffer, buffer}
use Rattle.call_rings.specs.declared.kept.KeptPackets.{KeptPackets}
use Rattle.call_rings.specs.Kept.{TakesUpTo}
use Rattle.call_rings.proofs.Ring.{refilled}
use Rattle.call_rings.proofs.sent_packets.SentPackets.start.Goals as goal

pub places-preserved : goal.places-preserved
places-preserved c =
    let inv = c.places.invariant in
    let items = c.places.kept.items in
    let x = c.in_ok-start.field-0 in
    let is : c.push_back.new.self ≡ buffer (items ++ x ∷ []) c.args.pictures =
    refilled items c.args.pictures c.places.kept c.push_back.new.self x (omega (arith, inv.1, c.places-test.true))
    (ap (λ (n : ℕ). buffer items n) inv.0) c.push_back.ensures.items in
    let same : c.push_back.new.self.items ≡ items ++ x ∷ [] = ap (λ (b : Buffer KeptPackets). b.items) is in (
      ap (λ (b : Buffer KeptPackets). b.capacity) is,
      ap length same ∙ length-append items (x ∷ []) ∙ ap (λ (k : ℕ). k + 1) inv.1,
      subst (All (TakesUpTo c.args.room c.args.most)) (sym same)
          (All-push (TakesUpTo c.args.room c.args.most) items x inv.2 (c.in_ok-start.ensures.place)),
    )
