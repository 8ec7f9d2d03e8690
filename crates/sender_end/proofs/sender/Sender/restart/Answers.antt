use Rattle.std.proofs.Common.{ℕ, false, refl, ap, ◌∙◌, arith, List, Option, length}
use Rattle.std.proofs.lemmas.List.{length-replicate}
use Rattle.picture_store.specs.Pictures.{slots_of}
use Rattle.call_decoding.specs.Rules.{rules_of}
use Rattle.call_decoding.specs.Samples.{pictures}
use Rattle.call_encoding.specs.Encoding.{encoding}
use Rattle.sender_end.proofs.Beginning.{holds_new, ready_new, stands_new}
use Rattle.sender_end.proofs.sender.Sender.restart.Goals as goal

pub invariant_of-self : goal.invariant_of-self
invariant_of-self g c =
    let ready = c.self.invariant in
    let old = c.self.inside.store.store in
    let empty = c.clear-2.ensures.empty in
    ready_new _ refl ready.params (c.restart.ensures.format ∙ ready.cutter_format) (c.restart.ensures.limit
    ∙ ready.cutter_limit) c.restart.ensures.none
    (empty.format ∙ ready.store_format)
    (ap (λ (l : List (Option ℕ)). length l) empty.numbers ∙ length-replicate (slots_of old) _ ∙ ready.slots)
    (omega (arith, empty.pictures, ready.slots, ready.works))
    (c.start-selector.ensures (rules_of c.self.inside.params) (λ m. 0) (λ m. false) refl refl refl refl)

pub returns-clause-stands : goal.returns-clause-stands
returns-clause-stands g c =
    let p = c.self.inside.params in
    stands_new _ record {
      sent = refl;
      since = refl;
      sequence = c.restart.ensures.sequence;
      packets = c.restart.ensures.none;
      sizes = c.clear.ensures;
      selects = c.start-selector.ensures (rules_of p) (λ m. 0) (λ m. false) refl refl refl refl;
    } _ (c.sender_stands.ensures.new (pictures p.format) (encoding p) (rules_of p)
    (c.are_rules.ensures p c.self.invariant.params))

pub returns-clause-holds : goal.returns-clause-holds
returns-clause-holds g c =
    let p = c.self.inside.params in
    holds_new _ record {
      sent = refl;
      since = refl;
      sequence = c.restart.ensures.sequence;
      packets = c.restart.ensures.none;
      sizes = c.clear.ensures;
      selects = c.start-selector.ensures (rules_of p) (λ m. 0) (λ m. false) refl refl refl refl;
    } (c.sender_holds.ensures.new (pictures p.format) (encoding p) (rules_of p)
    (c.are_rules.ensures p c.self.invariant.params))
