use Rattle.std.proofs.Common.{rules, ◌≡◌, ℕ, false, refl, ap, ◌∙◌, List, [], Option, length}
use Rattle.std.proofs.lemmas.List.{length-replicate}
use Rattle.call_decoding.specs.Rules.{rules_of}
use Rattle.call_decoding.specs.Samples.{pictures}
use Rattle.call_encoding.specs.Encoding.{encoding}
use Rattle.sender_end.proofs.Beginning.{holds_new, ready_new, stands_new}
use Rattle.sender_end.proofs.sender.Sender.begin.Goals as goal

pub invariant_of-result : goal.invariant_of-result
invariant_of-result g c =
    let p = c.args.params.now in
    ready_new _ refl c.requires c.in_ok-cutter.ensures.format c.in_ok-cutter.ensures.limit c.in_ok-cutter.ensures.none
    c.in_ok-store.ensures.empty.format
    (ap (λ (l : List (Option ℕ)). length l) c.in_ok-store.ensures.empty.numbers ∙ length-replicate p.slots _)
    c.in_ok-store.ensures.empty.pictures
    (c.start-3.ensures (rules_of p) (λ m. 0) (λ m. false) refl refl refl refl)

pub returns-clause-stands : goal.returns-clause-stands
returns-clause-stands g c =
    let p = c.args.params.now in
    let sizes : List ℕ = c.new.result.items in
    let none : sizes ≡ [] = search rules in
    stands_new _ record {
      sent = refl;
      since = refl;
      sequence = c.in_ok-cutter.ensures.sequence;
      packets = c.in_ok-cutter.ensures.none;
      sizes = none;
      selects = c.start-3.ensures (rules_of p) (λ m. 0) (λ m. false) refl refl refl refl;
    } _ (c.sender_stands.ensures.new (pictures p.format) (encoding p) (rules_of p) (c.are_rules.ensures p c.requires))

pub returns-clause-holds : goal.returns-clause-holds
returns-clause-holds g c =
    let p = c.args.params.now in
    let sizes : List ℕ = c.new.result.items in
    let none : sizes ≡ [] = search rules in
    holds_new _ record {
      sent = refl;
      since = refl;
      sequence = c.in_ok-cutter.ensures.sequence;
      packets = c.in_ok-cutter.ensures.none;
      sizes = none;
      selects = c.start-3.ensures (rules_of p) (λ m. 0) (λ m. false) refl refl refl refl;
    } (c.sender_holds.ensures.new (pictures p.format) (encoding p) (rules_of p) (c.are_rules.ensures p c.requires))
