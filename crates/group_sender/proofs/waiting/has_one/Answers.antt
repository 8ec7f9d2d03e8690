-- One of the bits in the window is set exactly where a known picture lies there.
use Rattle.std.proofs.Common.{◌≡◌, ℕ, ◌+◌, ◌-◌, ◌<◌, ◌≤◌, ◌∙◌, ◌&&◌, true, Option, Some, inl, inr, ap, arith, leb, sym}
use Rattle.std.specs.Prelude.{is_some}
use Rattle.std.proofs.lemmas.Bool.{and_from, and_left, cases_lt, le-leb}
use Rattle.call_model.specs.Coding.{window as window_of}
use Rattle.call_model.specs.Numbers.{greatest}
use Rattle.group_sender.specs.Parties.{party_has}
use Rattle.group_sender.proofs.FirstLate.{has_of, none_in}
use Rattle.group_sender.proofs.waiting.has_one.Goals as goal

pub returns-then-sent-back : goal.returns-then-sent-back
returns-then-sent-back c = λ rules party stands is wide.
    sym (ap (λ (o : Option ℕ). is_some o) (none_in c.searches.ensures.no_greatest (party_has party) c.args.sent
    (window_of rules)
    (λ m below close. c.back.invariant rules party stands is wide m below (omega (arith, c.if-sent-back.true)))))

pub returns-then-may_go_by : goal.returns-then-may_go_by
returns-then-may_go_by c = λ rules party stands is wide.
    let sent = c.args.sent in
    let m = sent - c.back.back - 1 in
    let below : m < sent = omega (arith, c.if-sent-back.false) in
    let near : sent ≤ m + window_of rules = omega (arith, c.if-sent-back.false, c.back-test.true, is) in
    let near_slots : sent ≤ m + rules.slots = omega (arith, near, wide) in
    let here : party.present ≡ true = sym stands.present ∙ c.requires in
    let has : party_has party m ≡ true = sym (has_of party.present (party_has party m) here)
    ∙ sym (c.may_go_by.ensures rules sent party stands below near_slots) ∙ c.if-may_go_by.true in
    let found : greatest (λ k. party_has party k && leb sent (k + window_of rules)) sent ≡ Some m =
    (c.searches.ensures.greatest (λ k. party_has party k && leb sent (k + window_of rules)) sent m).1 (
      and_from (party_has party m) (leb sent (m + window_of rules)) has (le-leb sent (m + window_of rules) near),
      below,
      λ k newer last. and_left (party_has party k) (leb sent (k + window_of rules))
          (c.back.invariant rules party stands is wide k last (omega (arith, newer))),
    )
    in
    sym (ap (λ (o : Option ℕ). is_some o) found)

pub back-preserved : goal.back-preserved
back-preserved c = λ rules party stands is wide m below near.
    let sent = c.args.sent in
    let place = sent - c.back.back - 1 in
    let low : place < sent = omega (arith, c.if-sent-back.false) in
    let close : sent ≤ place + rules.slots = omega (arith, c.if-sent-back.false, c.back-test.true, is, wide) in
    let here : party.present ≡ true = sym stands.present ∙ c.requires in
    elim (cases_lt (m + c.back.back) sent) [
      | inl far ↦
          let same : m ≡ place = omega (arith, far, near, c.if-sent-back.false) in
          ap (party_has party) same ∙ sym (has_of party.present (party_has party place) here)
          ∙ sym (c.may_go_by.ensures rules sent party stands low close) ∙ c.if-may_go_by.false
      | inr late ↦ c.back.invariant rules party stands is wide m below late
    ]

pub returns : goal.returns
returns c = λ rules party stands is wide.
    sym (ap (λ (o : Option ℕ). is_some o) (none_in c.searches.ensures.no_greatest (party_has party) c.args.sent
    (window_of rules)
    (λ m below close. c.back.invariant rules party stands is wide m below (omega (
      arith,
      close,
      c.back-test.false,
      is,
    )))))
