use Rattle.std.proofs.Common.{◌≡◌, ◌+◌, ◌-◌, ◌<◌, ◌≤◌, ◌∙◌, ◌&&◌, inl, inr, ap, arith, leb, sym}
use Rattle.std.proofs.lemmas.Bool.{and_from, and_left, cases_lt, le-leb}
use Rattle.call_model.specs.Coding.{window as window_of}
use Rattle.group_sender.specs.Parties.{all_have}
use Rattle.group_sender.proofs.members.newest_for_all.Goals as goal

pub returns-then-all_have_it-clause-value : goal.returns-then-all_have_it-clause-value
returns-then-all_have_it-clause-value c = λ rules parties stand is wide.
    let sent = c.args.sent in
    let m = sent - c.back.back - 1 in
    let below : m < sent = omega (arith, c.if-sent-back.false) in
    let near : sent ≤ m + window_of rules = omega (arith, c.if-sent-back.false, c.back-test.true, is) in
    let near_slots : sent ≤ m + rules.slots = omega (arith, near, wide) in
    let all = sym (c.all_have_it.ensures rules sent parties stand below near_slots) ∙ c.if-all_have_it.true in
    sym ((c.searches.ensures.greatest (λ k. all_have parties k && leb sent (k + window_of rules)) sent m).1 (
      and_from (all_have parties m) (leb sent (m + window_of rules)) all (le-leb sent (m + window_of rules) near),
      below,
      λ k newer last. and_left (all_have parties k) (leb sent (k + window_of rules))
          (c.back.invariant rules parties stand is wide k last (omega (arith, newer))),
    ))

pub back-preserved : goal.back-preserved
back-preserved c = λ rules parties stand is wide m below near.
    let sent = c.args.sent in
    let here = sent - c.back.back - 1 in
    let low : here < sent = omega (arith, c.if-sent-back.false) in
    let close : sent ≤ here + rules.slots = omega (arith, c.if-sent-back.false, c.back-test.true, is, wide) in
    elim (cases_lt (m + c.back.back) sent) [
      | inl far ↦
          let same : m ≡ here = omega (arith, far, near, c.if-sent-back.false) in
          ap (all_have parties) same ∙ sym (c.all_have_it.ensures rules sent parties stand low close)
          ∙ c.if-all_have_it.false
      | inr late ↦ c.back.invariant rules parties stand is wide m below late
    ]
