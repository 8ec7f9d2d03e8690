use Rattle.std.proofs.Common.{ℕ, Bool, ◌∷◌, ap, sym, subst, ◌∙◌}
use Rattle.stream_choice.specs.Granting.{BudgetStands, is_granted}
use Rattle.call_session.specs.Sessions.{is_told, rivals_after}
use Rattle.call_session.proofs.Rivals.{same}
use Rattle.call_session.proofs.rules.Rules.tells.Goals as goal

pub returns-then-is_beside-clause-answer : goal.returns-then-is_beside-clause-answer
returns-then-is_beside-clause-answer c = λ st s.
    let r = c.args.self.now in
    let e = same r c.args.taker st c.is_live.result c.is_beside.result s c.is_live.ensures c.is_beside.ensures in
    c.grants.ensures.answer st.rivals s.rivals
    ∙ ap (λ (n : ℕ). is_granted n r.time st.rivals) c.requires.rivals.most
    ∙ ap (λ (n : ℕ). is_granted 1 n st.rivals) s.time
    ∙ ap (λ (b : Bool). is_told b st.now st.rivals) (sym (e ∙ c.if-is_beside.true))

pub returns-then-is_beside-clause-stands : goal.returns-then-is_beside-clause-stands
returns-then-is_beside-clause-stands c = λ st s.
    let r = c.args.self.now in
    let e = same r c.args.taker st c.is_live.result c.is_beside.result s c.is_live.ensures c.is_beside.ensures in
    record {
      time = s.time;
      follows = s.follows;
      asked = s.asked;
      rivals = subst (λ (b : Bool). BudgetStands c.grants.new.self (rivals_after b st.now st.rivals))
          (sym (e ∙ c.if-is_beside.true))
          (subst (λ (n : ℕ). BudgetStands c.grants.new.self (n ∷ st.rivals)) s.time
          (c.grants.ensures.stands st.rivals s.rivals));
      counts = s.counts;
    }
