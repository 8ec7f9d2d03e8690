-- A packet is looked at by what is kept as by what came.
use Rattle.std.proofs.Common.{◌≡◌, ℕ, Bool, ap, sym, subst, ◌∙◌}
use Rattle.stream_choice.specs.declared.streams.Streams.{Streams}
use Rattle.stream_choice.specs.declared.streams.Taker.{Taker}
use Rattle.stream_choice.specs.Choice.{taker_of}
use Rattle.stream_choice.specs.Granting.{is_granted}
use Rattle.session_intake.specs.declared.budgets.Budgets.{Budgets}
use Rattle.session_intake.specs.declared.seen.Seen.{Seen}
use Rattle.session_intake.specs.Asked.{AskedStand, look_times_of, with_asked}
use Rattle.call_session.specs.declared.rules.Rules.{Rules}
use Rattle.call_session.specs.Sessions.{SessionState, asked_for, is_looked_at, taker_in}
use Rattle.call_session.specs.Ruled.{StateStands}

pub taken_by : (r : Rules) (seen : Seen) (st : SessionState) (taker : Taker) → StateStands r st
    → taker ≡ taker_of r.following.streams seen.source r.time → taker ≡ taker_in seen st
taken_by r seen st taker s e =
    e ∙ ap (λ (x : Streams). taker_of x seen.source r.time) s.follows.streams
    ∙ ap (taker_of st.follows.streams seen.source) s.time

pub looked : (r : Rules) (taker : Taker) (st : SessionState) (granted b : Bool) → StateStands r st
    → granted ≡ is_granted 12000 r.time (look_times_of taker st.asked) → granted ≡ b → b ≡ is_looked_at taker st
looked r taker st granted b s e g =
    sym g ∙ e ∙ ap (λ (n : ℕ). is_granted 12000 n (look_times_of taker st.asked)) s.time

-- the rules with this budget, that was asked for it
abbrev pub with_budgets : Rules → Budgets → Rules
with_budgets r b =
    record {
      settings = r.settings;
      time = r.time;
      following = r.following;
      budgets = b;
      rivals = r.rivals;
      counts = r.counts;
    }

pub asked : (r : Rules) (b : Budgets) (taker : Taker) (st : SessionState) → StateStands r st
    → AskedStand b (with_asked taker r.time st.asked) → StateStands (with_budgets r b) (asked_for taker st)
asked r b taker st s a =
    record {
      time = s.time;
      follows = s.follows;
      asked = subst (λ (n : ℕ). AskedStand b (with_asked taker n st.asked)) s.time a;
      rivals = s.rivals;
      counts = s.counts;
    }
