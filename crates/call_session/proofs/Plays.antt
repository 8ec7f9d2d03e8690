-- The run of which a picture is played, and what is counted of it.
use Rattle.std.proofs.Common.{◌≡◌, Option, Some, None, refl, ap, ◌∙◌}
use Rattle.h263_types.specs.declared.Mark.{Mark}
use Rattle.receiver_end.specs.declared.answers.Played.{Played}
use Rattle.stream_choice.specs.declared.streams.Run.{Run}
use Rattle.session_intake.specs.declared.counts.Counts.{Counts}
use Rattle.session_intake.specs.Counts.{counts_after_play}
use Rattle.session_runs.specs.Histories.{Config}
use Rattle.session_runs.specs.Following.{Follows}
use Rattle.session_runs.specs.Followed.{ArePlayed}
use Rattle.call_session.specs.declared.verdict.RunPlayed.{RunPlayed}
use Rattle.call_session.specs.Sessions.{SessionState, counts_of_play}
use Rattle.call_session.specs.Ruled.{IsRunPlayed}

-- none is due
pub told_none : (c : Config) (st : SessionState) (r : Option Run) → ArePlayed c st.follows r None
    → IsRunPlayed c st r None
told_none c st None a = refl
told_none c st (Some run) a = let e = a.1 in absurd cc

pub counted_none : (c : Config) (f : Follows) (r : Option Run) (n : Counts) → ArePlayed c f r None
    → n ≡ counts_of_play c r f n
counted_none c f None n a = refl
counted_none c f (Some run) n a = let e = a.1 in absurd cc

abbrev told_of : Option (Run × Played) → Option RunPlayed
told_of None = None
told_of (Some x) = Some (record { run = x.0; played = x.1 })

-- one is
pub told : (c : Config) (st : SessionState) (r : Option Run) (run : Run) (p : Played)
    → ArePlayed c st.follows r (Some (run, p)) → IsRunPlayed c st r (Some (record { run = run; played = p }))
told c st None run p a = absurd cc
told c st (Some other) run p a = (a.0, ap told_of a.1, a.2)

abbrev counted_of : Counts → Option (Run × Played) → Counts
counted_of n None = n
counted_of n (Some x) = counts_after_play x.0 x.1.mark n

pub counted : (c : Config) (f : Follows) (r : Option Run) (run : Run) (p : Played) (n : Counts)
    → ArePlayed c f r (Some (run, p)) → counts_after_play run p.mark n ≡ counts_of_play c r f n
counted c f None run p n a = absurd cc
counted c f (Some other) run p n a =
    ap (counted_of n) a.1 ∙ ap (λ (m : Mark). counts_after_play other m n) a.2.told.mark_is
