-- The settings stay, so that what came gives what it gave by those of before.
use Rattle.std.proofs.Common.{◌≡◌, List, ◌∷◌, sym, subst}
use Rattle.session_intake.specs.declared.settings.Settings.{Settings}
use Rattle.session_runs.specs.Kept.{config_in}
use Rattle.call_session.specs.declared.rules.Rules.{Rules}
use Rattle.call_session.specs.Sessions.{SessionEntry, session_run}
use Rattle.call_session.specs.Ruled.{StateStands}

pub settled : (r : Rules) (s : Settings) (e : SessionEntry) (past : List SessionEntry) → r.settings ≡ s
    → StateStands r (session_run (config_in s) (e ∷ past))
    → StateStands r (session_run (config_in r.settings) (e ∷ past))
settled r s e past i x =
    subst (λ (z : Settings). StateStands r (session_run (config_in z) (e ∷ past))) (sym i) x
