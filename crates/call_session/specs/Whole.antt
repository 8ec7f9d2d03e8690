-- What a session keeps, and what it stands for.
use Rattle.std.specs.Prelude.{◌≡◌, List}
use Rattle.std.specs.Box.{boxed_slice_len}
use Rattle.call_session.specs.declared.session.Session.{Session}
use Rattle.session_runs.specs.Kept.{config_in}
use Rattle.call_session.specs.Sessions.{SessionEntry, session_run}
use Rattle.call_session.specs.Ruled.{AreSessionRules, StateStands}

-- its parts fit one another
pub record IsSession (s : Session) : Type 0 where
  pub rules : AreSessionRules s.rules
  pub room : boxed_slice_len s.room ≡ 9000

-- this came, and was played
abbrev pub SessionStands : Session → List SessionEntry → Type 0
SessionStands s past = StateStands s.rules (session_run (config_in s.rules.settings) past)
