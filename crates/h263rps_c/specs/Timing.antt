-- What a session is started with: the numbers of the header.
use Rattle.std.specs.Prelude.{ℕ, Result, Ok, Err}
use Rattle.h263_types.specs.declared.params.Params.{Params}
use Rattle.session_intake.specs.declared.settings.Settings.{Settings}
use Rattle.session_intake.specs.declared.settings.SettingFault.{SettingFault}
use Rattle.session_intake.specs.declared.settings.SettingFault.TheVariants as faults
use Rattle.session_intake.specs.Settings.{settings_of}
use Rattle.h263rps_c.specs.declared.timing.Timing.{Timing}
use Rattle.h263rps_c.specs.Asked.{param_number}

-- which setting is out of its range
abbrev pub setting_number : SettingFault → ℕ
setting_number (faults.Params fault) = param_number fault
setting_number faults.Rate = 13
setting_number faults.Lead = 14

abbrev pub settings_numbered : Result Settings SettingFault → Result Settings ℕ
settings_numbered (Ok s) = Ok s
settings_numbered (Err fault) = Err (setting_number fault)

abbrev pub settings_with : Params → Timing → Result Settings ℕ
settings_with p t = settings_numbered (settings_of p t.rate t.second t.wait)

-- the settings, or the number of the first that is out of its range: the parameters come first
abbrev pub settings_in : Result Params ℕ → Timing → Result Settings ℕ
settings_in (Err number) t = Err number
settings_in (Ok p) t = settings_with p t
