-- What a session is started with.
use Rattle.std.specs.Prelude.{◌≡◌, ℕ, ◌*◌, ◌/◌, ◌<◌, ◌≤◌, ◌||◌, max, nat_lt, Result, Ok, Err, if◌then◌else◌}
use Rattle.h263_types.specs.declared.params.Params.{Params}
use Rattle.h263_types.specs.declared.params.ParamFault.{ParamFault}
use Rattle.h263_types.specs.Params.{IsParams, ranges, range_verdict}
use Rattle.h263_types.specs.Clocks.{period_of}
use Rattle.stream_numbers.specs.Placing.{IsRate}
use Rattle.session_intake.specs.declared.settings.Settings.{Settings}
use Rattle.session_intake.specs.declared.settings.SettingFault.{SettingFault}
use Rattle.session_intake.specs.declared.settings.SettingFault.TheVariants as faults

-- how long so many pictures take: the longest wait in which no more of them come
abbrev pub longest_wait : ℕ → ℕ → ℕ → ℕ
longest_wait lead rate second = lead * second * 1000000000 / rate

abbrev pub with_rate : Params → ℕ → ℕ → ℕ → Result Settings SettingFault
with_rate p rate second wait =
    if nat_lt rate 1 || nat_lt 65536 rate then Err faults.Rate
    else if nat_lt second 1 || nat_lt 4096 second then Err faults.Rate
    else if nat_lt (longest_wait p.lead rate second) wait then Err faults.Lead
    else Ok (record {
      params = p;
      rate = record { period = period_of p.clock; rate = rate; second = second };
      wait = wait;
    })

abbrev pub with_params : Params → Result (Unit {0}) ParamFault → ℕ → ℕ → ℕ → Result Settings SettingFault
with_params p (Err fault) rate second wait = Err (faults.Params fault)
with_params p (Ok u) rate second wait = with_rate p rate second wait

-- What they are where they can be. A wait of less than a millisecond counts as one.
abbrev pub settings_of : Params → ℕ → ℕ → ℕ → Result Settings SettingFault
settings_of p rate second wait = with_params p (range_verdict (ranges p)) rate second (max wait 1000000)

-- the settings that there are
pub record IsSettings (s : Settings) : Type 0 where
  pub params : IsParams s.params
  pub period : s.rate.period ≡ period_of s.params.clock
  pub rate : IsRate s.rate
  pub wait : s.wait < 4611686018427387904
  pub held : s.wait ≤ longest_wait s.params.lead s.rate.rate s.rate.second
