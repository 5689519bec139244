-- What reading settings comes to.
use Rattle.std.specs.Prelude.{◌≡◌, ◌⊎◌, ℕ, Bool, true, false, List, Option, Some, None, Result, Ok, Err, IsUtf8}
use Rattle.octo_files.specs.Reading.{FileGives, IsTroubled}
use Rattle.octo_outside.specs.Traits.{Files}
use Rattle.octo_files.specs.declared.report.Report.{Report}
use Rattle.octo_files.specs.declared.report.Report.TheVariants as report
use Rattle.octo_settings.specs.Config.{config, plain_settings}
use Rattle.octo_settings.specs.declared.fault.SettingsFault.{SettingsFault}
use Rattle.octo_settings.specs.declared.fault.SettingsFault.TheVariants.{NotToml}
use Rattle.octo_settings.specs.declared.settings.Settings.{Settings}

-- settings, unless they are refused
abbrev pub settings_or : Result Settings SettingsFault → Result Settings Report
settings_or (Ok settings) = Ok settings
settings_or (Err fault) = Err (report.BadSettings fault)

-- what settings bytes say
pub record AreSettings (bytes : List ℕ) (result : Result Settings Report) : Type 0 where
  pub text : IsUtf8 bytes → result ≡ settings_or (config bytes)
  pub no_text : (IsUtf8 bytes → ⊥) → result ≡ Err (report.BadSettings NotToml)

-- the settings of a file, the defaults if none is named
abbrev pub HaveSettings : Option Files → Option (List ℕ) → Result Settings Report → Type 0
HaveSettings files None result = result ≡ Ok plain_settings
HaveSettings files (Some name) result = IsTroubled result ⊎ FileGives files name (λ bytes. AreSettings bytes result)

-- the reports that there are no settings
abbrev pub is_settings_refusal : Report → Bool
is_settings_refusal (report.BadSettings fault) = true
is_settings_refusal report.SourceFailed = true
is_settings_refusal report.NoMemory = true
is_settings_refusal r = false
