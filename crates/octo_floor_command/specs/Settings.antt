-- What reading the settings of a floor comes to.
use Rattle.std.specs.Prelude.{◌≡◌, ◌⊎◌, ℕ, List, Option, Result, Ok, Err, IsUtf8}
use Rattle.octo_outside.specs.Traits.{Files}
use Rattle.octo_files.specs.Reading.{FileGives, IsTroubled}
use Rattle.octo_files.specs.declared.report.Report.{Report}
use Rattle.octo_files.specs.declared.report.Report.TheVariants as report
use Rattle.octo_settings.specs.declared.fault.SettingsFault.{SettingsFault}
use Rattle.octo_settings.specs.declared.fault.SettingsFault.TheVariants.{NotToml}
use Rattle.octo_settings.specs.Floor.{floor_config}
use Rattle.octo_settings.specs.declared.floor.FloorSettings.{FloorSettings}

-- settings, unless they are refused
abbrev pub floor_settings_or : Result FloorSettings SettingsFault → Result FloorSettings Report
floor_settings_or (Ok settings) = Ok settings
floor_settings_or (Err fault) = Err (report.BadSettings fault)

-- what settings bytes say
pub record AreFloorSettings (bytes : List ℕ) (result : Result FloorSettings Report) : Type 0 where
  pub text : IsUtf8 bytes → result ≡ floor_settings_or (floor_config bytes)
  pub no_text : (IsUtf8 bytes → ⊥) → result ≡ Err (report.BadSettings NotToml)

-- the settings of a file
abbrev pub HaveFloorSettings : Option Files → List ℕ → Result FloorSettings Report → Type 0
HaveFloorSettings files name result = IsTroubled result ⊎ FileGives files name (λ bytes. AreFloorSettings bytes result)
