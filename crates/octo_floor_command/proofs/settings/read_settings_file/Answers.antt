use Rattle.std.proofs.Common.{inr, refl, Result, Err}
use Rattle.octo_files.proofs.Gives.{over_gives}
use Rattle.octo_files.specs.declared.report.Report.{Report}
use Rattle.octo_files.specs.declared.report.Report.TheVariants as report
use Rattle.octo_settings.specs.Config.{most_config_bytes}
use Rattle.octo_settings.specs.declared.fault.SettingsFault.TheVariants.{NotToml}
use Rattle.octo_settings.specs.declared.floor.FloorSettings.{FloorSettings}
use Rattle.octo_floor_command.specs.Settings.{AreFloorSettings}
use Rattle.octo_floor_command.proofs.Configs.{held_settings, no_settings}
use Rattle.octo_floor_command.proofs.settings.read_settings_file.Goals as goal

pub returns-in-Ok-clause-exact : goal.returns-in-Ok-clause-exact
returns-in-Ok-clause-exact g c =
    held_settings (g.F.Source.files c.args.files.now) c.args.name.now _ c.as_slice.result.now c.settings_of_bytes.result
    c.in-Ok.ensures.ok c.as_slice.ensures c.settings_of_bytes.ensures.exact

pub returns-in-Err-TooLong-clause-exact : goal.returns-in-Err-TooLong-clause-exact
returns-in-Err-TooLong-clause-exact g c =
    let refusal : Result FloorSettings Report = Err (report.BadSettings NotToml) in
    let over = rw c.in-Err-TooLong.field-0-is at c.in-Err-TooLong.ensures.too_long in
    inr (over_gives (g.F.Source.files c.args.files.now) c.args.name.now most_config_bytes (λ bytes. AreFloorSettings bytes refusal) (over refl) no_settings)
