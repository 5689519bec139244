-- No refusal of settings has the status of an output that failed.
use Rattle.std.proofs.Common.{◌≡◌, refl, true, false, arith}
use Rattle.octo_files.specs.Settings.{is_settings_refusal}
use Rattle.octo_serve_command.specs.Reports.{host_code}
use Rattle.octo_serve_command.specs.declared.report.HostReport.{HostReport}
use Rattle.octo_serve_command.specs.declared.report.HostReport.TheVariants as host
use Rattle.octo_files.specs.Status.{code_of, settings_code}
use Rattle.octo_files.specs.declared.report.Report.{Report}
use Rattle.octo_files.specs.declared.report.Report.TheVariants as report
use Rattle.octo_settings.specs.declared.fault.SettingsFault.{SettingsFault}
use Rattle.octo_settings.specs.declared.fault.SettingsFault.TheVariants as settings

other_settings : (fault : SettingsFault) → settings_code fault ≡ 8 → ⊥
other_settings settings.NotToml is = let bad : 7 ≡ 8 = is in absurd (omega arith)
other_settings (settings.Missing key) is = let bad : 7 ≡ 8 = is in absurd (omega arith)
other_settings (settings.WrongKind key) is = let bad : 7 ≡ 8 = is in absurd (omega arith)
other_settings (settings.OutOfRange key) is = let bad : 7 ≡ 8 = is in absurd (omega arith)
other_settings (settings.Template script) is = let bad : 7 ≡ 8 = is in absurd (omega arith)
other_settings (settings.TooHot script line) is = let bad : 7 ≡ 8 = is in absurd (omega arith)
other_settings settings.NoMemory is = let bad : 11 ≡ 8 = is in absurd (omega arith)

no_refusal : false ≡ true → ⊥
no_refusal is = absurd (cc)

pub other_report : (r : Report) → is_settings_refusal r ≡ true → code_of r ≡ 8 → ⊥
other_report (report.BadSettings fault) refusal is = other_settings fault is
other_report report.SourceFailed refusal is = let bad : 4 ≡ 8 = is in absurd (omega arith)
other_report report.NoMemory refusal is = let bad : 11 ≡ 8 = is in absurd (omega arith)
other_report (report.Printed commands skipped) refusal is = no_refusal refusal
other_report (report.Checked commands skipped tool bed) refusal is = no_refusal refusal
other_report (report.Measured measure) refusal is = no_refusal refusal
other_report (report.Rest text) refusal is = no_refusal refusal
other_report (report.Demo text status) refusal is = no_refusal refusal
other_report report.BadWords refusal is = no_refusal refusal
other_report (report.BadFile fault) refusal is = no_refusal refusal
other_report (report.TooHot hot) refusal is = no_refusal refusal
other_report (report.BadMeasure fault) refusal is = no_refusal refusal
other_report (report.Past count) refusal is = no_refusal refusal
other_report report.LinkFailed refusal is = no_refusal refusal
other_report (report.NoPort port) refusal is = no_refusal refusal
other_report (report.Ended end) refusal is = no_refusal refusal
other_report (report.TurnsUsed turns) refusal is = no_refusal refusal

-- so with a host that reports nothing else of the other commands
pub other_host : (r : HostReport) → ((why : Report) → r ≡ host.Command why → is_settings_refusal why ≡ true) → host_code r ≡ 8 → ⊥
other_host (host.Served calls) refusals is = let bad : 0 ≡ 8 = is in absurd (omega arith)
other_host (host.DoorFailed calls) refusals is = let bad : 12 ≡ 8 = is in absurd (omega arith)
other_host host.KeeperFailed refusals is = let bad : 9 ≡ 8 = is in absurd (omega arith)
other_host host.ShelfFailed refusals is = let bad : 9 ≡ 8 = is in absurd (omega arith)
other_host (host.Command why) refusals is = other_report why (refusals why refl) is
