-- The exit status of each report.
use Rattle.std.specs.Prelude.{ℕ}
use Rattle.gcode_lines.specs.declared.fault.FileFault.{FileFault}
use Rattle.gcode_lines.specs.declared.fault.FileFault.TheVariants as file
use Rattle.octo_settings.specs.declared.fault.SettingsFault.{SettingsFault}
use Rattle.octo_settings.specs.declared.fault.SettingsFault.TheVariants as settings
use Rattle.octo_files.specs.declared.report.Report.{Report}
use Rattle.octo_files.specs.declared.report.Report.TheVariants as report

-- of refused settings, unless memory ran out
abbrev pub settings_code : SettingsFault → ℕ
settings_code settings.NoMemory = 11
settings_code fault = 7

-- of a refused file, unless memory ran out
abbrev pub file_code : FileFault → ℕ
file_code file.NoMemory = 11
file_code fault = 3

-- the exit status
abbrev pub code_of : Report → ℕ
code_of (report.Printed commands skipped) = 0
code_of (report.Checked commands skipped tool bed) = 0
code_of (report.Measured measure) = 0
code_of (report.Rest text) = 0
code_of (report.Demo text status) = status
code_of report.BadWords = 2
code_of (report.BadSettings fault) = settings_code fault
code_of (report.BadFile fault) = file_code fault
code_of (report.TooHot hot) = 3
code_of (report.BadMeasure fault) = 3
code_of (report.Past count) = 3
code_of report.SourceFailed = 4
code_of report.LinkFailed = 5
code_of (report.NoPort port) = 5
code_of (report.Ended end) = 6
code_of (report.TurnsUsed turns) = 10
code_of report.NoMemory = 11
