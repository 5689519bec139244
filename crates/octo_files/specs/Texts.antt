-- The text of each report.
use Rattle.std.specs.Prelude.{ℕ, Bool, true, false, List, ◌++◌, codes, decimal}
use Rattle.gcode_measure.specs.Shown.{measure_text}
use Rattle.octo_files.specs.Faults.{settings_text, file_text, hot_text, measure_fault_text, end_text}
use Rattle.octo_files.specs.declared.report.Report.{Report}
use Rattle.octo_files.specs.declared.report.Report.TheVariants as report

-- all was printed
abbrev pub printed_text : ℕ → ℕ → List ℕ
printed_text commands skipped =
    codes "done: " ++ decimal commands ++ codes " commands, " ++ decimal skipped ++ codes " skipped\n"

-- what a check found
abbrev pub checked_text : ℕ → ℕ → ℕ → ℕ → List ℕ
checked_text commands skipped tool bed =
    codes "commands " ++ decimal commands
    ++ codes "\nskipped " ++ decimal skipped
    ++ codes "\nhottest tool " ++ decimal tool
    ++ codes "\nhottest bed " ++ decimal bed
    ++ codes "\n"

-- a file that ends before a command
abbrev pub past_text : ℕ → List ℕ
past_text count = codes "file: " ++ decimal count ++ codes " commands\n"

-- a port that the link doesn't list
abbrev pub port_text : List ℕ → List ℕ
port_text port = codes "port " ++ port ++ codes " is not listed\n"

-- all turns were made
abbrev pub turns_text : ℕ → List ℕ
turns_text turns = codes "turns used: " ++ decimal turns ++ codes "\n"

-- the printed text
abbrev pub report_text : Report → List ℕ
report_text (report.Printed commands skipped) = printed_text commands skipped
report_text (report.Checked commands skipped tool bed) = checked_text commands skipped tool bed
report_text (report.Measured measure) = measure_text measure
report_text (report.Rest text) = text
report_text (report.Demo text status) = text.items
report_text report.BadWords = codes "octo: bad words\n"
report_text (report.BadSettings fault) = settings_text fault
report_text (report.BadFile fault) = file_text fault
report_text (report.TooHot hot) = hot_text hot
report_text (report.BadMeasure fault) = measure_fault_text fault
report_text (report.Past count) = past_text count
report_text report.SourceFailed = codes "source failed\n"
report_text report.LinkFailed = codes "link failed\n"
report_text (report.NoPort port) = port_text port
report_text (report.Ended end) = end_text end
report_text (report.TurnsUsed turns) = turns_text turns
report_text report.NoMemory = codes "no memory\n"

-- whether a report is a file
abbrev pub is_rest : Report → Bool
is_rest (report.Rest text) = true
is_rest r = false
