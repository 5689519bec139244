-- The exit status and the text of each report of a floor.
use Rattle.std.specs.Prelude.{ℕ, List, codes}
use Rattle.octo_files.specs.Status.{code_of}
use Rattle.octo_files.specs.Texts.{report_text}
use Rattle.octo_files.specs.declared.report.Report.TheVariants.{NoMemory}
use Rattle.octo_floor_command.specs.RunReports.{floor_code, floor_text}
use Rattle.octo_floor_bay.specs.declared.end.FloorFault.{FloorFault}
use Rattle.octo_floor_bay.specs.declared.end.FloorFault.TheVariants as fault
use Rattle.octo_floor_command.specs.declared.report.FloorReport.{FloorReport}
use Rattle.octo_floor_command.specs.declared.report.FloorReport.TheVariants as floor

-- the exit status
abbrev pub floor_report_code : FloorReport → ℕ
floor_report_code (floor.Ran end turns) = floor_code end
floor_report_code floor.KeeperFailed = 9
floor_report_code floor.ShelfFailed = 9
floor_report_code (floor.Command report) = code_of report

-- the printed text
abbrev pub floor_report_text : FloorReport → List ℕ
floor_report_text (floor.Ran end turns) = floor_text end turns
floor_report_text floor.KeeperFailed = codes "keeper failed\n"
floor_report_text floor.ShelfFailed = codes "shelf failed\n"
floor_report_text (floor.Command report) = report_text report

-- why a floor didn't begin
abbrev pub floor_fault_report : FloorFault → FloorReport
floor_fault_report fault.KeeperFailed = floor.KeeperFailed
floor_fault_report fault.ShelfFailed = floor.ShelfFailed
floor_fault_report fault.NoMemory = floor.Command NoMemory
