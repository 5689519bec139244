-- The exit status and the text of each report.
use Rattle.std.specs.Prelude.{ℕ, Bool, true, false, List, ◌++◌, codes, decimal}
use Rattle.octo_house.specs.declared.faults.BeginFault.{BeginFault}
use Rattle.octo_house.specs.declared.faults.BeginFault.TheVariants as begin
use Rattle.octo_files.specs.declared.report.Report.TheVariants as report
use Rattle.octo_files.specs.Status.{code_of}
use Rattle.octo_files.specs.Texts.{report_text}
use Rattle.octo_serve_command.specs.declared.report.HostReport.{HostReport}
use Rattle.octo_serve_command.specs.declared.report.HostReport.TheVariants as host

-- the exit status
abbrev pub host_code : HostReport → ℕ
host_code (host.Served calls) = 0
host_code (host.DoorFailed calls) = 12
host_code host.KeeperFailed = 9
host_code host.ShelfFailed = 9
host_code (host.Command report) = code_of report

-- how many calls were served
abbrev pub calls_text : ℕ → List ℕ
calls_text calls = codes "served " ++ decimal calls ++ codes " calls\n"

-- the printed text
abbrev pub host_text : HostReport → List ℕ
host_text (host.Served calls) = calls_text calls
host_text (host.DoorFailed calls) = calls_text calls ++ codes "door failed\n"
host_text host.KeeperFailed = codes "keeper failed\n"
host_text host.ShelfFailed = codes "shelf failed\n"
host_text (host.Command report) = report_text report

-- why a host didn't begin
abbrev pub begin_fault_report : BeginFault → HostReport
begin_fault_report begin.KeeperFailed = host.KeeperFailed
begin_fault_report begin.ShelfFailed = host.ShelfFailed
begin_fault_report begin.NoMemory = host.Command report.NoMemory

-- what is reported of a host that has served
abbrev pub served_report : ℕ → Bool → HostReport
served_report calls true = host.Served calls
served_report calls false = host.DoorFailed calls
