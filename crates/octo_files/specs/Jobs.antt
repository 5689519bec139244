-- The job of a file's bytes.
use Rattle.std.specs.Prelude.{ℕ, ◌+◌, Bool, true, false, nat_lt, if◌then◌else◌, List, length, Option, Some, None, Result, Ok, Err}
use Rattle.gcode_lines.specs.Commands.{job_of}
use Rattle.gcode_lines.specs.Job.{JobData, most_bytes}
use Rattle.gcode_lines.specs.declared.fault.FileFault.{FileFault}
use Rattle.gcode_lines.specs.declared.fault.FileFault.TheVariants.{TooLarge}
use Rattle.octo_files.specs.declared.report.Report.{Report}
use Rattle.octo_files.specs.declared.report.Report.TheVariants as report
use Rattle.temp_rules.specs.Hot.{first_hot_of}
use Rattle.temp_rules.specs.declared.job.HotLine.{HotLine}
use Rattle.temp_rules.specs.declared.limits.Limits.{Limits}

-- a job, unless its file is refused
abbrev pub unless_refused : Result JobData FileFault → Result JobData Report
unless_refused (Ok job) = Ok job
unless_refused (Err fault) = Err (report.BadFile fault)

-- the job of a file; of one that is too large no more is read than shows it
abbrev pub any_job_in : List ℕ → Result JobData Report
any_job_in bytes =
    if nat_lt most_bytes (length bytes) then Err (report.BadFile (TooLarge (most_bytes + 1))) else unless_refused (job_of bytes)

-- a job, unless a command is too hot
abbrev pub unless_hot : JobData → Option HotLine → Result JobData Report
unless_hot job None = Ok job
unless_hot job (Some hot) = Err (report.TooHot hot)

-- a job within limits
abbrev pub within : Limits → Result JobData Report → Result JobData Report
within limits (Ok job) = unless_hot job (first_hot_of limits job.commands)
within limits (Err refusal) = Err refusal

-- the job of a file, none of whose commands is too hot
abbrev pub job_in : Limits → List ℕ → Result JobData Report
job_in limits bytes = within limits (any_job_in bytes)

-- a report of a job, or the one that refuses its file
abbrev pub report_or_refusal : (JobData → Report) → Result JobData Report → Report
report_or_refusal of (Ok job) = of job
report_or_refusal of (Err refusal) = refusal

-- the reports that a file isn't read or isn't one
abbrev pub is_file_refusal : Report → Bool
is_file_refusal (report.BadFile fault) = true
is_file_refusal report.SourceFailed = true
is_file_refusal report.NoMemory = true
is_file_refusal r = false

-- the reports that there is no job within limits
abbrev pub is_refusal : Report → Bool
is_refusal (report.TooHot hot) = true
is_refusal r = is_file_refusal r
