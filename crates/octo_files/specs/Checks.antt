-- What a check reports.
use Rattle.std.specs.Prelude.{ℕ, Bool, true, List, length}
use Rattle.gcode_lines.specs.Job.{JobData, texts_of}
use Rattle.octo_files.specs.Jobs.{job_in, report_or_refusal, is_refusal}
use Rattle.octo_files.specs.declared.report.Report.{Report}
use Rattle.octo_files.specs.declared.report.Report.TheVariants as report
use Rattle.temp_rules.specs.Most.{TargetsData, hottest}
use Rattle.temp_rules.specs.declared.heater.Heater.TheVariants.{Tool, Bed}
use Rattle.temp_rules.specs.declared.limits.Limits.{Limits}

-- the greatest temperatures that texts ask for
abbrev pub targets_in : List (List ℕ) → TargetsData
targets_in texts = record { tool = hottest Tool texts; bed = hottest Bed texts }

-- the check of a job
abbrev pub job_check_report : JobData → Report
job_check_report job =
    report.Checked (length job.commands) job.skipped (hottest Tool (texts_of job)) (hottest Bed (texts_of job))

-- the check of a file
abbrev pub check_report : Limits → List ℕ → Report
check_report limits bytes = report_or_refusal job_check_report (job_in limits bytes)

-- the reports of checks
abbrev pub is_check : Report → Bool
is_check (report.Checked commands skipped tool bed) = true
is_check r = is_refusal r
