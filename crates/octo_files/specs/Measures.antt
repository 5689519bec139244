-- What a measure reports, and the rest of a file.
use Rattle.std.specs.Prelude.{◌≡◌, ℕ, Bool, true, false, List, Result, Ok, Err, IsOkAnd}
use Rattle.gcode_lines.specs.Job.{JobData}
use Rattle.gcode_measure.specs.Measured.{measure_of}
use Rattle.gcode_measure.specs.Rest.{rest_of, IsRest}
use Rattle.gcode_measure.specs.declared.fault.MeasureFault.{MeasureFault}
use Rattle.gcode_measure.specs.declared.fault.RestFault.{RestFault}
use Rattle.gcode_measure.specs.declared.fault.RestFault.TheVariants as fault
use Rattle.gcode_measure.specs.declared.totals.Measure.{Measure}
use Rattle.octo_files.specs.Jobs.{any_job_in, report_or_refusal, is_file_refusal}
use Rattle.octo_files.specs.declared.report.Report.{Report}
use Rattle.octo_files.specs.declared.report.Report.TheVariants as report

-- a measure, unless the job can't be measured
abbrev pub measure_or : Result Measure MeasureFault → Report
measure_or (Ok measure) = report.Measured measure
measure_or (Err refused) = report.BadMeasure refused

-- the measure of a job
abbrev pub job_measure_report : JobData → Report
job_measure_report job = measure_or (measure_of job)

-- the measure of a file
abbrev pub measure_report : List ℕ → Report
measure_report bytes = report_or_refusal job_measure_report (any_job_in bytes)

-- the reports of measures
abbrev pub is_measure : Report → Bool
is_measure (report.Measured measure) = true
is_measure (report.BadMeasure refused) = true
is_measure r = is_file_refusal r

-- the rest of a file, unless there is none
abbrev pub rest_or : Result (List ℕ) RestFault → Report
rest_or (Ok text) = report.Rest text
rest_or (Err (fault.Measure refused)) = report.BadMeasure refused
rest_or (Err (fault.Past count)) = report.Past count
rest_or (Err fault.NoMemory) = report.NoMemory

-- the rest of a job, from a command on
abbrev pub job_rest_report : ℕ → JobData → Report
job_rest_report from job = rest_or (rest_of job from)

-- the rest of a file, from a command on
abbrev pub rest_report : ℕ → List ℕ → Report
rest_report from bytes = report_or_refusal (job_rest_report from) (any_job_in bytes)

-- a file that is reported is the rest of a job, from a command on
abbrev pub GoesOnFrom : JobData → ℕ → Report → Type 0
GoesOnFrom job from (report.Rest text) = IsRest job from text
GoesOnFrom job from r = Unit {0}

-- a file that is reported is the rest of the job of these bytes, from a command on
abbrev pub GoesOnWith : List ℕ → ℕ → Report → Type 0
GoesOnWith bytes from (report.Rest text) = IsOkAnd (any_job_in bytes) (λ job. IsRest job from text)
GoesOnWith bytes from r = Unit {0}

-- the report of the rest of a file, and what that rest is
pub record IsRestReport (from : ℕ) (bytes : List ℕ) (r : Report) : Type 0 where
  pub is : r ≡ rest_report from bytes
  pub goes_on : GoesOnWith bytes from r

-- the reports of files that go on
abbrev pub is_rest : Report → Bool
is_rest (report.Rest text) = true
is_rest (report.Past count) = true
is_rest (report.BadMeasure refused) = true
is_rest r = is_file_refusal r
