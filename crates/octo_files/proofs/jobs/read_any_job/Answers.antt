use Rattle.std.proofs.Common.{◌≡◌, inr, refl, ℕ, List, Result, Err}
use Rattle.gcode_lines.specs.Job.{JobData, most_bytes}
use Rattle.gcode_lines.specs.declared.fault.FileFault.TheVariants.{TooLarge}
use Rattle.octo_files.specs.Jobs.{any_job_in}
use Rattle.octo_files.proofs.Gives.{over_gives}
use Rattle.octo_files.proofs.TooLarge.{no_job}
use Rattle.octo_files.specs.declared.report.Report.{Report}
use Rattle.octo_files.specs.declared.report.Report.TheVariants as report
use Rattle.octo_files.proofs.jobs.read_any_job.Goals as goal

pub returns-in-Err-TooLong-clause-exact : goal.returns-in-Err-TooLong-clause-exact
returns-in-Err-TooLong-clause-exact g c =
    let refusal : Result JobData Report = Err (report.BadFile (TooLarge 67108865)) in
    let over = rw c.in-Err-TooLong.field-0-is at c.in-Err-TooLong.ensures.too_long in
    inr (over_gives (g.F.Source.files c.args.files.now) c.args.name.now most_bytes (λ bytes. refusal ≡ any_job_in bytes) (over refl) no_job)
