use Rattle.gcode_lines.proofs.Kept.{job_found}
use Rattle.gcode_lines.proofs.job.Job.new.Goals as goal

pub invariant_of-result : goal.invariant_of-result
invariant_of-result c =
    record { job = job_found c.args.file c.args.places c.requires; ends = c.requires.ends }
