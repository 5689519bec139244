use Rattle.gcode_lines.proofs.JobLaws.{sendable_job, rising_job}
use Rattle.gcode_lines.proofs.laws.job_law.Goals as goal

pub returns : goal.returns
returns c = record { sendable = sendable_job; rising = rising_job }
