use Rattle.job_desk.proofs.Plain.{plainly}
use Rattle.job_desk.proofs.laws.every_course_reads_plainly.Goals as goal

pub returns : goal.returns
returns c = plainly
