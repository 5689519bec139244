use Rattle.job_desk.proofs.Runs.{every_run}
use Rattle.job_desk.proofs.laws.every_run_has_stories.Goals as goal

pub returns : goal.returns
returns c = every_run
