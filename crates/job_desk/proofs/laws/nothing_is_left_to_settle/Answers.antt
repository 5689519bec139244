use Rattle.job_desk.proofs.Settled.{settled_by_steps}
use Rattle.job_desk.proofs.laws.nothing_is_left_to_settle.Goals as goal

pub returns : goal.returns
returns c = settled_by_steps
