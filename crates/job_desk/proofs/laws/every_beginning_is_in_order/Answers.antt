use Rattle.job_desk.proofs.Plain.{beginning}
use Rattle.job_desk.proofs.laws.every_beginning_is_in_order.Goals as goal

pub returns : goal.returns
returns c = beginning
