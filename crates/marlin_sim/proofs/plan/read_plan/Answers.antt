use Rattle.marlin_sim.proofs.Places.{plan_read}
use Rattle.marlin_sim.proofs.plan.read_plan.Goals as goal

pub returns-clause-plan : goal.returns-clause-plan
returns-clause-plan c = plan_read c.args.words.now c.plan_in.result c.plan_in.ensures
