use Rattle.octo_session_print.proofs.Runs.{every_print}
use Rattle.octo_session_print.proofs.laws.every_print_follows_its_plan.Goals as goal

pub returns : goal.returns
returns c = every_print
