use Rattle.octo_house_rules.proofs.Isolated.{isolation}
use Rattle.octo_house_rules.proofs.caller_laws.callers_are_isolated.Goals as goal

pub returns : goal.returns
returns c = isolation
