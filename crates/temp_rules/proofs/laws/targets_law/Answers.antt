use Rattle.temp_rules.proofs.Greatest.{seen-all}
use Rattle.temp_rules.proofs.laws.targets_law.Goals as goal

pub returns : goal.returns
returns c = seen-all
