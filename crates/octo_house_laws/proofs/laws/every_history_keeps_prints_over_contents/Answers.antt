use Rattle.octo_house_laws.proofs.Prints.{every_history_over}
use Rattle.octo_house_laws.proofs.laws.every_history_keeps_prints_over_contents.Goals as goal

pub returns : goal.returns
returns c = every_history_over
