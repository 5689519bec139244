use Rattle.octo_house_rules.proofs.Histories.{keeps_scripts}
use Rattle.octo_house_rules.proofs.history_laws.every_history_keeps_scripts.Goals as goal

pub returns : goal.returns
returns c = keeps_scripts
