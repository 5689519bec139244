use Rattle.octo_house_rules.proofs.Histories.{keeps_outcomes}
use Rattle.octo_house_rules.proofs.history_laws.every_history_keeps_outcomes.Goals as goal

pub returns : goal.returns
returns c = keeps_outcomes
