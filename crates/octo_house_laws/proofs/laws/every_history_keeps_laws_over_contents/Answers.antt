use Rattle.octo_house_laws.proofs.Contents.{keeps_over}
use Rattle.octo_house_laws.proofs.laws.every_history_keeps_laws_over_contents.Goals as goal

pub returns : goal.returns
returns c = keeps_over
