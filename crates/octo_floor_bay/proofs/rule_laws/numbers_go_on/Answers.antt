use Rattle.octo_floor_bay.proofs.Numbers.{numbers_go_on}
use Rattle.octo_floor_bay.proofs.rule_laws.numbers_go_on.Goals as goal

pub returns : goal.returns
returns c = numbers_go_on
