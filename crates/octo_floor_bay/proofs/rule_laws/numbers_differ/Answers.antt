use Rattle.octo_floor_bay.proofs.Numbers.{numbers_differ}
use Rattle.octo_floor_bay.proofs.rule_laws.numbers_differ.Goals as goal

pub returns : goal.returns
returns c = numbers_differ
