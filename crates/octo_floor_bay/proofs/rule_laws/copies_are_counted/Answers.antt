use Rattle.octo_floor_bay.proofs.Counting.{copies_counted}
use Rattle.octo_floor_bay.proofs.rule_laws.copies_are_counted.Goals as goal

pub returns : goal.returns
returns c = copies_counted
