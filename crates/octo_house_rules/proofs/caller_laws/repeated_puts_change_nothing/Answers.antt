use Rattle.octo_house_rules.proofs.Repeated.{once}
use Rattle.octo_house_rules.proofs.caller_laws.repeated_puts_change_nothing.Goals as goal

pub returns : goal.returns
returns c = once
