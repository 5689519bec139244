use Rattle.octo_house_rules.proofs.Denied.{access}
use Rattle.octo_house_rules.proofs.caller_laws.permitted_callers_are_answered.Goals as goal

pub returns : goal.returns
returns c = access
