use Rattle.octo_house_laws.proofs.Calls.{every_call}
use Rattle.octo_house_laws.proofs.laws.every_call_is_by_a_permitted_caller.Goals as goal

pub returns : goal.returns
returns c = every_call
