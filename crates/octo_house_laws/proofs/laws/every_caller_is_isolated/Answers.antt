use Rattle.octo_house_laws.proofs.Own.{every_caller}
use Rattle.octo_house_laws.proofs.laws.every_caller_is_isolated.Goals as goal

pub returns : goal.returns
returns c = every_caller
