use Rattle.octo_house_laws.proofs.Calls.{every_put}
use Rattle.octo_house_laws.proofs.laws.every_put_is_made_once.Goals as goal

pub returns : goal.returns
returns c = every_put
