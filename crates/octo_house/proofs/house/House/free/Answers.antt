use Rattle.std.proofs.Common.{List, subst}
use Rattle.octo_house.proofs.house.House.free.Goals as goal

pub returns-in-AutoConnect-clause-done : goal.returns-in-AutoConnect-clause-done
returns-in-AutoConnect-clause-done c = rw c.in-AutoConnect.is c.connect_itself.ensures.done
