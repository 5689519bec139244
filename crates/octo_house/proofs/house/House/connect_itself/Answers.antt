use Rattle.octo_house.specs.State.{known_of}
use Rattle.octo_house.proofs.house.House.connect_itself.Goals as goal

pub returns-clause-done : goal.returns-clause-done
returns-clause-done c = c.connect.ensures.done (known_of c.args.self.now)
