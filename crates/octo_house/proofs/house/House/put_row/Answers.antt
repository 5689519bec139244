use Rattle.std.proofs.Common.{refl}
use Rattle.octo_house.specs.State.{known_of}
use Rattle.octo_house.proofs.house.House.put_row.Goals as goal

pub returns-in-PutUser-clause-done : goal.returns-in-PutUser-clause-done
returns-in-PutUser-clause-done g c = rw c.in-PutUser.is (λ files. c.put_user.ensures.done (known_of c.args.self.now) refl)

pub returns-in-ChangeUser-clause-done : goal.returns-in-ChangeUser-clause-done
returns-in-ChangeUser-clause-done g c = rw c.in-ChangeUser.is (λ files. c.change_user.ensures.done (known_of c.args.self.now) refl)
