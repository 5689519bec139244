use Rattle.std.proofs.Common.{◌≡◌, true}
use Rattle.octo_house_rules.specs.Known.{is_held}
use Rattle.octo_house.specs.State.{known_of}
use Rattle.octo_house.proofs.house.House.put_entry.Goals as goal

pub returns-clause-done : goal.returns-clause-done
returns-clause-done g c =
    let held : is_held c.args.asked.now.file (known_of c.args.self.now) ≡ true = cc in
    rw held (c.put_entry.ensures.done (known_of c.args.self.now))
