use Rattle.test_makers.proofs.Links.{first_up}
use Rattle.test_makers.proofs.memory_floor.join.Goals as goal

pub invariant_of-result : goal.invariant_of-result
invariant_of-result c =
    record { up = first_up c.in-Some.floor.bays c.args.links (rw c.in-Some.is at c.requires.floor) c.requires.links }
