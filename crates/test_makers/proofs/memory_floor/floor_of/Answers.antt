use Rattle.std.proofs.Common.{length}
use Rattle.test_makers.proofs.Links.{offline}
use Rattle.test_makers.proofs.memory_floor.floor_of.Goals as goal

pub returns-in-Ok : goal.returns-in-Ok
returns-in-Ok c =
    offline c.in-Ok.floor c.args.sessions c.args.ports c.args.materials c.args.queue.rows (length c.new-prints.result) c.requires.sessions
    c.in-Ok.ensures.new
