use Rattle.std.proofs.Common.{◌≡◌, drop}
use Rattle.printer_model.specs.Executed.{till}
use Rattle.printer_model.specs.World.{world_from, world_of}
use Rattle.printer_model.proofs.session_executed.replay.Given as goal

abbrev pub invariant-loop-event : goal.invariant-loop-event
invariant-loop-event l = world_from l.world (till l.left (drop l.event-index l.past)) ≡ world_of l.fn.slots l.fn.oks (till l.fn.session l.past)
