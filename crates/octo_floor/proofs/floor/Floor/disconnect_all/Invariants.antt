use Rattle.std.proofs.Common.{◌≡◌, length}
use Rattle.octo_floor.specs.Leaving.{AreDisconnected}
use Rattle.octo_floor.proofs.floor.Floor.disconnect_all.Given as goal

-- the printers so far are disconnected
abbrev pub invariant-loop-printer : goal.invariant-loop-printer
invariant-loop-printer l = record { first : AreDisconnected l.printer l.initial.self l.self; end : l.printer-end ≡ length l.initial.self.bays }
