use Rattle.std.proofs.Common.{take}
use Rattle.std.specs.Prelude.{All}
use Rattle.octo_floor_bay.specs.Bay.{IsBay}
use Rattle.octo_floor_command.proofs.running.know_bays.Given as goal

-- the bays so far
abbrev pub invariant-loop-bay : goal.invariant-loop-bay
invariant-loop-bay l = All IsBay (take l.bay-index l.bays)
