use Rattle.std.proofs.Common.{take}
use Rattle.gcode_measure.proofs.RestLaws.{HasHead}
use Rattle.gcode_measure.proofs.remainder.head_before.Given as goal

abbrev pub invariant-loop-i : goal.invariant-loop-i
invariant-loop-i l = HasHead (take l.from l.job.commands) l.i l.head
