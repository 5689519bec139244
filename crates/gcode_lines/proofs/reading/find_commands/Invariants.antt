use Rattle.std.proofs.Common.{◌-◌, length}
use Rattle.gcode_lines.proofs.Lines.{HasRead}
use Rattle.gcode_lines.proofs.reading.find_commands.Given as goal

abbrev pub invariant-loop-at : goal.invariant-loop-at
invariant-loop-at l = HasRead l.bytes l.at l.number l.places

abbrev pub decreases-loop-at : goal.decreases-loop-at
decreases-loop-at l = length l.bytes - l.at
