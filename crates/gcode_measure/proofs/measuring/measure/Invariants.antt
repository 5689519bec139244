use Rattle.gcode_measure.proofs.MeasureLaws.{HasRun}
use Rattle.gcode_measure.proofs.measuring.measure.Given as goal

abbrev pub invariant-loop-i : goal.invariant-loop-i
invariant-loop-i l = HasRun l.job l.i l.pass.head l.pass.measure
